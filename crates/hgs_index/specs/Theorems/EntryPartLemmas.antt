-- An entry has 64 bytes, and they determine its fields.
use Rattle.std.proofs.Common.{◌≡◌, ℕ, ◌^◌, ◌<◌, List, ◌++◌, length, take, drop, Option, Some, None, refl, sym, ap, ◌∙◌, arith, append_assoc, length-append}
use Rattle.std.specs.Prelude.{IfSome, replicate}
use Rattle.std.specs.Int.{w32, from_be_bytes, to_be_bytes}
use Rattle.std.proofs.lemmas.List.{take_at, drop_at}
use Rattle.std.proofs.lemmas.Nat.{from_be_bytes-to_be_bytes_4}
use Rattle.hgs_index.specs.declared.entry.Entry.{Entry}
use Rattle.hgs_index.specs.declared.entry.Header.{Header}
use Rattle.hgs_index.specs.Entry.{Fits, head_bytes, parent_number, parent_of, entry_bytes}
use Rattle.hgs_index.specs.Theorems.EntryLemmas.{parent_back}

length-head_bytes : (offset : ℕ) (h : Option Header) → length (head_bytes offset h) ≡ 6
length-head_bytes offset None = refl
length-head_bytes offset (Some h) = refl

pub length-entry_bytes : (e : Entry) (h : Option Header) → length e.node.0 ≡ 20 → length (entry_bytes e h) ≡ 64
length-entry_bytes e h node = simp length-append (omega (arith, length-head_bytes e.offset h, length-append e.node.0 (replicate 12 0)))

word_same : (m n : ℕ) → m < 2 ^ 32 → n < 2 ^ 32 → to_be_bytes w32 m ≡ to_be_bytes w32 n → m ≡ n
word_same m n a b e = sym (from_be_bytes-to_be_bytes_4 m a) ∙ ap (from_be_bytes w32) e ∙ from_be_bytes-to_be_bytes_4 n b

parent_same : (p q : Option ℕ) → IfSome p (λ r. r < 2 ^ 31) → IfSome q (λ r. r < 2 ^ 31) → to_be_bytes w32 (parent_number p) ≡ to_be_bytes w32 (parent_number q) → p ≡ q
parent_same p q a b e =
    let one = parent_back p a in
    let two = parent_back q b in
    sym one.0 ∙ ap parent_of (word_same (parent_number p) (parent_number q) one.2 two.2 e) ∙ two.0

-- what two entries with the same bytes share, and what follows them
pub record SameFields (e f : Entry) (x y : List ℕ) : Type 0 where
  pub stored : e.stored ≡ f.stored
  pub size : e.size ≡ f.size
  pub link : e.link ≡ f.link
  pub p1 : e.p1 ≡ f.p1
  pub p2 : e.p2 ≡ f.p2
  pub node : e.node.0 ≡ f.node.0
  pub rest : x ≡ y

from_parts : (e f : Entry) (h k : Option Header) (x y : List ℕ) → Fits e h → Fits f k
    → to_be_bytes w32 e.stored ≡ to_be_bytes w32 f.stored → to_be_bytes w32 e.size ≡ to_be_bytes w32 f.size → to_be_bytes w32 e.link ≡ to_be_bytes w32 f.link
    → to_be_bytes w32 (parent_number e.p1) ≡ to_be_bytes w32 (parent_number f.p1) → to_be_bytes w32 (parent_number e.p2) ≡ to_be_bytes w32 (parent_number f.p2)
    → (e.node.0 ++ replicate 12 0) ++ x ≡ (f.node.0 ++ replicate 12 0) ++ y → SameFields e f x y
from_parts e f h k x y a b stored size link p1 p2 tail =
    let all = sym (append_assoc e.node.0 (replicate 12 0) x) ∙ tail ∙ append_assoc f.node.0 (replicate 12 0) y in
    let ends : replicate 12 0 ++ x ≡ replicate 12 0 ++ y = sym (drop_at e.node.0 (replicate 12 0 ++ x) 20 a.node) ∙ ap (drop 20) all ∙ drop_at f.node.0 (replicate 12 0 ++ y) 20 b.node in
    record {
      stored = word_same e.stored f.stored (let l = a.stored in omega arith) (let l = b.stored in omega arith) stored;
      size = word_same e.size f.size (let l = a.size in omega arith) (let l = b.size in omega arith) size;
      link = word_same e.link f.link (let l = a.link in omega arith) (let l = b.link in omega arith) link;
      p1 = parent_same e.p1 f.p1 a.p1 b.p1 p1;
      p2 = parent_same e.p2 f.p2 a.p2 b.p2 p2;
      node = sym (take_at e.node.0 (replicate 12 0 ++ x) 20 a.node) ∙ ap (take 20) all ∙ take_at f.node.0 (replicate 12 0 ++ y) 20 b.node;
      rest = ap (drop 12) ends;
    }

-- Entries with the same bytes, whatever follows, have the same fields, and the same follows.
pub later_same : (e f : Entry) (x y : List ℕ) → Fits e None → Fits f None → entry_bytes e None ++ x ≡ entry_bytes f None ++ y → SameFields e f x y
later_same e f x y a b s =
    from_parts e f None None x y a b (ap (λ l. take 4 (drop 8 l)) s) (ap (λ l. take 4 (drop 12 l)) s) (ap (λ l. take 4 (drop 20 l)) s)
    (ap (λ l. take 4 (drop 24 l)) s) (ap (λ l. take 4 (drop 28 l)) s) (ap (drop 32) s)

-- The same of entries that begin with a header.
pub first_same : (h k : Header) (e f : Entry) (x y : List ℕ) → Fits e None → Fits f None → entry_bytes e (Some h) ++ x ≡ entry_bytes f (Some k) ++ y → SameFields e f x y
first_same h k e f x y a b s =
    from_parts e f None None x y a b (ap (λ l. take 4 (drop 8 l)) s) (ap (λ l. take 4 (drop 12 l)) s) (ap (λ l. take 4 (drop 20 l)) s)
    (ap (λ l. take 4 (drop 24 l)) s) (ap (λ l. take 4 (drop 28 l)) s) (ap (drop 32) s)
