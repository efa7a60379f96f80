-- The entries of an index that loads are those of the revisions that its bytes hold.
use Rattle.std.proofs.Common.{◌≡◌, ℕ, zero, suc, ◌+◌, ◌/◌, List, [], ◌∷◌, ◌++◌, Bool, true, false, cond, length, map, take, drop, refl, sym, ◌∙◌, ap, append_assoc, append-nil, arith, length-append}
use Rattle.std.specs.Prelude.{nat_le, flat_map, replicate, Option, Some, None, Result, Ok, Err, IfSome, IsSome}
use Rattle.std.specs.List.{AllByRecursion}
use Rattle.std.proofs.lemmas.List.{length-map}
use Rattle.hgs_index.specs.declared.entry.Entry.{Entry}
use Rattle.hgs_index.specs.declared.entry.Header.{Header}
use Rattle.hgs_index.specs.declared.kinds.Which.TheVariants.{Changesets}
use Rattle.hgs_index.specs.Entry.{Fits, entry_bytes, head_bytes}
use Rattle.hgs_index.specs.Revision.{Revision, node_after}
use Rattle.hgs_index.specs.Revlog.{HoldsRevisions, Item, Stored, index_bytes, item_bytes, items, items_from}
use Rattle.hgs_revlog.specs.Held.{Agrees}
use Rattle.hgs_revlog.specs.Load.{after, checked, separate_at, entry_behind, fault_of, load_from, loaded, most_revisions, unless}
use Rattle.hgs_revlog.specs.Log.{Log, with_entry}
use Rattle.hgs_revlog.specs.declared.fault.RevFault.{RevFault}
use Rattle.hgs_revlog.specs.declared.fault.RevFault.TheVariants as faults
use Rattle.hgs_revlog.specs.declared.fault.Tail.TheVariants.{Refuse}
use Rattle.hgs_steps.specs.Below.{Below}

length-head : (offset : ℕ) (h : Option Header) → length (head_bytes offset h) ≡ 6
length-head offset None = refl
length-head offset (Some h) = refl

length-entry : (e : Entry) (h : Option Header) → length e.node.0 ≡ 20 → length (entry_bytes e h) ≡ 64
length-entry e h node = simp length-append (omega (arith, length-head e.offset h, length-append e.node.0 (replicate 12 0)))

-- ---- the bytes of entries, one after another

-- the bytes of entries, the first of which has this header
abbrev bytes_of : Header → Option Header → List Item → List ℕ
bytes_of h first [] = []
bytes_of h first (i ∷ more) = item_bytes h first i ++ bytes_of h None more

rest-bytes : (h : Header) (its : List Item) → flat_map (item_bytes h None) its ≡ bytes_of h None its
rest-bytes h [] = refl
rest-bytes h (i ∷ its) = ap (λ (bytes : List ℕ). item_bytes h None i ++ bytes) (rest-bytes h its)

all-bytes : (h : Header) (its : List Item) → index_bytes h its ≡ bytes_of h (Some h) its
all-bytes h [] = refl
all-bytes h (i ∷ its) = ap (λ (bytes : List ℕ). item_bytes h (Some h) i ++ bytes) (rest-bytes h its)

plain-item : (h : Header) (first : Option Header) (i : Item) → h.inline ≡ false → item_bytes h first i ≡ entry_bytes i.entry first
plain-item h first i e = ap (λ (b : Bool). entry_bytes i.entry first ++ cond b i.chunk []) e ∙ append-nil (entry_bytes i.entry first)

take-front : (n : ℕ) (xs ys : List ℕ) → length xs ≡ n → take n (xs ++ ys) ≡ xs
take-front zero [] ys e = refl
take-front zero (x ∷ xs) ys e = absurd (omega arith)
take-front (suc n) [] ys e = absurd (omega arith)
take-front (suc n) (x ∷ xs) ys e = ap (λ (l : List ℕ). x ∷ l) (take-front n xs ys (omega arith))

drop-front : (n : ℕ) (xs ys : List ℕ) → length xs ≡ n → drop n (xs ++ ys) ≡ ys
drop-front zero [] ys e = refl
drop-front zero (x ∷ xs) ys e = absurd (omega arith)
drop-front (suc n) [] ys e = absurd (omega arith)
drop-front (suc n) (x ∷ xs) ys e = drop-front n xs ys (omega arith)

-- ---- loading them

err-ok : {A B E : Type 0} (f : E) (x : A) → ◌≡◌ {A = Result A E} (Err f) (Ok x) → B
err-ok {A} {B} {E} f x h = absurd (no h)
  where
    no : ◌≡◌ {A = Result A E} (Err f) (Ok x) → ⊥
    no e = cc

-- where an index loads, the entry that its bytes are is taken
taken : (log : Log) (e : Entry) (bytes : List ℕ) (more : Entry → Result Log RevFault) (out_log : Log) → separate_at bytes (length log.entries) ≡ Ok e → after (entry_behind log.entries bytes) more ≡ Ok out_log → more e ≡ Ok out_log
taken log e bytes more out_log decoded h = limited (nat_le most_revisions (length log.entries)) (sym (ap (λ r. after (cond (nat_le most_revisions (length log.entries)) (Err (faults.Limit Changesets)) (checked log.entries r)) more) decoded) ∙ h)
  where
    faultless : (o : Option RevFault) → after (unless o e) more ≡ Ok out_log → more e ≡ Ok out_log
    faultless None g = g
    faultless (Some f) g = err-ok f out_log g

    limited : (b : Bool) → after (cond b (Err (faults.Limit Changesets)) (unless (fault_of log.entries e) e)) more ≡ Ok out_log → more e ≡ Ok out_log
    limited true g = err-ok (faults.Limit Changesets) out_log g
    limited false g = faultless (fault_of log.entries e) g

no-header : {B : Type 0} → IsSome {T = Header} None → B
no-header h = absurd (no h)
  where
    no : IsSome {T = Header} None → ⊥
    no e = cc

-- the first chunk begins at 0
abbrev BeginsAtStart : List Item → Type 0
BeginsAtStart [] = Unit {0}
BeginsAtStart (i ∷ its) = i.entry.offset ≡ 0

with-header : (e : Entry) (first : Option Header) → Fits e None → (IsSome first → e.offset ≡ 0) → Fits e first
with-header e first f start = record { offset = f.offset; flags = f.flags; stored = f.stored; size = f.size; base = f.base; link = f.link; p1 = f.p1; p2 = f.p2; node = f.node; first = start }

entries-loaded : (laws : Below) (h : Header) (first : Option Header) (its : List Item) (n : ℕ) (log out_log : Log) → h.inline ≡ false → IfSome first (λ x. x.inline ≡ false) → (IsSome first → length log.entries ≡ 0) → (length log.entries ≡ 0 → IsSome first) → (IsSome first → BeginsAtStart its)
    → AllByRecursion (λ (i : Item). Fits i.entry None) its → length its ≡ n → load_from Refuse n log (bytes_of h first its) ≡ Ok out_log → out_log.entries ≡ log.entries ++ map (λ (i : Item). i.entry) its
entries-loaded laws h first [] zero log out_log plain inline_is empty some start fits count e = ap (λ (l : Log). l.entries) (sym (ok-same log out_log e)) ∙ sym (append-nil log.entries)
  where
    ok-same : (x y : Log) → ◌≡◌ {A = Result Log RevFault} (Ok x) (Ok y) → x ≡ y
    ok-same x y g = cc
entries-loaded laws h first [] (suc n) log out_log plain inline_is empty some start fits count e = absurd (omega arith)
entries-loaded laws h first (i ∷ its) zero log out_log plain inline_is empty some start fits count e = absurd (omega arith)
entries-loaded laws h first (i ∷ its) (suc n) log out_log plain inline_is empty some start fits count e =
    entries-loaded laws h None its n (with_entry log i.entry) out_log plain tt (λ none. no-header none) (λ zero_is. absurd (omega (arith, zero_is, length-append log.entries (i.entry ∷ [])))) (λ none. no-header none) fits.1 (omega arith) behind
    ∙ append_assoc log.entries (i.entry ∷ []) (map (λ (x : Item). x.entry) its)
  where
    bytes : List ℕ
    bytes = entry_bytes i.entry first

    long : length bytes ≡ 64
    long = length-entry i.entry first fits.0.node

    whole : bytes_of h first (i ∷ its) ≡ bytes ++ bytes_of h None its
    whole = ap (λ (b : List ℕ). b ++ bytes_of h None its) (plain-item h first i plain)

    front : take 64 (bytes_of h first (i ∷ its)) ≡ bytes
    front = ap (take 64) whole ∙ take-front 64 bytes (bytes_of h None its) long

    back : drop 64 (bytes_of h first (i ∷ its)) ≡ bytes_of h None its
    back = ap (drop 64) whole ∙ drop-front 64 bytes (bytes_of h None its) long

    decoded : separate_at (take 64 (bytes_of h first (i ∷ its))) (length log.entries) ≡ Ok i.entry
    decoded = ap (λ (b : List ℕ). separate_at b (length log.entries)) front ∙ laws.decode i.entry first (length log.entries) (with-header i.entry first fits.0 start) inline_is empty some

    behind : load_from Refuse n (with_entry log i.entry) (bytes_of h None its) ≡ Ok out_log
    behind =
        ap (λ (b : List ℕ). load_from Refuse n (with_entry log i.entry) b) (sym back)
        ∙ taken log i.entry (take 64 (bytes_of h first (i ∷ its))) (λ x. load_from Refuse n (with_entry log x) (drop 64 (bytes_of h first (i ∷ its)))) out_log decoded e

length-items : (offset : ℕ) (known : List (List ℕ)) (stored : List Stored) → length (items_from offset known stored) ≡ length stored
length-items offset known [] = refl
length-items offset known (s ∷ stored) = ap suc (length-items (offset + length s.chunk) (known ++ node_after known s.revision ∷ []) stored)

begins : (stored : List Stored) → BeginsAtStart (items stored)
begins [] = tt
begins (s ∷ stored) = refl

-- Where bytes hold revisions, an index that loads has their entries.
pub entries-held : (laws : Below) (index data_bytes : List ℕ) (revisions : List Revision) (log : Log) → HoldsRevisions index data_bytes revisions → loaded Refuse index ≡ Ok log → Agrees index data_bytes log.entries revisions
entries-held laws index data_bytes revisions log h e = record { held = h; entries_are = entries-loaded laws h.header (Some h.header) (items h.stored) (length (items h.stored)) empty log h.form h.form (λ some. refl) (λ none. refl) (λ some. begins h.stored) h.fits refl behind }
  where
    empty : Log
    empty = record { inline = false; entries = [] }

    count : length index / 64 ≡ length (items h.stored)
    count =
        let all = laws.index_length index data_bytes revisions h in
        let these = ap (λ (l : List Revision). length l) h.these in
        omega (arith, all, these, length-map h.stored (λ (s : Stored). s.revision), length-items 0 [] h.stored)

    bytes : index ≡ bytes_of h.header (Some h.header) (items h.stored)
    bytes = h.index_is ∙ all-bytes h.header (items h.stored)

    behind : load_from Refuse (length (items h.stored)) empty (bytes_of h.header (Some h.header) (items h.stored)) ≡ Ok log
    behind = sym (λ i. load_from Refuse (count i) empty (bytes i)) ∙ e
