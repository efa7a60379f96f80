-- What stands in an index from the last of the old entries on.
use Rattle.std.proofs.Common.{◌≡◌, ℕ, ◌-◌, ◌<◌, ◌≤◌, true, false, cond, ◌&&◌, List, ◌++◌, length, take, drop, Option, Some, None, Ok, refl, ◌∙◌, ap, arith}
use Rattle.std.specs.Prelude.{◌==◌, nat_le, slice_get}
use Rattle.std.specs.Cmp.Lexicographic.{bytes_decides}
use Rattle.hgs_bytes.specs.Bytes.{IsPrefixOf, same}
use Rattle.hgs_index.specs.declared.entry.Entry.{Entry}
use Rattle.hgs_revlog.specs.declared.fault.Tail.TheVariants.{Ignore}
use Rattle.hgs_revlog.specs.Load.{separate_at, loaded}
use Rattle.hgs_revlog.specs.Log.{Log}
use Rattle.hgs_revlog.specs.Theorems.BehindLemmas.{GoesOnFrom, tail-goes-on}
use Rattle.hgs_load.specs.Asks.{answer}
use Rattle.hgs_load.specs.Refresh.{same_parent, same_lengths, same_links, same_entry, is_this, behind_last, behind_asks, last_place}
use Rattle.hgs_load.specs.View.{changelog_index, log_answer}

-- ---- an entry is the same as itself

number-itself : (n : ℕ) → (n == n) ≡ true
number-itself n = grind arith

bytes-themselves : (a : List ℕ) → same a a ≡ true
bytes-themselves a = (bytes_decides a a).1 refl

parent-itself : (o : Option ℕ) → same_parent o o ≡ true
parent-itself None = refl
parent-itself (Some n) = number-itself n

pub entry-itself : (e : Entry) → same_entry e e ≡ true
entry-itself e =
    ap (λ b. b && same_links e e && same e.node.0 e.node.0) lengths
    ∙ ap (λ b. b && same e.node.0 e.node.0) links
    ∙ bytes-themselves e.node.0
  where
    lengths : same_lengths e e ≡ true
    lengths =
        ap (λ b. b && e.flags == e.flags && e.stored == e.stored && e.size == e.size) (number-itself e.offset)
        ∙ ap (λ b. b && e.stored == e.stored && e.size == e.size) (number-itself e.flags)
        ∙ ap (λ b. b && e.size == e.size) (number-itself e.stored)
        ∙ number-itself e.size

    links : same_links e e ≡ true
    links =
        ap (λ b. b && e.link == e.link && same_parent e.p1 e.p1 && same_parent e.p2 e.p2) (number-itself e.base)
        ∙ ap (λ b. b && same_parent e.p1 e.p1 && same_parent e.p2 e.p2) (number-itself e.link)
        ∙ ap (λ b. b && same_parent e.p2 e.p2) (parent-itself e.p1)
        ∙ parent-itself e.p2

-- ---- the last of the old entries

-- It stands at its place in an index whose history begins with the old entries, and nothing more is asked.
pub tail-answers : (front tail : List ℕ) (old found : Log) → old.inline ≡ false → 0 < length old.entries → length front ≡ last_place old.entries → loaded Ignore (front ++ tail) ≡ Ok found → IsPrefixOf old.entries found.entries
    → behind_asks old (behind_last old.entries tail) ≡ answer (Ok found)
tail-answers front tail old found separate some size loads begins =
    let k = length old.entries - 1 in
    let g = tail-goes-on k front tail old found size (omega (arith, some)) separate loads begins in
    ap (behind_asks old) (stands k g) ∙ ap (λ r. answer (log_answer changelog_index r)) g.loads
  where
    long : (n : ℕ) → 64 ≤ n → nat_le 64 n ≡ true
    long n h = grind arith

    stands : (k : ℕ) → GoesOnFrom (length old.entries - 1) old found tail → behind_last old.entries tail ≡ Some (drop 64 tail)
    stands k g =
        let last = length old.entries - 1 in
        ap (λ b. cond (b && is_this (slice_get old.entries last) (separate_at (take 64 tail) last)) (Some (drop 64 tail)) None) (long (length tail) g.whole)
        ∙ ap (λ o. cond (is_this o (separate_at (take 64 tail) last)) (Some (drop 64 tail)) None) g.last
        ∙ ap (λ r. cond (is_this (Some g.entry) r) (Some (drop 64 tail)) None) g.read
        ∙ ap (λ b. cond b (Some (drop 64 tail)) None) (entry-itself g.entry)
