-- What is kept of the changesets that were taken.
use Rattle.std.specs.Prelude.{◌≡◌, ℕ, List, map, slice_get, Some}
use Rattle.std.specs.BTreeMap.{BTreeMap, get}
use Rattle.std.specs.Cmp.Lexicographic.{slice_cmp}
use Rattle.std.specs.Ordering.{nat_cmp}
use Rattle.hgs_index.specs.Revision.{Parents}
use Rattle.hgs_branch.specs.declared.reach.Known.{Known}

abbrev pub parents_in : List Known → List Parents
parents_in known = map (λ k. (k.p1, k.p2)) known

-- the number of each changeset's branch
abbrev pub numbers_in : List Known → List ℕ
numbers_in known = map (λ k. k.branch) known

-- each name has its place as its number
abbrev pub IsNumbered : List (List ℕ) → BTreeMap (List ℕ) ℕ → Type 0
IsNumbered names numbers = (number : ℕ) (name : List ℕ) → slice_get names number ≡ Some name → get (slice_cmp nat_cmp) numbers name ≡ Some number
