-- What is read of an index in its form.
use Rattle.std.proofs.Common.{◌≡◌, ◌≤◌, ◌<◌, ℕ, List, Bool, true, false, cond, ◌&&◌, length, drop, refl, sym, ◌∙◌, ap, arith}
use Rattle.std.specs.Prelude.{nat_le}
use Rattle.std.proofs.lemmas.Bool.Decides.{nat_tests}
use Rattle.std.proofs.lemmas.List.{length-take, take-append-drop, take_all}
use Rattle.hgs_files.specs.Tree.{Tree, bytes_at}
use Rattle.hgs_index.specs.Inline.{is_inline}
use Rattle.hgs_index.specs.Theorems.EitherLemmas.{form-more}
use Rattle.hgs_index.specs.Theorems.InlineLemmas.{fronts-separate}
use Rattle.hgs_loading.specs.Logs.{either_index_in, index_in, most_index}

-- of a separate one as much as one of entries may have
pub separate-index : (index : List ℕ) (t : Tree) → is_inline (bytes_at t index) ≡ false → either_index_in index t ≡ index_in index t
separate-index index t e = ap (λ b. cond b (bytes_at t index) (index_in index t)) (ap (λ b. nat_le most_index (length (index_in index t)) && b) (fronts-separate most_index (bytes_at t index) e) ∙ and-false (nat_le most_index (length (index_in index t))))
  where
    and-false : (b : Bool) → (b && false) ≡ false
    and-false true = refl
    and-false false = refl

-- of an inline one all
pub inline-index : (index : List ℕ) (t : Tree) → is_inline (bytes_at t index) ≡ true → either_index_in index t ≡ bytes_at t index
inline-index index t e = by (nat_le most_index (length (index_in index t))) refl
  where
    at_least : (a b : ℕ) → nat_le a b ≡ true → a ≤ b
    at_least a b h = grind (arith, nat_tests, h)

    says : most_index ≤ length (index_in index t) → is_inline (index_in index t) ≡ true
    says full =
        let long : 64 ≤ length (index_in index t) = omega (arith, full) in
        sym (form-more (index_in index t) (drop most_index (bytes_at t index)) long) ∙ ap is_inline (take-append-drop most_index (bytes_at t index)) ∙ e

    less : (a b : ℕ) → nat_le a b ≡ false → b < a
    less a b h = grind (arith, nat_tests, h)

    by : (b : Bool) → nat_le most_index (length (index_in index t)) ≡ b → either_index_in index t ≡ bytes_at t index
    by true is = λ i. cond (is i && says (at_least most_index (length (index_in index t)) is) i) (bytes_at t index) (index_in index t)
    by false is =
        (λ i. cond (is i && is_inline (index_in index t)) (bytes_at t index) (index_in index t))
        ∙ take_all most_index (bytes_at t index) (let few = less most_index (length (index_in index t)) is in omega (arith, few, length-take most_index (bytes_at t index)))
