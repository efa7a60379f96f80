-- A node that had a revision and got it back, and a fault that ends a load.
use Rattle.std.proofs.Common.{◌≡◌, ℕ, Bool, true, false, cond, List, Option, Some, Result, Err, refl, sym, ◌∙◌, ap}
use Rattle.std.specs.Ordering.{nat_cmp}
use Rattle.std.specs.BTreeMap.{is_at}
use Rattle.std.specs.Cmp.Lexicographic.{slice_cmp}
use Rattle.std.proofs.lemmas.Map.Text.{is_eq-slice_cmp}
use Rattle.std.specs.Bool.{MatchBool, ⊤}
use Rattle.hgs_bytes.specs.Answer.{Gives}
use Rattle.hgs_revlog.specs.declared.fault.RevFault.{RevFault}
use Rattle.hgs_revlog.specs.Fault.{is_memory}
use Rattle.hgs_revlog.specs.Theorems.LogLemmas.{equal_from_same}

pub given_back : (node : List ℕ) (rev before : ℕ) (old mid new : List ℕ → Option ℕ) → ((q : List ℕ) → mid q ≡ cond (is_at (slice_cmp nat_cmp node) q) (Some rev) (old q))
    → ((q : List ℕ) → new q ≡ cond (is_at (slice_cmp nat_cmp node) q) (Some before) (mid q)) → old node ≡ Some before → (q : List ℕ) → new q ≡ old q
given_back node rev before old mid new put back was q = by (is_at (slice_cmp nat_cmp node) q) refl
  where
    by : (b : Bool) → is_at (slice_cmp nat_cmp node) q ≡ b → new q ≡ old q
    by true here = back q ∙ ap (λ b. cond b (Some before) (mid q)) here ∙ sym was ∙ ap old (equal_from_same node q (sym (is_eq-slice_cmp node q) ∙ here))
    by false there = back q ∙ ap (λ b. cond b (Some before) (mid q)) there ∙ put q ∙ ap (λ b. cond b (Some rev) (old q)) there

-- what is answered with a fault of the first is answered with it, or there was no memory
pub gives_on : {A B C : Type 0} (view : A → B) (f : RevFault) (first : Result C RevFault) (answer : Result B RevFault) → Gives is_memory (λ (x : C). x) (Err f) first → (first ≡ Err f → answer ≡ Err f) → Gives is_memory view (Err f) answer
gives_on view f first answer h on = by (is_memory f) h
  where
    by : (b : Bool) → MatchBool b ⊤ (first ≡ Err f) → MatchBool b ⊤ (answer ≡ Err f)
    by true h = tt
    by false h = on h
