-- What the writing end publishes keeps the rule.
use Rattle.std.proofs.Common.{◌≡◌, ℕ, List, [], ◌∷◌, ◌++◌, fold, refl, sym, ap, ◌∙◌, subst}
use mathlib.Core.List.{IsPrefix}
use Rattle.std.specs.Arc.{arc_value}
use Rattle.crossbeam_utils.specs.Register.{TurnsAt}
use Rattle.hgs_files.specs.declared.op.Op.{Op}
use Rattle.hgs_files.specs.Tree.{Tree, apply, after_all}
use Rattle.hgs_files.specs.Theorems.TreeLemmas.{after_all-append}
use Rattle.hgs_hub.specs.declared.moment.Origin.{Origin}
use Rattle.hgs_hub.specs.declared.moment.Moment.{Moment}
use Rattle.hgs_hub.specs.declared.rule.Shown.{Shown}
use Rattle.hgs_hub.specs.declared.rule.View.{View}
use Rattle.hgs_hub.specs.Rule.{log_at, first_at, tree_at, Keeps, SeesAll}
use Rattle.hgs_hub.proofs.Fronts.{prefix_self}
use Rattle.hgs_hub.proofs.RuleLemmas.{goes_on}

-- of several states in turn the last stays
pub fold_last : {S O : Type 0} (f : O → S) (s : S) (xs : List O) (a : O) → fold (λ (t : S) (o : O). f o) s (xs ++ a ∷ []) ≡ f a
fold_last f s [] a = refl
fold_last f s (x ∷ xs) a = fold_last f (f x) xs a

module _ (legal : Tree → List Op → Type 0) where
  pub publishes : (seat : ℕ) (v : View) (x y : Shown) (m : Moment) (first : Origin) (log : List Op) → arc_value y.now ≡ m → m.first.value ≡ first → m.log.value.items ≡ log
      → first_at x ≡ first → IsPrefix (log_at x) log → legal (tree_at first) log → TurnsAt (Keeps legal) seat v x y (SeesAll legal)
  publishes seat v x y m first log same of_first of_log from more lawful =
      let fy : first_at y ≡ first = ap (λ (n : Moment). n.first.value) same ∙ of_first in
      let ly : log_at y ≡ log = ap (λ (n : Moment). n.log.value.items) same ∙ of_log in
      goes_on legal seat v x y (from ∙ sym fy) (subst (IsPrefix (log_at x)) (sym ly) more)
      (λ was. subst (λ (f : Origin). legal (tree_at f) (log_at y)) (sym fy) (subst (λ l. legal (tree_at first) l) (sym ly) lawful))

  -- the same is published again
  pub again : (seat : ℕ) (v : View) (x y : Shown) → arc_value y.now ≡ arc_value x.now → TurnsAt (Keeps legal) seat v x y (SeesAll legal)
  again seat v x y same =
      goes_on legal seat v x y (ap (λ (m : Moment). m.first.value) (sym same)) (subst (λ (m : Moment). IsPrefix (log_at x) m.log.value.items) (sym same) (prefix_self (log_at x)))
      (λ was. subst (λ (m : Moment). legal (tree_at m.first.value) m.log.value.items) (sym same) was)

-- the files after one operation more
pub one_more : (op : Op) (files copy next start : Tree) (at log new : List Op) → next ≡ apply op copy → copy ≡ files → files ≡ after_all at start
    → at ≡ log → new ≡ log ++ op ∷ [] → next ≡ after_all new start
one_more op files copy next start at log new did copied kept logged more =
    did ∙ ap (apply op) (copied ∙ (kept ∙ ap (λ l. after_all l start) logged))
    ∙ sym (after_all-append log (op ∷ []) start) ∙ ap (λ l. after_all l start) (sym more)

-- the same of several
pub all_more : (ops : List Op) (next start : Tree) (log new : List Op) → next ≡ after_all ops (after_all log start) → new ≡ log ++ ops → next ≡ after_all new start
all_more ops next start log new did more = did ∙ sym (after_all-append log ops start) ∙ ap (λ l. after_all l start) (sym more)
