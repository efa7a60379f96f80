-- What is found of files under layers.
use Rattle.std.proofs.Common.{◌≡◌, Bool, true, false, List, [], ◌∷◌, ◌++◌, refl, sym, ◌∙◌, ap, subst, true≢false}
use Rattle.std.specs.Prelude.{Option, Some, None, IfSome, ⊤}
use Rattle.std.specs.Bool.{MatchBool}
use Rattle.hgs_commit.specs.Commit.{AtRest}
use Rattle.hgs_files.specs.declared.op.Op.{Op}
use Rattle.hgs_files.specs.Tree.{Tree, after_all}
use Rattle.hgs_files.specs.Theorems.TreeLemmas.{after_all-append}
use Rattle.hgs_overlay.specs.Overlay.{seen_over}

pub match-top : (b : Bool) (X : Type 0) → X → MatchBool b ⊤ X
match-top true X x = tt
match-top false X x = x

abbrev rest_of : List Op → List Op
rest_of [] = []
rest_of (x ∷ xs) = xs

same-end : (xs ys zs : List Op) → xs ++ ys ≡ xs ++ zs → ys ≡ zs
same-end [] ys zs e = e
same-end (x ∷ xs) ys zs e = same-end xs ys zs (ap rest_of e)

some-is : (a b : List Op) → Some a ≡ Some b → a ≡ b
some-is a b e = cc

-- What was found in the tree of both holds of the files' tree with the layers on it, and these are as before.
pub found-over : (alone : Bool) (seen now : Option (List Op)) (ops new : List Op) (start : Tree) (P : Tree → Type 0) → (alone ≡ true → now ≡ seen) → (alone ≡ true → seen_over alone now new ≡ seen_over alone seen ops)
    → AtRest alone (seen_over alone now new) start P → AtRest alone now start (λ t. P (after_all ops t) × (new ≡ ops))
found-over false seen now ops new start P same still found = λ is. absurd (true≢false (sym is))
found-over true seen now ops new start P same still found = λ is. by now (same refl) (still refl) (found refl)
  where
    by : (o : Option (List Op)) → o ≡ seen → seen_over true o new ≡ seen_over true seen ops → IfSome (seen_over true o new) (λ log. P (after_all log start)) → IfSome o (λ log. P (after_all ops (after_all log start)) × (new ≡ ops))
    by None s e f = tt
    by (Some log) s e f =
        let both : Some (log ++ new) ≡ Some (log ++ ops) = e ∙ ap (λ o. seen_over true o ops) (sym s) in
        let is : new ≡ ops = same-end log new ops (some-is (log ++ new) (log ++ ops) both) in
        (subst P (after_all-append log ops start) (subst (λ x. P (after_all (log ++ x) start)) is f), is)

-- two facts at rest
pub both-at-rest : (alone : Bool) (seen now : Option (List Op)) (start later : Tree) (P S Q : Tree → Type 0) → (alone ≡ true → now ≡ seen) → later ≡ start → ((t : Tree) → P t → S t → Q t) → AtRest alone seen start P → AtRest alone now later S → AtRest alone now later Q
both-at-rest alone seen now start later P S Q same same_start follows h k = λ is. by now (subst (λ o. IfSome o (λ log. P (after_all log later))) (sym (same is)) (subst (λ u. IfSome seen (λ log. P (after_all log u))) (sym same_start) (h is))) (k is)
  where
    by : (o : Option (List Op)) → IfSome o (λ log. P (after_all log later)) → IfSome o (λ log. S (after_all log later)) → IfSome o (λ log. Q (after_all log later))
    by None p s = tt
    by (Some log) p s = follows (after_all log later) p s

-- what holds of the files' tree with the layers on it holds of the tree of both
pub under-layers : (alone : Bool) (seen : Option (List Op)) (ops : List Op) (start : Tree) (P : Tree → Type 0) → AtRest alone seen start (λ t. P (after_all ops t)) → AtRest alone (seen_over alone seen ops) start P
under-layers false seen ops start P h = λ is. absurd (true≢false (sym is))
under-layers true None ops start P h = λ is. tt
under-layers true (Some log) ops start P h = λ is. subst P (sym (after_all-append log ops start)) (h is)
