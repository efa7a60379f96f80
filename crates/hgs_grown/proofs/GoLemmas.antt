-- What is done at a tree, and then what is done at the tree that this leaves.
use Rattle.std.proofs.Common.{◌≡◌, ◌++◌, List, ◌∙◌, ap, subst, append_assoc}
use Rattle.std.specs.Prelude.{Option, Some, None, is_some}
use Rattle.hgs_files.specs.declared.op.Op.{Op}
use Rattle.hgs_files.specs.Files.{GoesOn}
use Rattle.hgs_files.specs.Tree.{Tree, after_all}
use Rattle.hgs_files.specs.Theorems.TreeLemmas.{after_all-append}
use Rattle.hgs_machine.specs.Carry.{tree_now}

pub then : (before mid after : Option (List Op)) (start start_mid : Tree) (P Q R : Tree → List Op → Type 0) → start_mid ≡ start → ((t : Tree) (a b : List Op) → P t a → Q (after_all a t) b → R t (a ++ b))
    → GoesOn before mid (P (tree_now before start)) → GoesOn mid after (Q (tree_now mid start_mid)) → GoesOn before after (R (tree_now before start))
then None mid after start start_mid P Q R same f h k = subst (λ x. GoesOn x after (Q (tree_now x start_mid))) h k
then (Some log) mid after start start_mid P Q R same f h k =
    let second = subst (λ x. GoesOn x after (Q (tree_now x start_mid))) h.1 k in
    let tree : after_all (log ++ h.0) start_mid ≡ after_all h.0 (after_all log start) = ap (λ (u : Tree). after_all (log ++ h.0) u) same ∙ after_all-append log h.0 start in
    (h.0 ++ second.0, second.1 ∙ ap (λ (l : List Op). Some l) (append_assoc log h.0 second.0), f (after_all log start) h.0 second.0 h.2 (subst (λ (u : Tree). Q u second.0) tree second.2))

pub as-well : (before after : Option (List Op)) (P Q : List Op → Type 0) → ((more : List Op) → P more → Q more) → GoesOn before after P → GoesOn before after Q
as-well None after P Q f h = h
as-well (Some old) after P Q f h = (h.0, h.1, f h.0 h.2)

-- a log that is told stays told
pub told-on : (before after : Option (List Op)) (P : List Op → Type 0) → GoesOn before after P → is_some after ≡ is_some before
told-on None after P h = ap is_some h
told-on (Some old) after P h = ap is_some h.1
