-- What a call did, one part after another.
use Rattle.std.proofs.Common.{◌≡◌, List, ◌++◌, ◌∙◌, ap, refl, subst, append_assoc}
use Rattle.std.specs.Prelude.{Option, Some, None, IfSome}
use Rattle.std.proofs.lemmas.List.{append_cancel_left}
use Rattle.hgs_files.specs.declared.op.Op.{Op}
use Rattle.hgs_files.specs.Files.{GoesOn}
use Rattle.hgs_files.specs.Tree.{Tree, after_all}
use Rattle.hgs_files.specs.Theorems.TreeLemmas.{after_all-append}
use Rattle.hgs_machine.specs.Carry.{tree_now}

pub as_well : (before after : Option (List Op)) (P Q : List Op → Type 0) → ((more : List Op) → P more → Q more) → GoesOn before after P → GoesOn before after Q
as_well None after P Q f h = h
as_well (Some old) after P Q f h = (h.0, h.1, f h.0 h.2)

same-done : (old a b : List Op) (after : Option (List Op)) → after ≡ Some (old ++ a) → after ≡ Some (old ++ b) → a ≡ b
same-done old a b after p q = let whole : old ++ a ≡ old ++ b = cc (p, q) in append_cancel_left old a b whole

-- what is said twice of what was done
pub together : (before after : Option (List Op)) (P Q : List Op → Type 0) → GoesOn before after P → GoesOn before after Q → GoesOn before after (λ done. P done × Q done)
together None after P Q p q = p
together (Some old) after P Q p q = (p.0, p.1, (p.2, subst Q (same-done old q.0 p.0 after q.1 p.1) q.2))

abbrev Told : (Tree → Type 0) → Option (List Op) → Tree → Type 0
Told P log start = IfSome log (λ l. P (after_all l start))

-- What was done at a tree, what is told of the tree that this left, and what was done then.
pub in_turn : (before mid same after : Option (List Op)) (start start_same : Tree) (P R S : Tree → List Op → Type 0) (Q : Tree → Type 0) → same ≡ mid → start_same ≡ start
    → ((t : Tree) (a b : List Op) → P t a → Q (after_all a t) → R (after_all a t) b → S t (a ++ b))
    → GoesOn before mid (P (tree_now before start)) → IfSome same (λ l. Q (after_all l start_same)) → GoesOn same after (R (tree_now same start_same)) → GoesOn before after (S (tree_now before start))
in_turn None mid same after start start_same P R S Q still still_start f h q k =
    let none = still ∙ h in
    subst (λ o. GoesOn o after (R (tree_now o start_same))) none k
in_turn (Some log) mid same after start start_same P R S Q still still_start f h q k =
    let is = still ∙ h.1 in
    let t = after_all log start in
    let tree : after_all (log ++ h.0) start_same ≡ after_all h.0 t = ap (λ (u : Tree). after_all (log ++ h.0) u) still_start ∙ after_all-append log h.0 start in
    let then = subst (λ o. GoesOn o after (R (tree_now o start_same))) is k in
    let told : Q (after_all (log ++ h.0) start_same) = subst (λ o. Told Q o start_same) is q in
    (h.0 ++ then.0, then.1 ∙ ap (λ l. Some l) (append_assoc log h.0 then.0), f t h.0 then.0 h.2 (subst Q tree told) (subst (λ u. R u then.0) tree then.2))

-- What was done at a tree, and what is told of the tree that this left.
pub and_told : (before mid same : Option (List Op)) (start start_same : Tree) (P S : Tree → List Op → Type 0) (Q : Tree → Type 0) → same ≡ mid → start_same ≡ start
    → ((t : Tree) (a : List Op) → P t a → Q (after_all a t) → S t a)
    → GoesOn before mid (P (tree_now before start)) → IfSome same (λ l. Q (after_all l start_same)) → GoesOn before same (S (tree_now before start))
and_told None mid same start start_same P S Q still still_start f h q = still ∙ h
and_told (Some log) mid same start start_same P S Q still still_start f h q =
    let is = still ∙ h.1 in
    let t = after_all log start in
    let tree : after_all (log ++ h.0) start_same ≡ after_all h.0 t = ap (λ (u : Tree). after_all (log ++ h.0) u) still_start ∙ after_all-append log h.0 start in
    let told : Q (after_all (log ++ h.0) start_same) = subst (λ o. Told Q o start_same) is q in
    (h.0, is, f t h.0 h.2 (subst Q tree told))

nothing_told : (o : Option (List Op)) → IfSome o (λ l. Unit {0})
nothing_told None = tt
nothing_told (Some l) = tt

-- What was done at a tree, and what was done then.
pub and_then : (before mid after : Option (List Op)) (start start_mid : Tree) (P R S : Tree → List Op → Type 0) → start_mid ≡ start
    → ((t : Tree) (a b : List Op) → P t a → R (after_all a t) b → S t (a ++ b))
    → GoesOn before mid (P (tree_now before start)) → GoesOn mid after (R (tree_now mid start_mid)) → GoesOn before after (S (tree_now before start))
and_then before mid after start start_mid P R S still_start f h k =
    in_turn before mid mid after start start_mid P R S (λ t. Unit {0}) refl still_start (λ t a b p q r. f t a b p r) h (nothing_told mid) k
