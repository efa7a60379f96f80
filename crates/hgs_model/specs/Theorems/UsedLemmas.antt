-- The paths of a changeset are used.
use Rattle.std.proofs.Common.{◌≡◌, ℕ, zero, suc, List, [], ◌∷◌, Bool, true, false, ◌||◌, refl, ◌∙◌, ap}
use Rattle.std.specs.Prelude.{Some, None, slice_get}
use Rattle.std.specs.List.{AllByRecursion}
use Rattle.hgs_bytes.specs.Bytes.{same, among}
use Rattle.hgs_bytes.specs.Theorems.ByteLemmas.{same-refl}
use Rattle.hgs_model.specs.History.{uses}
use Rattle.hgs_model.specs.Repo.{TreeFile, Changeset, tree_paths}

or-true : (a b : Bool) → b ≡ true → (a || b) ≡ true
or-true true b e = refl
or-true false b e = e

pub own-paths : (tree : List TreeFile) → AllByRecursion (λ (f : TreeFile). among f.path (tree_paths tree) ≡ true) tree
own-paths [] = tt
own-paths (x ∷ tree) = (ap (λ b. b || among x.path (tree_paths tree)) (same-refl x.path), more tree (own-paths tree))
  where
    more : (front : List TreeFile) → AllByRecursion (λ (f : TreeFile). among f.path (tree_paths tree) ≡ true) front → AllByRecursion (λ (f : TreeFile). among f.path (tree_paths (x ∷ tree)) ≡ true) front
    more [] all = tt
    more (f ∷ front) all = (or-true (same f.path x.path) (among f.path (tree_paths tree)) all.0, more front all.1)

used-by : (changesets : List Changeset) (rev : ℕ) (c : Changeset) (path : List ℕ) → slice_get changesets rev ≡ Some c → among path (tree_paths c.tree) ≡ true → uses changesets path ≡ true
used-by [] rev c path found e = absurd (no found)
  where
    no : None ≡ Some c → ⊥
    no x = cc
used-by (d ∷ changesets) zero c path found e =
    let is : d ≡ c = ap (λ o. elim o [ None ↦ d | Some z ↦ z ]) found in
    ap (λ b. b || uses changesets path) (ap (λ (x : Changeset). among path (tree_paths x.tree)) is ∙ e)
used-by (d ∷ changesets) (suc rev) c path found e = or-true (among path (tree_paths d.tree)) (uses changesets path) (used-by changesets rev c path found e)

-- each file of a changeset has a used path
pub used-paths : (changesets : List Changeset) (rev : ℕ) (c : Changeset) → slice_get changesets rev ≡ Some c → AllByRecursion (λ (f : TreeFile). uses changesets f.path ≡ true) c.tree
used-paths changesets rev c found = each c.tree (own-paths c.tree)
  where
    each : (tree : List TreeFile) → AllByRecursion (λ (f : TreeFile). among f.path (tree_paths c.tree) ≡ true) tree → AllByRecursion (λ (f : TreeFile). uses changesets f.path ≡ true) tree
    each [] all = tt
    each (f ∷ tree) all = (used-by changesets rev c f.path found all.0, each tree all.1)
