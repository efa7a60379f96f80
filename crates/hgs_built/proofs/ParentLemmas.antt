-- The dirstate is read as it is written.
use Rattle.std.proofs.Common.{◌≡◌, ℕ, zero, suc, ◌<◌, List, [], ◌∷◌, Bool, true, false, ◌&&◌, ◌||◌, not, length, refl, sym, arith}
use Rattle.std.specs.Prelude.{◌==◌, ◌^◌, Option, Some, None, nat_le}
use Rattle.std.specs.List.{AllByRecursion, list_all, list_any}
use Rattle.std.proofs.lemmas.Bool.Decides.{nat_tests}
use Rattle.hgs_bytes.specs.Path.{components, is_line_byte}
use Rattle.hgs_bytes.specs.Text.{Lacks}
use Rattle.hgs_index.specs.Revision.{Revision, nodes, parent_node}
use Rattle.hgs_index.specs.TrackedPath.{is_forbidden, is_tracked}
use Rattle.hgs_marks.specs.Texts.{IsTracked}
use Rattle.hgs_model.specs.History.{EachChangeset, History, history, no_history, with_changeset}
use Rattle.hgs_model.specs.IsRepo.{IsNextChangeset, IsRepo}
use Rattle.hgs_model.specs.Repo.{Changeset, Repo, paths_at, tracked_paths, tree_at, tree_paths}
use Rattle.hgs_stands.specs.Stands.{HasDirstate}
use Rattle.hgs_built.specs.Built.{dirstate_in, tree_of}
use Rattle.hgs_built.proofs.Basics.{never, and-left, and-right}
use Rattle.hgs_built.proofs.Below.{RevisionLaws, SmallLaws}

-- ---- tracked paths can be written

no-nul : (path : List ℕ) → list_any is_line_byte path ≡ false → Lacks 0 path
no-nul [] e = tt
no-nul (b ∷ path) e = by (b == 0) refl (b == 10) (b == 13) e (no-nul path)
  where
    by : (x : Bool) → (b == 0) ≡ x → (y z : Bool) → ((x || y || z) || list_any is_line_byte path) ≡ false → (list_any is_line_byte path ≡ false → Lacks 0 path) → ((b == 0) ≡ false) × Lacks 0 path
    by true g y z h rec = never h
    by false g true z h rec = never h
    by false g false true h rec = never h
    by false g false false h rec = (g, rec h)

tracked-held : (path : List ℕ) → is_tracked path ≡ true → IsTracked path
tracked-held path e = by (nat_le 1 (length path)) (nat_le (length path) 1024) refl (list_any is_line_byte path) refl (list_any is_forbidden (components path)) e
  where
    by : (a b : Bool) → nat_le (length path) 1024 ≡ b → (c : Bool) → list_any is_line_byte path ≡ c → (d : Bool) → (a && b && not c && not d) ≡ true → IsTracked path
    by true true g false v d h = record { no_nul = no-nul path v; size = short (length path) g }
      where
        short : (n : ℕ) → nat_le n 1024 ≡ true → n < 2 ^ 32
        short n k = grind (arith, nat_tests, k)
    by true true g true v d h = never (sym h)
    by true false g c v d h = never (sym h)
    by false b g c v d h = never (sym h)

all-held : (paths : List (List ℕ)) → list_all is_tracked paths ≡ true → AllByRecursion IsTracked paths
all-held [] e = tt
all-held (p ∷ paths) e = (tracked-held p (and-left _ _ e), all-held paths (and-right (is_tracked p) _ e))

tree-tracked : (h : History) (changesets : List Changeset) (rev : ℕ) → EachChangeset IsNextChangeset h changesets → list_all is_tracked (tree_paths (tree_at changesets rev)) ≡ true
tree-tracked h [] rev each = refl
tree-tracked h (c ∷ changesets) zero each = each.0.paths
tree-tracked h (c ∷ changesets) (suc rev) each = tree-tracked (with_changeset h c) changesets rev each.1

paths-tracked : (changesets : List Changeset) (o : Option ℕ) → EachChangeset IsNextChangeset no_history changesets → list_all is_tracked (paths_at changesets o) ≡ true
paths-tracked changesets None each = refl
paths-tracked changesets (Some rev) each = tree-tracked no_history changesets rev each

-- ---- the dirstate

parent-size : (laws : RevisionLaws) (revisions : List Revision) (o : Option ℕ) → length (parent_node (nodes revisions) o) ≡ 20
parent-size laws revisions None = refl
parent-size laws revisions (Some rev) = (laws.node revisions rev).size

pub dirstate-built : (laws : RevisionLaws) (small : SmallLaws) (r : Repo) → IsRepo r → HasDirstate (tree_of r) r
dirstate-built laws small r is = record {
  dirstate = dirstate_in r;
  text = small.dirstate_back (dirstate_in r) (record {
    p1 = parent-size laws (history r.changesets).changelog r.working.0;
    p2 = parent-size laws (history r.changesets).changelog r.working.1;
    paths = all-held (tracked_paths r) (paths-tracked r.changesets r.working.0 is.changesets);
  });
  first = refl;
  second = refl;
  paths = λ path. refl;
}
