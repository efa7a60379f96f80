-- A commit that changes nothing is refused where the repository says so of its tree.
use Rattle.std.proofs.Common.{◌≡◌, ℕ, List, Bool, true, false, ◌&&◌, ◌==◌, cond, length, refl, ◌∙◌, ap}
use Rattle.std.specs.Prelude.{Option, Some, None, Ok, Err, unwrap_or}
use Rattle.hgs_bytes.specs.Text.{ascends}
use Rattle.hgs_model.specs.History.{changed_paths, history}
use Rattle.hgs_model.specs.IsRepo.{IsRepo}
use Rattle.hgs_model.specs.Repo.{Repo, TreeFile}
use Rattle.hgs_model.specs.Step.{new_changeset, refused_where, same_tree, some_where, unchanged_from}
use Rattle.hgs_model.specs.Valid.{new_paths}
use Rattle.hgs_model.specs.declared.command.NewChange.{NewChange}
use Rattle.hgs_model.specs.declared.command.Refusal.TheVariants.{NothingChanged}
use Rattle.hgs_steps.specs.Steps.{as_fault}
use Rattle.hgs_steps.specs.declared.fault.PlanFault.TheVariants.{Refused}
use Rattle.hgs_commit.specs.Commit.{tested}
use Rattle.hgs_commit.specs.Trees.{OfGrown}
use Rattle.hgs_writer.specs.Trees.{AreBelow}
use Rattle.hgs_writer.proofs.TreeLemmas.{new-paths-are}
use Rattle.hgs_writer.proofs.UnchangedLemmas.{tree_of, unchanged}

-- without a second parent
one-parent : (r : Repo) (o : Option ℕ) (tree : List TreeFile) (changed : List (List ℕ)) → (length changed == 0) ≡ same_tree (tree_of r.changesets o) tree
    → cond (true && length changed == 0) (Err (Refused (NothingChanged (unwrap_or o 0)))) (Ok tt) ≡ as_fault (refused_where (unchanged_from r.changesets o None tree))
one-parent r o tree changed e = ap (λ b. cond (true && b) (Err (Refused (NothingChanged (unwrap_or o 0)))) (Ok tt)) e ∙ by o
  where
    at : (b : Bool) (rev : ℕ) → cond (true && b) (Err (Refused (NothingChanged rev))) (Ok tt) ≡ as_fault (refused_where (some_where b rev))
    at true rev = refl
    at false rev = refl

    by : (p : Option ℕ) → cond (true && same_tree (tree_of r.changesets p) tree) (Err (Refused (NothingChanged (unwrap_or p 0)))) (Ok tt) ≡ as_fault (refused_where (unchanged_from r.changesets p None tree))
    by None = at (same_tree (tree_of r.changesets None) tree) 0
    by (Some rev) = at (same_tree (tree_of r.changesets (Some rev)) tree) rev

pub tested-is : (r : Repo) (n : NewChange) (first second : Option ℕ) (x : OfGrown) → IsRepo r → AreBelow (length r.changesets) (first, second) → ascends (new_paths n.files) ≡ true → x.changed ≡ changed_paths (history r.changesets) (new_changeset (history r.changesets) (first, second) n)
    → tested (first, second) x ≡ as_fault (refused_where (unchanged_from r.changesets first second (new_changeset (history r.changesets) (first, second) n).tree))
tested-is r n None (Some b) x is low ordered e = refl
tested-is r n (Some a) (Some b) x is low ordered e = refl
tested-is r n first None x is low ordered e =
    one-parent r first (new_changeset (history r.changesets) (first, None) n).tree x.changed
    (ap (λ (paths : List (List ℕ)). length paths == 0) e ∙ unchanged r first n is low.first (ap ascends (new-paths-are (history r.changesets) (first, None) n.files) ∙ ordered))
