-- The parents that a commit names.
use Rattle.std.proofs.Common.{◌≡◌, ℕ, List, [], ◌∷◌, Bool, true, false, ◌==◌, cond, length, ◌∙◌, ap}
use Rattle.std.specs.Prelude.{◌<◌, Option, Some, None, Result, Ok, Err}
use Rattle.std.specs.List.{AllByRecursion}
use Rattle.hgs_files.specs.Tree.{Tree}
use Rattle.hgs_model.specs.History.{history}
use Rattle.hgs_model.specs.IsRepo.{IsRepo}
use Rattle.hgs_model.specs.Repo.{Repo}
use Rattle.hgs_model.specs.Step.{◌>>=◌, as_parents, copies_hold, done_at, named_all as model_named_all, new_changeset, nothing_changed, refused_where, step, with_new}
use Rattle.hgs_model.specs.declared.command.Command.TheVariants.{Commit}
use Rattle.hgs_model.specs.declared.command.NewChange.{NewChange}
use Rattle.hgs_model.specs.declared.command.Refusal.{Refusal}
use Rattle.hgs_model.specs.Theorems.NewChangesetLemmas.{named_all-below}
use Rattle.hgs_steps.specs.Parents.{named_all, parents_answer}
use Rattle.hgs_steps.specs.declared.loaded.Loaded.{Loaded}
use Rattle.hgs_commit.specs.Commit.{commit_in, or_refused, step_on}
use Rattle.hgs_writer.specs.Trees.{AreBelow}

below : (n : ℕ) (revs : List ℕ) → AllByRecursion (λ rev. rev < n) revs → AreBelow n (as_parents revs)
below n [] all = record { first = tt; second = tt }
below n (a ∷ []) all = record { first = all.0; second = tt }
below n (a ∷ b ∷ revs) all = by (a == b)
  where
    by : (z : Bool) → AreBelow n (cond z (Some a, None) (Some a, Some b))
    by true = record { first = all.0; second = tt }
    by false = record { first = all.0; second = all.1.0 }

pub parents-below : (r : Repo) (names : List (List ℕ)) (revs : List ℕ) → IsRepo r → model_named_all r names ≡ Ok revs → AreBelow (length r.changesets) (as_parents revs)
parents-below r names revs is e = below (length r.changesets) revs (named_all-below r names revs is e)

pub commit-by : (t : Tree) (r : Repo) (l : Loaded) (n : NewChange) (clash : Option (List ℕ)) (named : Result (List ℕ) Refusal) → named_all l n.parents ≡ model_named_all r n.parents → model_named_all r n.parents ≡ named → commit_in clash l n t ≡ or_refused (parents_answer named) (λ parents. step_on clash l n parents t)
commit-by t r l n clash named same e = ap (λ (x : Result (List ℕ) Refusal). or_refused (parents_answer x) (λ parents. step_on clash l n parents t)) (same ∙ e)

pub step-unknown : (r : Repo) (n : NewChange) (e : Refusal) → model_named_all r n.parents ≡ Err e → step r (Commit n) ≡ Err e
step-unknown r n e h =
    ap (λ (x : Result (List ℕ) Refusal). x >>= λ revs. copies_hold (history r.changesets) (as_parents revs) n.files >>= λ copied. refused_where (nothing_changed r (new_changeset (history r.changesets) (as_parents revs) n)) >>= λ unchanged. Ok (done_at (with_new r (new_changeset (history r.changesets) (as_parents revs) n) n) (length r.changesets))) h
