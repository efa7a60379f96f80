-- What the files of a state at rest are.
use Rattle.std.proofs.Common.{◌≡◌, ℕ, List, [], length, take, take_all, refl, sym, ◌∙◌, ap, subst, arith}
use Rattle.std.specs.Prelude.{None, Some}
use Rattle.hgs_files.specs.declared.op.Op.{Op}
use Rattle.hgs_files.specs.Tree.{Tree, after_all}
use Rattle.hgs_journal.specs.Names.{journal_path}
use Rattle.hgs_legal.specs.LegalLog.{Doing, Idle, IsRun, Leaves, State, Turn, breaks, breaks_after, breaks_undo, current, gives_up, is_refused, last_repo, state_at, stays}
use Rattle.hgs_legal.specs.Numbers.{StopsAt, acknowledged_of, b_of, is_some_op, left_of, less_one, n_of, repo_at, w_of}
use Rattle.hgs_ops.specs.Shown.{lacks_bookmarks, lacks_dirstate}
use Rattle.hgs_model.specs.Repo.{Repo}
use Rattle.hgs_ops.specs.Operations.{strays}
use Rattle.hgs_stands.specs.Open.{IsOpen}
use Rattle.hgs_stands.specs.Stands.{Stands}
use Rattle.hgs_writer.specs.Turns.{IsAtRest}

whole : (f : Repo) (ps : List Turn) → last_repo f (take (length ps) ps) ≡ last_repo f ps
whole f ps = ap (last_repo f) (take_all (length ps) ps (omega arith))

rest-stands : (t u : Tree) (f : Repo) (ps : List Turn) (d : Doing) (rest : List Op) → Leaves d (Idle None rest) → StopsAt d u (repo_at (state_at t f ps d) (acknowledged_of (state_at t f ps d))) → Stands u (last_repo f ps)
rest-stands t u f ps _ rest stays s = subst (Stands u) (whole f ps) s
rest-stands t u f ps _ _ gives_up s = subst (Stands u) (whole f ps) s
rest-stands t u f ps _ rest (is_refused {left = None}) s = subst (Stands u) (whole f ps) s

-- nothing is left to do
nothing-left : (d : Doing) (rest : List Op) → Leaves d (Idle None rest) → left_of d ≡ []
nothing-left _ rest stays = refl
nothing-left _ _ gives_up = refl
nothing-left _ rest (is_refused {left = None}) = refl

-- so all numbers are those of the transactions that are published
pub one-number : (s : State) → IsAtRest None s → (b_of s ≡ n_of s) × (w_of s ≡ n_of s) × (acknowledged_of s ≡ n_of s)
one-number s rested =
    let none = nothing-left s.doing rested.0 rested.1 in (
      ap (λ (l : List Op). less_one (lacks_bookmarks l) (n_of s)) none,
      ap (λ (l : List Op). less_one (lacks_dirstate l) (n_of s)) none,
      ap (λ (l : List Op). less_one (is_some_op l) (n_of s)) none,
    )

-- a file that is there is there
not-none : (u : Tree) (bytes : List ℕ) → u journal_path ≡ Some bytes → u journal_path ≡ None → ⊥
not-none u bytes e none = cc

open-journal : (u : Tree) (r : Repo) → IsOpen strays u r → u journal_path ≡ None → ⊥
open-journal u r o none = not-none u o.1.journal_bytes o.1.journal_stands none

rest-journal : (t u : Tree) (f : Repo) (ps : List Turn) (r : Repo) (d : Doing) (left rest : List Op) → Leaves d (Idle (Some left) rest) → StopsAt d u r → u journal_path ≡ None → ⊥
rest-journal t u f ps r _ left rest stays s = open-journal u r s
rest-journal t u f ps r _ _ _ breaks s = open-journal u r s
rest-journal t u f ps r _ _ _ breaks_after s = open-journal u r s
rest-journal t u f ps r _ _ _ breaks_undo s = open-journal u r s
rest-journal t u f ps r _ left rest (is_refused {left = Some l}) s = open-journal u r s

module _ (files : (t : Tree) (r : Repo) (log : List Op) (s : State) → IsRun t r log s → s.files ≡ after_all log t)
    (ends : (t : Tree) (r : Repo) (log : List Op) (s : State) → Stands t r → IsRun t r log s → StopsAt s.doing (after_all log t) (repo_at s (acknowledged_of s))) where
  pub resting-stands : (t : Tree) (r : Repo) (log : List Op) (s : State) → Stands t r → IsRun t r log s → IsAtRest None s → Stands s.files (current s)
  resting-stands t r log s stands run rested =
      subst (λ u. Stands u (current s)) (sym (files t r log s run)) (rest-stands s.files (after_all log t) s.first s.published s.doing rested.0 rested.1 (ends t r log s stands run))

  pub resting-journal : (t : Tree) (r : Repo) (log : List Op) (s : State) (left : List Op) → Stands t r → IsRun t r log s → IsAtRest (Some left) s → s.files journal_path ≡ None → ⊥
  resting-journal t r log s left stands run rested none =
      rest-journal s.files (after_all log t) s.first s.published (repo_at s (acknowledged_of s)) s.doing left rested.0 rested.1 (ends t r log s stands run) (ap (λ (u : Tree). u journal_path) (sym (files t r log s run)) ∙ none)
