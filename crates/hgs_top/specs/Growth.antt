-- What `gen` leaves where no repository stood.
use Rattle.std.specs.Prelude.{◌≡◌, ◌⊎◌, ◌++◌, ℕ, List, Option, Some, None, Ok, IfSome}
use Rattle.hgs_files.specs.declared.op.Op.{Op}
use Rattle.hgs_files.specs.Stop.{IsStopped}
use Rattle.hgs_files.specs.Tree.{Tree, after_all}
use Rattle.hgs_grown.specs.Grown.{IsGrownTo, grown}
use Rattle.hgs_legal.specs.ListsPaths.{ListsPaths}
use Rattle.hgs_load.specs.Open.{requires_path}
use Rattle.hgs_model.specs.Repo.{Repo, empty_repo}
use Rattle.hgs_stands.specs.Stands.{Stands}
use Rattle.hgs_top.specs.Histories.{IsBare}
use Rattle.hgs_top.specs.Words.{request_of_words, to_generate}

-- The files stand for what an empty repository becomes by all of so many changesets, and list only names of paths.
abbrev pub AreGrown : ℕ → ℕ → Tree → Type 0
AreGrown seed count t = (r : Repo) × (grown seed count empty_repo ≡ Some r) × Stands t r × ListsPaths t r

-- Wherever it is stopped there is no `requires` yet, or the files stand for what an empty repository becomes by some of the changesets, or
-- can be taken back to that; and where it is done with a report, they stand for what it becomes by all.
pub record HasGrown (seed count status : ℕ) (t : Tree) (done : List Op) : Type 0 where
  pub stops : (d : List Op) → IsStopped done d → (after_all d t requires_path ≡ None) ⊎ IsGrownTo seed count empty_repo (after_all d t)
  pub whole : (status ≡ 0) ⊎ (status ≡ 29) → AreGrown seed count (after_all done t)

-- So `gen` does where none of a repository's files stood, where the log is told.
abbrev pub GrowsRepository : List (List ℕ) → Option (List Op) → Option (List Op) → Tree → ℕ → Type 0
GrowsRepository words old new start status =
    IfSome old (λ log. (seed count : ℕ) → request_of_words words ≡ Ok (to_generate seed count) → IsBare (after_all log start) → after_all log start requires_path ≡ None
    → (done : List Op) × (new ≡ Some (log ++ done)) × HasGrown seed count status (after_all log start) done)
