-- The branches of changesets, as they stand in files at rest.
use Rattle.std.specs.Prelude.{ℕ, zero, suc, List, [], ◌∷◌, Result, Ok, Err}
use Rattle.hgs_index.specs.ChangeText.{Change}
use Rattle.hgs_branch.specs.Extras.{branch_of}
use Rattle.hgs_load.specs.declared.answer.ReadAnswer.{ReadAnswer}

-- the branch of a changeset before those of later ones; a refusal ends all
abbrev pub branch_then : Result Change ReadAnswer → Result (List (List ℕ)) ReadAnswer → Result (List (List ℕ)) ReadAnswer
branch_then (Err e) later = Err e
branch_then (Ok change) (Err e) = Err e
branch_then (Ok change) (Ok names) = Ok (branch_of change.extras ∷ names)

-- the branches of so many changesets from this one on, or the first refusal
abbrev pub branches_from : (ℕ → Result Change ReadAnswer) → ℕ → ℕ → Result (List (List ℕ)) ReadAnswer
branches_from change rev zero = Ok []
branches_from change rev (suc n) = branch_then (change rev) (branches_from change (suc rev) n)
