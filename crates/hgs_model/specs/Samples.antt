-- Small repositories that the definitions are tried on.
use Rattle.std.specs.Prelude.{ℕ, List, [], ◌∷◌, ◌++◌, pos, None, Some, Ok, Err, Option, Result, codes}
use Rattle.hgs_index.specs.declared.kinds.Flag.TheVariants.{Plain}
use Rattle.hgs_model.specs.declared.files.NewFile.{NewFile}
use Rattle.hgs_model.specs.declared.command.Command.{Command}
use Rattle.hgs_model.specs.declared.command.Command.TheVariants.{Commit}
use Rattle.hgs_model.specs.declared.command.Refusal.{Refusal}
use Rattle.hgs_model.specs.declared.phase.Phase.TheVariants.{Draft}
use Rattle.hgs_model.specs.Repo.{Repo, empty_repo}
use Rattle.hgs_model.specs.Step.{Next, step}

-- a file of one line
abbrev pub one_line : List ℕ → List ℕ → NewFile
one_line path text = record { path = path; flag = Plain; from = None; body = text ++ 10 ∷ [] }

-- a commit of these files on these parents, without a description
abbrev pub commit_on : List (List ℕ) → List NewFile → Command
commit_on parents files = Commit (record { parents = parents; user = codes "test"; seconds = pos 0; offset = pos 0; phase = Draft; bookmark = None; branch = None; description = []; files = files })

-- the repository after a command, as it was where the command is refused
abbrev pub after : Repo → Result Next Refusal → Repo
after r (Ok next) = next.0
after r (Err e) = r

abbrev pub done : Repo → List Command → Repo
done r [] = r
done r (command ∷ commands) = done (after r (step r command)) commands

-- `f` with `1`; on it `f` with `2`, and beside that a file `g`; then both merged, with `3` in `f`
abbrev pub merged : Repo
merged = done empty_repo (
    commit_on [] (one_line (codes "f") (codes "1") ∷ [])
    ∷ commit_on (codes "0" ∷ []) (one_line (codes "f") (codes "2") ∷ [])
    ∷ commit_on (codes "0" ∷ []) (one_line (codes "f") (codes "1") ∷ one_line (codes "g") (codes "x") ∷ [])
    ∷ commit_on (codes "1" ∷ codes "2" ∷ []) (one_line (codes "f") (codes "3") ∷ one_line (codes "g") (codes "x") ∷ [])
    ∷ []
    )

-- the first changeset of a file `a`, and a second with a file `b` on it
abbrev pub two_changesets : Repo
two_changesets = done empty_repo (
    Commit (record { parents = []; user = codes "test"; seconds = pos 0; offset = pos 0; phase = Draft; bookmark = None; branch = None; description = codes "a"; files = one_line (codes "a") (codes "a") ∷ [] })
    ∷ Commit (record { parents = codes "tip" ∷ []; user = codes "test"; seconds = pos 60; offset = pos 0; phase = Draft; bookmark = None; branch = None; description = codes "b"; files = one_line (codes "a") (codes "a") ∷ one_line (codes "b") (codes "b") ∷ [] })
    ∷ []
    )

-- three changesets in a line
abbrev pub line_of_three : Repo
line_of_three = done empty_repo (
    commit_on [] (one_line (codes "a") (codes "0") ∷ [])
    ∷ commit_on (codes "0" ∷ []) (one_line (codes "a") (codes "1") ∷ [])
    ∷ commit_on (codes "1" ∷ []) (one_line (codes "a") (codes "2") ∷ [])
    ∷ []
    )

-- the refusal of a command, where it is refused
abbrev pub refusal : Result Next Refusal → Option Refusal
refusal (Ok next) = None
refusal (Err e) = Some e
