-- Commits that the definitions are tried on.
use Rattle.std.specs.Prelude.{ℕ, List, [], ◌∷◌, ◌++◌, pos, None, Some, Ok, Err, Option, Result, codes}
use Rattle.hgs_index.specs.Hex.{hex}
use Rattle.hgs_index.specs.declared.kinds.Flag.{Flag}
use Rattle.hgs_index.specs.declared.kinds.Flag.TheVariants.{Plain, Exec}
use Rattle.hgs_model.specs.declared.files.NewFile.{NewFile}
use Rattle.hgs_model.specs.declared.command.Command.{Command}
use Rattle.hgs_model.specs.declared.command.Command.TheVariants.{Commit}
use Rattle.hgs_model.specs.declared.command.Refusal.{Refusal}
use Rattle.hgs_model.specs.declared.phase.Phase.TheVariants.{Draft}
use Rattle.hgs_model.specs.Repo.{Repo, empty_repo}
use Rattle.hgs_model.specs.Samples.{one_line, commit_on, done}
use Rattle.hgs_model.specs.Step.{Next}

-- the number and the node in hex that a command answers, where it is accepted
abbrev pub told : Result Next Refusal → Option (ℕ × List ℕ)
told (Ok next) = Some (next.1.rev, hex next.1.node)
told (Err e) = None

-- a file `a` of this flag, with this body
abbrev pub file_a : Flag → List ℕ → NewFile
file_a flag body = record { path = codes "a"; flag = flag; from = None; body = body }

abbrev pub line_a : NewFile
line_a = one_line (codes "a") (codes "a")

abbrev pub line_b : NewFile
line_b = one_line (codes "b") (codes "b")

abbrev pub line_c : NewFile
line_c = one_line (codes "c") (codes "c")

-- on `two_changesets`, that is a file `a`, and a file `b` on it: `b` is removed, `a` gets a flag, or a body that begins with the bytes 1 and LF
abbrev pub without_b : Command
without_b = commit_on (codes "." ∷ []) (line_a ∷ [])

abbrev pub executable_a : Command
executable_a = commit_on (codes "." ∷ []) (file_a Exec (codes "a" ++ 10 ∷ []) ∷ line_b ∷ [])

abbrev pub marked_a : Command
marked_a = commit_on (codes "." ∷ []) (file_a Plain (1 ∷ 10 ∷ codes "q") ∷ line_b ∷ [])

-- a commit of `a` and another `b`, that sets a bookmark
abbrev pub with_bookmark : Command
with_bookmark = Commit (record { parents = codes "." ∷ []; user = codes "test"; seconds = pos 0; offset = pos 0; phase = Draft; bookmark = Some (codes "main"); branch = None; description = []; files = line_a ∷ one_line (codes "b") (codes "c") ∷ [] })

-- `f` with `1`; on it `f` with `2`, and beside that a file `g`
abbrev pub forked : Repo
forked = done empty_repo (
    commit_on [] (one_line (codes "f") (codes "1") ∷ [])
    ∷ commit_on (codes "0" ∷ []) (one_line (codes "f") (codes "2") ∷ [])
    ∷ commit_on (codes "0" ∷ []) (one_line (codes "f") (codes "1") ∷ one_line (codes "g") (codes "x") ∷ [])
    ∷ []
    )
