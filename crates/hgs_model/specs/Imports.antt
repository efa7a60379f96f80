-- Imports, copies and branches that the definitions are tried on.
use Rattle.std.specs.Prelude.{ℕ, List, [], ◌∷◌, ◌++◌, pos, None, Some, codes}
use Rattle.hgs_index.specs.declared.kinds.Flag.TheVariants.{Plain}
use Rattle.hgs_model.specs.declared.command.Command.{Command}
use Rattle.hgs_model.specs.declared.command.Command.TheVariants.{Commit}
use Rattle.hgs_model.specs.declared.command.NewChange.{NewChange}
use Rattle.hgs_model.specs.declared.files.NewFile.{NewFile}
use Rattle.hgs_model.specs.declared.phase.Phase.TheVariants.{Draft}
use Rattle.hgs_model.specs.Commits.{line_a, line_b}
use Rattle.hgs_model.specs.Repo.{Repo, empty_repo}
use Rattle.hgs_model.specs.Samples.{commit_on, done}

-- the two changesets of `two_changesets`, as records
abbrev pub record_a : NewChange
record_a = record { parents = []; user = codes "test"; seconds = pos 0; offset = pos 0; phase = Draft; bookmark = None; branch = None; description = codes "a"; files = line_a ∷ [] }

abbrev pub record_b : NewChange
record_b = record { parents = codes "tip" ∷ []; user = codes "test"; seconds = pos 60; offset = pos 0; phase = Draft; bookmark = None; branch = None; description = codes "b"; files = line_a ∷ line_b ∷ [] }

-- the second one on a branch
abbrev pub on_side : Command
on_side = Commit (record record_b { branch = Some (codes "side") })

-- the first one, and a file that is a copy
abbrev pub first_alone : Repo
first_alone = done empty_repo (Commit record_a ∷ [])

abbrev pub copy_of : List ℕ → List ℕ → List ℕ → NewFile
copy_of source path text = record { path = path; flag = Plain; from = Some source; body = text ++ 10 ∷ [] }

abbrev pub copied : Command
copied = commit_on (codes "tip" ∷ []) (line_a ∷ copy_of (codes "a") (codes "b") (codes "a") ∷ [])

-- on both, `b` with another body under the name `c`
abbrev pub moved : Command
moved = commit_on (codes "tip" ∷ []) (line_a ∷ copy_of (codes "b") (codes "c") (codes "x") ∷ [])
