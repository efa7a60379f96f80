use Rattle.std.proofs.Common.{◌≡◌, take}
use Rattle.std.specs.Prelude.{flat_map}
use Rattle.hgs_revlog.specs.Log.{nodes_of}
use Rattle.hgs_branch.specs.Kept.{names_in}
use Rattle.hgs_branch.specs.Text.{head_line}
use Rattle.hgs_branch.proofs.print.lines_of.Given as goal

abbrev pub invariant-loop-place : goal.invariant-loop-place
invariant-loop-place l = l.lines.items ≡ flat_map (head_line (names_in l.course.names.items l.course.known.items) (nodes_of l.history.entries)) (take l.place l.heads.items)
