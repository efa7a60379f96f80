use Rattle.std.proofs.Common.{◌≡◌, ◌++◌, drop, false}
use Rattle.std.specs.Prelude.{slice_index_or}
use Rattle.hgs_revlog.specs.Log.{nodes_of}
use Rattle.hgs_revset.specs.Text.{member_lines}
use Rattle.hgs_members.proofs.text.lines_of.Given as goal

abbrev pub invariant-loop-rev : goal.invariant-loop-rev
invariant-loop-rev l =
    l.lines.items ++ member_lines (λ rev. slice_index_or l.members rev false) l.rev (drop l.rev (nodes_of l.log.entries)) ≡ member_lines (λ rev. slice_index_or l.members rev false) 0 (nodes_of l.log.entries)
