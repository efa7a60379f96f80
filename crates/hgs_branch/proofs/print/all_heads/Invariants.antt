use Rattle.std.proofs.Common.{◌≡◌, ◌-◌, ◌++◌, false, length}
use Rattle.std.specs.List.{filter, range_with_len}
use Rattle.std.specs.Prelude.{slice_index_or}
use Rattle.hgs_branch.proofs.print.all_heads.Given as goal

abbrev pub invariant-loop-rev : goal.invariant-loop-rev
invariant-loop-rev l =
    l.heads.items ++ filter (λ rev. slice_index_or l.course.heads.items rev false) (range_with_len l.rev (length l.course.known.items - l.rev)) ≡ filter (λ rev. slice_index_or l.course.heads.items rev false) (range_with_len 0 (length l.course.known.items))
