use Rattle.std.proofs.Common.{◌∙◌, [], false, length}
use Rattle.std.specs.List.{range_with_len}
use Rattle.std.specs.Prelude.{slice_index_or}
use Rattle.hgs_branch.specs.Kept.{names_in}
use Rattle.hgs_branch.proofs.OrderLemmas.{sorted_is}
use Rattle.hgs_branch.proofs.print.in_order.Goals as goal

pub returns : goal.returns
returns c =
    let course = c.args.course.now in
    sorted_is (names_in course.names.items course.known.items) (λ rev. slice_index_or course.heads.items rev false) (range_with_len 0 (length course.known.items)) c.in_ok-heads.heads.items c.sort_by_branch.new.revs.items c.in_ok-heads.ensures c.in_ok-sort_by_branch.ensures.sorted c.in_ok-sort_by_branch.ensures.stable
