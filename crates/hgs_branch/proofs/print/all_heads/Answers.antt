use Rattle.std.proofs.Common.{◌∙◌, false, length, arith}
use Rattle.std.specs.Prelude.{slice_index_or}
use Rattle.hgs_branch.proofs.PrintLemmas.{filter_next}
use Rattle.hgs_branch.proofs.print.all_heads.Goals as goal

pub loop-rev-preserved : goal.loop-rev-preserved
loop-rev-preserved c =
    filter_next (λ rev. slice_index_or c.args.course.now.heads.items rev false) c.loop-rev.heads.items c.add_head.new.heads.items c.loop-rev.rev (length c.args.course.now.known.items)
    (let lt = c.loop-rev-test.true in let size = c.len-rev-end.ensures in let long = c.args.course.now.known.ok.0 in omega (arith, lt, size, long)) c.in_ok-add_head.ensures
    ∙ c.loop-rev.invariant
