use Rattle.std.proofs.Common.{false, replicate, ap, ◌∙◌, arith}
use Rattle.hgs_reader.specs.Heads.{marked_by}
use Rattle.hgs_reader.proofs.HeadLemmas.{marks_on, marks_end}
use Rattle.hgs_reader.proofs.heads.parents_of.Goals as goal

pub loop-rev-init : goal.loop-rev-init
loop-rev-init c = ap (marked_by c.args.log.now.entries) (c.in_ok-marks.ensures.items_if_clones_equal (λ y h. h) ∙ ap (λ n. replicate n false) c.len.ensures)

pub loop-rev-preserved : goal.loop-rev-preserved
loop-rev-preserved c = marks_on c.args.log.now.entries c.loop-rev.rev c.entry-entry.result.now _ c.loop-rev.marks.items c.mark.new.marks.items _ c.entry-entry.ensures c.loop-rev.invariant c.mark.ensures c.mark-in-loop-rev.ensures

pub returns : goal.returns
returns c =
    let past = c.loop-rev-test.false in
    let n = c.len-rev-end.ensures in
    marks_end c.args.log.now.entries c.loop-rev.rev _ c.loop-rev.marks.items (omega (arith, past, n)) c.loop-rev.invariant
