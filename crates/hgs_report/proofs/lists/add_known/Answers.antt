use Rattle.std.proofs.Common.{get_or}
use Rattle.std.specs.Prelude.{false}
use Rattle.std.proofs.lemmas.Option.{slice_get-get_or}
use Rattle.hgs_judge.specs.Report.{findings_in}
use Rattle.hgs_report.specs.Lines.{of_mark}
use Rattle.hgs_report.proofs.EachLemmas.{added-first}
use Rattle.hgs_report.proofs.lists.add_known.Goals as goal

pub loop-rev-preserved : goal.loop-rev-preserved
loop-rev-preserved c =
    let rev = c.loop-rev.rev in
    added-first (of_mark c.args.path.now) c.args.marks.now rev (get_or c.args.marks.now rev false) (findings_in c.args.into.now.items) (findings_in c.loop-rev.into.items) (findings_in c.add_if.new.into.items)
    (slice_get-get_or c.args.marks.now rev false c.loop-rev-test.true) c.loop-rev.invariant c.in_ok-add_if.ensures
