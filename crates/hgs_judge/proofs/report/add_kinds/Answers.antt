use Rattle.std.proofs.Common.{get_or}
use Rattle.std.specs.Prelude.{false}
use Rattle.std.proofs.lemmas.Option.{slice_get-get_or}
use Rattle.hgs_judge.specs.declared.kinds.Kinds.{Kinds}
use Rattle.hgs_judge.specs.Report.{findings_in, of_kinds, one_if}
use Rattle.hgs_judge.proofs.ReportLemmas.{added, three-added}
use Rattle.hgs_judge.proofs.report.add_kinds.Goals as goal

pub loop-rev-preserved : goal.loop-rev-preserved
loop-rev-preserved c =
    let rev = c.loop-rev.rev in
    let path = c.args.path.now in
    let none : Kinds = record { is_unneeded = false; is_misplaced = false; is_wrongly_made = false } in
    let k : Kinds = get_or c.args.kinds.now rev none in
    added (of_kinds path) c.args.kinds.now rev k (findings_in c.args.into.now.items) (findings_in c.loop-rev.into.items) (findings_in c.add_if-in-loop-rev-2.new.into.items)
    (slice_get-get_or c.args.kinds.now rev none c.loop-rev-test.true) c.loop-rev.invariant
    (three-added (findings_in c.loop-rev.into.items) (findings_in c.add_if.new.into.items) (findings_in c.add_if-in-loop-rev.new.into.items) (findings_in c.add_if-in-loop-rev-2.new.into.items)
    (one_if k.is_unneeded path rev 6) (one_if k.is_misplaced path rev 7) (one_if k.is_wrongly_made path rev 8)
    c.in_ok-add_if.ensures c.in_ok-add_if-2.ensures c.in_ok-add_if-3.ensures)
