use Rattle.hgs_judge.specs.Report.{findings_in}
use Rattle.hgs_report.specs.Logs.{of_link}
use Rattle.hgs_report.proofs.EachLemmas.{added-first}
use Rattle.hgs_report.proofs.logs.add_links.Goals as goal

pub loop-rev-preserved : goal.loop-rev-preserved
loop-rev-preserved c =
    added-first (of_link c.args.changelog.now) c.args.reading.now.log.entries c.loop-rev.rev c.entry.result.now (findings_in c.args.into.now.items) (findings_in c.loop-rev.into.items) (findings_in c.add_link.new.into.items)
    c.entry.ensures c.loop-rev.invariant c.in_ok-add_link.ensures
