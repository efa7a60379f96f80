use Rattle.std.proofs.Common.{◌++◌, ◌∙◌, ap}
use Rattle.hgs_judge.specs.Report.{findings_in}
use Rattle.hgs_findings.specs.Reading.{sight_of}
use Rattle.hgs_report.specs.Logs.{of_store}
use Rattle.hgs_report.proofs.StoreLemmas.{store-added}
use Rattle.hgs_report.proofs.store.add_store.Goals as goal

pub returns : goal.returns
returns c = λ t is. store-added c.args.store.now t is c.in_ok-kinds.kinds.items (c.in_ok-kinds.ensures.kinds (sight_of t) (c.deref.ensures.value ∙ is.changesets)) (findings_in c.args.into.now.items) (findings_in c.add_all.new.into.items) (c.in_ok-add_all.ensures ∙ ap (λ l. findings_in c.args.into.now.items ++ of_store c.args.store.now l) c.deref-2.ensures.value)
