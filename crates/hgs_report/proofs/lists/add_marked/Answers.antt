use Rattle.std.proofs.Common.{◌++◌, ◌∙◌, ap}
use Rattle.hgs_judge.specs.Report.{each_from, findings_in}
use Rattle.hgs_report.specs.Lines.{of_mark}
use Rattle.hgs_report.proofs.ListLemmas.{lists-added}
use Rattle.hgs_report.proofs.lists.add_marked.Goals as goal

pub returns : goal.returns
returns c = λ t are.
    let old = findings_in c.args.into.now.items in
    lists-added t c.args.marks.now are old (findings_in c.add_known.new.into.items) (c.in_ok-add_known.ensures ∙ ap (λ p. old ++ each_from (of_mark p) 0 c.args.marks.now) c.requires)
