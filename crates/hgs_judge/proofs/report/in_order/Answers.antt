use Rattle.std.proofs.Common.{refl, ◌∙◌, ap}
use Rattle.std.specs.List.{list_any}
use Rattle.std.proofs.lemmas.List.Filters.{dedup_is}
use Rattle.hgs_findings.specs.Findings.{is_finding, rise}
use Rattle.hgs_judge.specs.Report.{findings_in}
use Rattle.hgs_judge.proofs.ReportLemmas.{dedup-rise, same-findings}
use Rattle.hgs_judge.proofs.report.in_order.Goals as goal

pub returns-clause-rise : goal.returns-clause-rise
returns-clause-rise c = ap (λ l. rise (findings_in l)) (dedup_is _ _ _ c.dedup.ensures.filtered) ∙ dedup-rise _ (λ f g. refl) c.sort.new.self.items c.in_ok-sort.ensures.sorted

pub returns-clause-same : goal.returns-clause-same
returns-clause-same c = λ path rev kind.
    ap (λ l. list_any (is_finding path rev kind) (findings_in l)) (dedup_is _ _ _ c.dedup.ensures.filtered)
    ∙ same-findings _ (λ f g. refl) (is_finding path rev kind) c.args.findings.items c.sort.new.self.items c.in_ok-sort.ensures.permutation
