use Rattle.std.proofs.Common.{ℕ, List, ◌++◌, ◌∙◌, subst}
use Rattle.hgs_answers.specs.Answer.{leftover_text}
use Rattle.hgs_judge.specs.Report.{findings_in}
use Rattle.hgs_top.specs.Run.{EndsLine}
use Rattle.hgs_top.specs.Verified.{report_status, summary_text}
use Rattle.hgs_top.proofs.ConcludeLemmas.{no_memory}
use Rattle.hgs_top.proofs.generate.tell.Goals as goal

pub returns-in-Ok-clause-line : goal.returns-in-Ok-clause-line
returns-in-Ok-clause-line g c =
    let report = c.args.report.now in
    let text = summary_text (findings_in report.findings.items) report.changesets report.filelogs c.args.tip.now.node ++ leftover_text c.args.tip.now.swept in
    let P : List ℕ → ℕ → Type 0 = λ line status. EndsLine line status c.end_with.result (g.K.Sink.written c.args.out.now) (g.K.Sink.written c.end_with.new.out) in
    subst (λ s. P text s) c.status_of.ensures (subst (λ l. P l c.status_of.result) (c.deref.ensures.value ∙ c.in-Ok.ensures) c.end_with.ensures.line)

pub returns-in-Err-clause-line : goal.returns-in-Err-clause-line
returns-in-Err-clause-line g c =
    let report = c.args.report.now in
    no_memory (summary_text (findings_in report.findings.items) report.changesets report.filelogs c.args.tip.now.node ++ leftover_text c.args.tip.now.swept) (report_status (findings_in report.findings.items)) c.end_with-in-Err.result (g.K.Sink.written c.args.out.now) (g.K.Sink.written c.end_with-in-Err.new.out) c.end_with-in-Err.ensures.line
