-- A report that was written is told.
use Rattle.std.proofs.Common.{◌≡◌, ◌⊎◌, ◌++◌, ℕ, List, Option, Some, None, Ok, arith, inl, inr}
use Rattle.hgs_files.specs.declared.op.Op.{Op}
use Rattle.hgs_files.specs.Streams.{IsWritten}
use Rattle.hgs_files.specs.Tree.{Tree, after_all}
use Rattle.hgs_findings.specs.Findings.{Finding, IsReport}
use Rattle.hgs_judge.specs.Report.{findings_in}
use Rattle.hgs_load.specs.declared.answer.ReadAnswer.{ReadAnswer}
use Rattle.hgs_load.specs.declared.answer.ReadAnswer.TheVariants.{Damaged, Fault, Limit, UnknownPath, NotARepository, Requirement, Memory}
use Rattle.hgs_load.specs.Answer.{refusal_line, status_of}
use Rattle.hgs_load.specs.Open.{requires_path}
use Rattle.hgs_load.specs.Requirements.{requires_answer}
use Rattle.hgs_verify.specs.declared.report.Report.{Report}
use Rattle.hgs_verify.specs.Parts.{HaveShortLogs}
use Rattle.hgs_verify.specs.Refusal.{PassesNone, required_in}
use Rattle.hgs_verify.specs.Report.{IsReportOf}
use Rattle.hgs_top.specs.Run.{EndsLine, IsReportable, OfTree, TellsReport, Verifies}
use Rattle.hgs_answers.specs.Answer.{leftover_text}
use Rattle.hgs_grown.specs.declared.commits.Tip.{Tip}
use Rattle.hgs_top.specs.Orders.{TellsSummary}
use Rattle.hgs_top.specs.Verified.{report_status, report_text, summary_text}

-- what the files have of which a report was given
pub reportable : (log : Option (List Op)) (start : Tree) → OfTree log start (λ t. requires_answer (t requires_path) ≡ Ok tt) → OfTree log start (λ t. required_in t ≡ Ok tt) → OfTree log start HaveShortLogs → OfTree log start PassesNone → OfTree log start IsReportable
reportable None start required profile short limits = tt
reportable (Some l) start required profile short limits = record { required = required; profile = profile; short = short; limits = limits }

pub tells : (log : Option (List Op)) (start : Tree) (report : Report) (status : ℕ) (old new : Option (List ℕ)) → OfTree log start IsReportable → OfTree log start (IsReportOf report)
    → EndsLine (report_text (findings_in report.findings.items) report.changesets report.filelogs) (report_status (findings_in report.findings.items)) status old new → OfTree log start (TellsReport status old new)
tells None start report status old new has is line = tt
tells (Some l) start report status old new has is line = (has, findings_in report.findings.items, report.changesets, report.filelogs, is, line)

pub tells-summary : (log : Option (List Op)) (start : Tree) (report : Report) (tip : Tip) (status : ℕ) (old new : Option (List ℕ)) → OfTree log start IsReportable → OfTree log start (IsReportOf report)
    → EndsLine (summary_text (findings_in report.findings.items) report.changesets report.filelogs tip.node ++ leftover_text tip.swept) (report_status (findings_in report.findings.items)) status old new → OfTree log start (TellsSummary tip status old new)
tells-summary None start report tip status old new has is line = tt
tells-summary (Some l) start report tip status old new has is line = (has, findings_in report.findings.items, report.changesets, report.filelogs, is, line)

-- ---- a run that ends as a report does

module _ (status : ℕ) where
  is-19 : (status ≡ 0) ⊎ (status ≡ 29) → status ≡ 19 → ⊥
  is-19 (inl a) e = omega (arith, a, e)
  is-19 (inr a) e = omega (arith, a, e)

  is-30 : (status ≡ 0) ⊎ (status ≡ 29) → status ≡ 30 → ⊥
  is-30 (inl a) e = omega (arith, a, e)
  is-30 (inr a) e = omega (arith, a, e)

  line-whole : (line : List ℕ) (wanted : ℕ) (old new : Option (List ℕ)) → (status ≡ 0) ⊎ (status ≡ 29) → EndsLine line wanted status old new → (status ≡ wanted) × IsWritten old new line
  line-whole line wanted old new h (inl l) = l
  line-whole line wanted old new h (inr (inl l)) = absurd (is-30 h l.0)
  line-whole line wanted old new h (inr (inr (inl s, cut))) = absurd (is-19 h s)
  line-whole line wanted old new h (inr (inr (inr s, cut))) = absurd (is-30 h s)

  not-refused : (refusal : ReadAnswer) → (status ≡ 0) ⊎ (status ≡ 29) → status ≡ status_of refusal → ⊥
  not-refused (Damaged d) (inl a) e = omega (arith, a, e)
  not-refused (Damaged d) (inr a) e = omega (arith, a, e)
  not-refused Fault (inl a) e = omega (arith, a, e)
  not-refused Fault (inr a) e = omega (arith, a, e)
  not-refused (Limit w) (inl a) e = omega (arith, a, e)
  not-refused (Limit w) (inr a) e = omega (arith, a, e)
  not-refused UnknownPath (inl a) e = omega (arith, a, e)
  not-refused UnknownPath (inr a) e = omega (arith, a, e)
  not-refused NotARepository (inl a) e = omega (arith, a, e)
  not-refused NotARepository (inr a) e = omega (arith, a, e)
  not-refused (Requirement w) (inl a) e = omega (arith, a, e)
  not-refused (Requirement w) (inr a) e = omega (arith, a, e)
  not-refused Memory h e = is-30 h e

pub told-whole : (Faulted : Type 0) (log : List Op) (start : Tree) (status : ℕ) (old new : Option (List ℕ)) → Verifies Faulted (Some log) start status old new → (status ≡ 0) ⊎ (status ≡ 29)
    → IsReportable (after_all log start) × (findings : List Finding) × (changesets : ℕ) × (filelogs : ℕ) × IsReport (after_all log start) findings changesets filelogs × (status ≡ report_status findings) × IsWritten old new (report_text findings changesets filelogs)
told-whole Faulted log start status old new (inl t) h =
    let whole = line-whole status (report_text t.1 t.2 t.3) (report_status t.1) old new h t.5 in
    (t.0, t.1, t.2, t.3, t.4, whole.0, whole.1)
told-whole Faulted log start status old new (inr r) h = absurd (not-refused status r.0 h (line-whole status (refusal_line r.0) (status_of r.0) old new h r.4).0)
