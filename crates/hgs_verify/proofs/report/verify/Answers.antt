use Rattle.std.proofs.Common.{◌≡◌, ◌∙◌, refl}
use Rattle.std.specs.Prelude.{Ok}
use Rattle.hgs_load.specs.Open.{requires_path}
use Rattle.hgs_load.specs.Requirements.{requires_answer}
use Rattle.hgs_report.specs.Store.{IsStoreOf}
use Rattle.hgs_verify.specs.Looked.{OfTree}
use Rattle.hgs_verify.specs.Refusal.{IsLimited, IsWhy, LogsKeepLimits, PartsKeepLimits, PassesNone, required_in}
use Rattle.hgs_verify.proofs.RefusalLemmas.{at-err, limited-why}
use Rattle.hgs_verify.specs.Parts.{HaveShortLogs}
use Rattle.hgs_verify.specs.Report.{IsReportOf}
use Rattle.hgs_verify.proofs.FileLemmas.{two-looks}
use Rattle.hgs_verify.proofs.WithinLemmas.{passes-none}
use Rattle.hgs_verify.proofs.report.verify.Goals as goal

pub returns-clause-report : goal.returns-clause-report
returns-clause-report g c = λ alone.
    let store = c.in_ok-store.store in
    let report = c.in_ok-report.report in
    two-looks (g.R.Reads.seen c.read_store.new.files) (g.R.Reads.seen c.report_of.new.files) (g.R.Reads.start c.read_store.new.files) (g.R.Reads.start c.report_of.new.files)
    (IsStoreOf store) (λ t. IsStoreOf store t → IsReportOf report t) (IsReportOf report)
    (c.in_ok-report.ensures.still alone) c.in_ok-report.ensures.same_start (λ t p q. q p) (c.in_ok-store.ensures.found alone) (c.in_ok-report.ensures.report alone)

pub returns-clause-required : goal.returns-clause-required
returns-clause-required g c = λ alone.
    let store = c.in_ok-store.store in
    let report = c.in_ok-report.report in
    two-looks (g.R.Reads.seen c.test_requires.new.files) (g.R.Reads.seen c.report_of.new.files) (g.R.Reads.start c.test_requires.new.files) (g.R.Reads.start c.report_of.new.files)
    (λ t. requires_answer (t requires_path) ≡ Ok tt) (λ t. IsStoreOf store t → IsReportOf report t) (λ t. requires_answer (t requires_path) ≡ Ok tt)
    (c.in_ok-report.ensures.still alone ∙ c.in_ok-store.ensures.still alone) (c.in_ok-report.ensures.same_start ∙ c.in_ok-store.ensures.same_start) (λ t p q. p) (c.in_ok-test_requires.ensures.required alone) (c.in_ok-report.ensures.report alone)

pub returns-clause-short : goal.returns-clause-short
returns-clause-short g c = λ alone.
    let store = c.in_ok-store.store in
    let report = c.in_ok-report.report in
    two-looks (g.R.Reads.seen c.read_store.new.files) (g.R.Reads.seen c.report_of.new.files) (g.R.Reads.start c.read_store.new.files) (g.R.Reads.start c.report_of.new.files)
    HaveShortLogs (λ t. IsStoreOf store t → IsReportOf report t) HaveShortLogs
    (c.in_ok-report.ensures.still alone) c.in_ok-report.ensures.same_start (λ t p q. p) (c.in_ok-store.ensures.short alone) (c.in_ok-report.ensures.report alone)

pub returns-in_err-store-clause-why : goal.returns-in_err-store-clause-why
returns-in_err-store-clause-why g c =
    let seen = g.R.Reads.seen c.read_store.new.files in
    let start = g.R.Reads.start c.read_store.new.files in
    let e = c.in_err-store.field-0.0 in
    at-err c.from_residual-in_err-store.result e (λ x. OfTree g.R.Reads.alone seen start (IsWhy x)) c.from_residual-in_err-store.ensures.0 c.from_residual-in_err-store.ensures.1
    (λ alone.
    two-looks (g.R.Reads.seen c.test_requires.new.files) seen (g.R.Reads.start c.test_requires.new.files) start
    (λ t. required_in t ≡ Ok tt) (IsLimited e) (IsWhy e)
    (c.in_err-store.ensures.still alone) c.in_err-store.ensures.same_start (λ t p q. limited-why e t p q) (c.in_ok-test_requires.ensures.given alone) (c.in_err-store.ensures.why alone))

pub returns-in_err-report-clause-why : goal.returns-in_err-report-clause-why
returns-in_err-report-clause-why g c =
    let store = c.in_ok-store.store in
    let looked = g.R.Reads.seen c.read_store.new.files in
    let first = g.R.Reads.start c.read_store.new.files in
    let seen = g.R.Reads.seen c.report_of.new.files in
    let start = g.R.Reads.start c.report_of.new.files in
    let e = c.in_err-report.field-0.0 in
    at-err c.from_residual-in_err-report.result e (λ x. OfTree g.R.Reads.alone seen start (IsWhy x)) c.from_residual-in_err-report.ensures.0 c.from_residual-in_err-report.ensures.1
    (λ alone.
    two-looks looked seen first start (λ t. (required_in t ≡ Ok tt) × IsStoreOf store t) (λ t. IsStoreOf store t → IsLimited e t) (IsWhy e)
    (c.in_err-report.ensures.still alone) c.in_err-report.ensures.same_start (λ t p q. limited-why e t p.0 (q p.1))
    (two-looks (g.R.Reads.seen c.test_requires.new.files) looked (g.R.Reads.start c.test_requires.new.files) first
    (λ t. required_in t ≡ Ok tt) (IsStoreOf store) (λ t. (required_in t ≡ Ok tt) × IsStoreOf store t)
    (c.in_ok-store.ensures.still alone) c.in_ok-store.ensures.same_start (λ t p q. (p, q)) (c.in_ok-test_requires.ensures.given alone) (c.in_ok-store.ensures.found alone))
    (c.in_err-report.ensures.why alone))

pub returns-clause-limits : goal.returns-clause-limits
returns-clause-limits g c = λ alone.
    let store = c.in_ok-store.store in
    let looked = g.R.Reads.seen c.read_store.new.files in
    let first = g.R.Reads.start c.read_store.new.files in
    let read = c.in_ok-store.ensures in
    two-looks looked (g.R.Reads.seen c.report_of.new.files) first (g.R.Reads.start c.report_of.new.files)
    (λ t. IsStoreOf store t × HaveShortLogs t × LogsKeepLimits t) (λ t. IsStoreOf store t → PartsKeepLimits t) PassesNone
    (c.in_ok-report.ensures.still alone) c.in_ok-report.ensures.same_start (λ t p q. passes-none t p.1 p.2 (q p.0))
    (two-looks looked looked first first (IsStoreOf store) (λ t. HaveShortLogs t × LogsKeepLimits t) (λ t. IsStoreOf store t × HaveShortLogs t × LogsKeepLimits t)
    refl refl (λ t p q. (p, q.0, q.1)) (read.found alone)
    (two-looks looked looked first first HaveShortLogs LogsKeepLimits (λ t. HaveShortLogs t × LogsKeepLimits t) refl refl (λ t p q. (p, q)) (read.short alone) (read.limits alone)))
    (c.in_ok-report.ensures.limits alone)
