use Rattle.std.proofs.Common.{◌≡◌, length, sym, ◌∙◌, ap, subst}
use Rattle.hgs_findings.specs.Findings.{IsReport}
use Rattle.hgs_findings.specs.Reading.{sight_of}
use Rattle.hgs_findings.specs.Regular.{used_paths}
use Rattle.hgs_judge.specs.Report.{findings_in}
use Rattle.hgs_report.specs.Parts.{AreParts}
use Rattle.hgs_report.specs.Store.{IsStoreOf}
use Rattle.hgs_verify.specs.Looked.{OfTree}
use Rattle.hgs_verify.specs.Refusal.{IsLimited, PartsKeepLimits}
use Rattle.hgs_verify.proofs.RefusalLemmas.{at-err}
use Rattle.hgs_verify.proofs.CountLemmas.{changeset-count}
use Rattle.hgs_verify.proofs.PathAdded.{if-each}
use Rattle.hgs_verify.proofs.report.report_of.Goals as goal

pub returns-clause-report : goal.returns-clause-report
returns-clause-report g c = λ alone.
    let store = c.args.store.now in
    let keys = c.in_ok-used.used.keys in
    let all = findings_in c.in_ok-found.found.items in
    let ordered = findings_in c.in_ok-findings.findings.items in
    if-each (g.R.Reads.seen c.gather.new.files) (g.R.Reads.start c.gather.new.files) (λ t. IsStoreOf store t → keys ≡ used_paths (sight_of t) → AreParts t all) (λ t. IsStoreOf store t → IsReport t ordered c.len.result c.in_ok-filelogs.filelogs)
    (λ t p is.
    let used = c.in_ok-used.ensures (sight_of t) (c.deref.ensures.value ∙ is.trees) (c.deref-2.ensures.value ∙ is.changesets) in
    let report = c.parts_make_report.ensures t all ordered (p is used) c.in_ok-findings.ensures.rise c.in_ok-findings.ensures.same in
    subst (λ n. IsReport t ordered n c.in_ok-filelogs.filelogs) (sym (c.len.ensures ∙ changeset-count store t is))
    (subst (λ n. IsReport t ordered (length (sight_of t).changelog) n) (sym (c.in_ok-filelogs.ensures ∙ ap length used)) report))
    (c.in_ok-found.ensures.parts alone)

pub returns-in_err-found-clause-why : goal.returns-in_err-found-clause-why
returns-in_err-found-clause-why g c =
    let seen = g.R.Reads.seen c.gather.new.files in
    let start = g.R.Reads.start c.gather.new.files in
    let store = c.args.store.now in
    let keys = c.in_ok-used.used.keys in
    let e = c.in_err-found.field-0.0 in
    at-err c.from_residual-in_err-found.result e (λ x. OfTree g.R.Reads.alone seen start (λ t. IsStoreOf store t → IsLimited x t)) c.from_residual-in_err-found.ensures.0 c.from_residual-in_err-found.ensures.1
    (λ alone.
    if-each seen start (λ t. keys ≡ used_paths (sight_of t) → IsLimited e t) (λ t. IsStoreOf store t → IsLimited e t)
    (λ t p is. p (c.in_ok-used.ensures (sight_of t) (c.deref.ensures.value ∙ is.trees) (c.deref-2.ensures.value ∙ is.changesets)))
    (c.in_err-found.ensures.why alone))

pub returns-clause-limits : goal.returns-clause-limits
returns-clause-limits g c = λ alone.
    let store = c.args.store.now in
    let keys = c.in_ok-used.used.keys in
    if-each (g.R.Reads.seen c.gather.new.files) (g.R.Reads.start c.gather.new.files) (λ t. keys ≡ used_paths (sight_of t) → PartsKeepLimits t) (λ t. IsStoreOf store t → PartsKeepLimits t)
    (λ t p is. p (c.in_ok-used.ensures (sight_of t) (c.deref.ensures.value ∙ is.trees) (c.deref-2.ensures.value ∙ is.changesets)))
    (c.in_ok-found.ensures.limits alone)
