use Rattle.std.proofs.Common.{◌≡◌, false, refl, ap, sym, ◌∙◌}
use Rattle.hgs_files.specs.Tree.{bytes_at}
use Rattle.hgs_findings.specs.Reading.{Log, data_path, index_in, index_path, the_changelog, the_manifest}
use Rattle.hgs_judge.specs.Read.{KeepsLimits}
use Rattle.hgs_load.specs.Form.{most_inline_index}
use Rattle.hgs_report.specs.Store.{IsLogOf, IsStoreOf}
use Rattle.hgs_stands.specs.Places.{changelog_index, manifest_index}
use Rattle.hgs_verify.specs.Looked.{OfTree}
use Rattle.hgs_verify.specs.Refusal.{IsLimited, IsOfLog, LogsKeepLimits}
use Rattle.hgs_verify.proofs.PathAdded.{if-each}
use Rattle.hgs_verify.proofs.RefusalLemmas.{at-err, log-limited, on-left, on-right}
use Rattle.hgs_verify.specs.Parts.{HaveShortLogs, is_long_inline}
use Rattle.hgs_verify.proofs.FileLemmas.{grows-on, two-looks}
use Rattle.hgs_verify.proofs.store.read_store.Goals as goal

pub returns-in_err-manifest-clause-seen : goal.returns-in_err-manifest-clause-seen
returns-in_err-manifest-clause-seen g c = grows-on (g.R.Reads.seen c.args.files.now) (g.R.Reads.seen c.read_log.new.files) (g.R.Reads.seen c.read_log-2.new.files) c.in_ok-changelog.ensures.seen c.read_log-2.ensures.seen

pub returns-in-Ok-clause-seen : goal.returns-in-Ok-clause-seen
returns-in-Ok-clause-seen g c = grows-on (g.R.Reads.seen c.args.files.now) (g.R.Reads.seen c.read_log.new.files) (g.R.Reads.seen c.read_log-2.new.files) c.in_ok-changelog.ensures.seen c.in_ok-manifest.ensures.seen

pub returns-clause-seen : goal.returns-clause-seen
returns-clause-seen g c = grows-on (g.R.Reads.seen c.args.files.now) (g.R.Reads.seen c.read_log.new.files) (g.R.Reads.seen c.read_log-2.new.files) c.in_ok-changelog.ensures.seen c.in_ok-manifest.ensures.seen

pub returns-in-Ok-clause-found : goal.returns-in-Ok-clause-found
returns-in-Ok-clause-found g c = λ alone.
    let paths = c.in_ok-paths.paths in
    two-looks (g.R.Reads.seen c.read_log.new.files) (g.R.Reads.seen c.read_log-2.new.files) (g.R.Reads.start c.read_log.new.files) (g.R.Reads.start c.read_log-2.new.files)
    (λ t. (which : Log) → paths.changelog ≡ index_path which → paths.changelog_chunks ≡ data_path which → IsLogOf which c.in_ok-changelog.changelog t)
    (λ t. (which : Log) → paths.manifest ≡ index_path which → paths.manifest_chunks ≡ data_path which → IsLogOf which c.in_ok-manifest.manifest t) (IsStoreOf c.in-Ok.store)
    (c.in_ok-manifest.ensures.still alone) c.in_ok-manifest.ensures.same_start
    (λ t p q. c.in-Ok.ensures t (p the_changelog paths.changelog_is paths.changelog_chunks_are) (q the_manifest paths.manifest_is paths.manifest_chunks_are)) (c.in_ok-changelog.ensures.found alone) (c.in_ok-manifest.ensures.found alone)

pub returns-in-Ok-clause-short : goal.returns-in-Ok-clause-short
returns-in-Ok-clause-short g c = λ alone.
    let paths = c.in_ok-paths.paths in
    two-looks (g.R.Reads.seen c.read_log.new.files) (g.R.Reads.seen c.read_log-2.new.files) (g.R.Reads.start c.read_log.new.files) (g.R.Reads.start c.read_log-2.new.files)
    (λ t. is_long_inline most_inline_index (bytes_at t paths.changelog) ≡ false) (λ t. is_long_inline most_inline_index (bytes_at t paths.manifest) ≡ false) HaveShortLogs
    (c.in_ok-manifest.ensures.still alone) c.in_ok-manifest.ensures.same_start
    (λ t p q. record { changelog = ap (λ x. is_long_inline most_inline_index (bytes_at t x)) (sym paths.changelog_is) ∙ p; manifest = ap (λ x. is_long_inline most_inline_index (bytes_at t x)) (sym paths.manifest_is) ∙ q })
    (c.in_ok-changelog.ensures.short alone) (c.in_ok-manifest.ensures.short alone)

pub returns-in_err-changelog-clause-why : goal.returns-in_err-changelog-clause-why
returns-in_err-changelog-clause-why g c =
    let seen = g.R.Reads.seen c.read_log.new.files in
    let start = g.R.Reads.start c.read_log.new.files in
    let paths = c.in_ok-paths.paths in
    let e = c.in_err-changelog.field-0.0 in
    at-err c.from_residual-in_err-changelog.result e (λ x. OfTree g.R.Reads.alone seen start (IsLimited x)) c.from_residual-in_err-changelog.ensures.0 c.from_residual-in_err-changelog.ensures.1
    (λ alone.
    if-each seen start (λ t. (which : Log) → paths.changelog ≡ index_path which → IsOfLog which e t) (IsLimited e)
    (λ t p. log-limited the_changelog e t (on-left (is_long_inline most_inline_index (bytes_at t changelog_index)) (is_long_inline most_inline_index (bytes_at t manifest_index))) refl (p the_changelog paths.changelog_is))
    (c.in_err-changelog.ensures.why alone))

pub returns-in_err-manifest-clause-why : goal.returns-in_err-manifest-clause-why
returns-in_err-manifest-clause-why g c =
    let seen = g.R.Reads.seen c.read_log-2.new.files in
    let start = g.R.Reads.start c.read_log-2.new.files in
    let paths = c.in_ok-paths.paths in
    let e = c.in_err-manifest.field-0.0 in
    at-err c.from_residual-in_err-manifest.result e (λ x. OfTree g.R.Reads.alone seen start (IsLimited x)) c.from_residual-in_err-manifest.ensures.0 c.from_residual-in_err-manifest.ensures.1
    (λ alone.
    if-each seen start (λ t. (which : Log) → paths.manifest ≡ index_path which → IsOfLog which e t) (IsLimited e)
    (λ t p. log-limited the_manifest e t (on-right (is_long_inline most_inline_index (bytes_at t changelog_index)) (is_long_inline most_inline_index (bytes_at t manifest_index))) refl (p the_manifest paths.manifest_is))
    (c.in_err-manifest.ensures.why alone))

pub returns-in-Ok-clause-limits : goal.returns-in-Ok-clause-limits
returns-in-Ok-clause-limits g c = λ alone.
    let paths = c.in_ok-paths.paths in
    two-looks (g.R.Reads.seen c.read_log.new.files) (g.R.Reads.seen c.read_log-2.new.files) (g.R.Reads.start c.read_log.new.files) (g.R.Reads.start c.read_log-2.new.files)
    (λ t. (which : Log) → paths.changelog ≡ index_path which → KeepsLimits (index_in t which)) (λ t. (which : Log) → paths.manifest ≡ index_path which → KeepsLimits (index_in t which)) LogsKeepLimits
    (c.in_ok-manifest.ensures.still alone) c.in_ok-manifest.ensures.same_start
    (λ t p q. (p the_changelog paths.changelog_is, q the_manifest paths.manifest_is))
    (c.in_ok-changelog.ensures.limits alone) (c.in_ok-manifest.ensures.limits alone)
