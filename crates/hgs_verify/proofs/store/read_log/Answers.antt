use Rattle.std.proofs.Common.{◌≡◌, ◌∙◌, ap, subst}
use Rattle.hgs_files.specs.Tree.{after_all, bytes_at}
use Rattle.hgs_index.specs.Either.{chunks_either}
use Rattle.hgs_index.specs.Inline.{index_apart}
use Rattle.hgs_findings.specs.Reading.{Log, data_path, index_in, index_path}
use Rattle.hgs_judge.specs.Read.{KeepsLimits}
use Rattle.hgs_report.specs.Store.{IsLogOf}
use Rattle.hgs_verify.specs.Parts.{AreBytes}
use Rattle.hgs_verify.proofs.FileLemmas.{if-then}
use Rattle.hgs_verify.proofs.store.read_log.Goals as goal

pub returns-clause-found : goal.returns-clause-found
returns-clause-found g c = λ alone.
    let start = g.R.Reads.start c.read_either.new.files in
    let index = c.args.index.now in
    let chunks = c.args.chunks.now in
    if-then (g.R.Reads.seen c.read_either.new.files) (λ log. AreBytes c.in_ok-parts.parts (index_apart (bytes_at (after_all log start) index)) (chunks_either (bytes_at (after_all log start) index) (bytes_at (after_all log start) chunks)))
    (λ log. (which : Log) → index ≡ index_path which → chunks ≡ data_path which → IsLogOf which c.in_ok-log.log (after_all log start))
    (λ log are which i d.
    let t = after_all log start in
    c.in_ok-log.ensures.found which t (
      are.0 ∙ ap (λ p. index_apart (bytes_at t p)) i,
      are.1 ∙ ap (λ p. chunks_either (bytes_at t p) (bytes_at t chunks)) i ∙ ap (λ p. chunks_either (bytes_at t (index_path which)) (bytes_at t p)) d,
    ))
    (c.in_ok-parts.ensures.found alone)

pub returns-clause-limits : goal.returns-clause-limits
returns-clause-limits g c = λ alone.
    let start = g.R.Reads.start c.read_either.new.files in
    let index = c.args.index.now in
    let chunks = c.args.chunks.now in
    if-then (g.R.Reads.seen c.read_either.new.files) (λ log. AreBytes c.in_ok-parts.parts (index_apart (bytes_at (after_all log start) index)) (chunks_either (bytes_at (after_all log start) index) (bytes_at (after_all log start) chunks)))
    (λ log. (which : Log) → index ≡ index_path which → KeepsLimits (index_in (after_all log start) which))
    (λ log are which i. subst KeepsLimits (are.0 ∙ ap (λ p. index_apart (bytes_at (after_all log start) p)) i) c.in_ok-log.ensures.limits)
    (c.in_ok-parts.ensures.found alone)
