use Rattle.std.proofs.Common.{◌∙◌, ap}
use Rattle.hgs_files.specs.Tree.{after_all, bytes_at}
use Rattle.hgs_index.specs.Either.{chunks_either}
use Rattle.hgs_index.specs.Inline.{index_apart}
use Rattle.hgs_findings.specs.Reading.{data_in, index_in, the_filelog}
use Rattle.hgs_path.specs.StoreName.{store_name}
use Rattle.hgs_path.specs.declared.name.Ext.TheVariants.{I, D}
use Rattle.hgs_verify.specs.Parts.{AreBytes}
use Rattle.hgs_verify.proofs.FileLemmas.{filelog-read, if-then}
use Rattle.hgs_verify.proofs.filelog.read_task.Goals as goal

pub returns-clause-read : goal.returns-clause-read
returns-clause-read g c = λ alone.
    let path = c.args.path in
    let start = g.R.Reads.start c.read_either.new.files in
    let index = c.in_ok-index.index in
    let chunks = c.in_ok-chunks.chunks in
    let parts = c.in_ok-parts.parts in
    if-then (g.R.Reads.seen c.read_either.new.files) (λ log. AreBytes parts (index_apart (bytes_at (after_all log start) index)) (chunks_either (bytes_at (after_all log start) index) (bytes_at (after_all log start) chunks))) (λ log. AreBytes parts (index_in (after_all log start) (the_filelog path)) (data_in (after_all log start) (the_filelog path)))
    (λ log are. filelog-read (after_all log start) path index chunks parts (c.in_ok-index.ensures ∙ ap (λ x. store_name x I) c.as_slice.ensures) (c.in_ok-chunks.ensures ∙ ap (λ x. store_name x D) c.as_slice-2.ensures) are) (c.in_ok-parts.ensures.found alone)
