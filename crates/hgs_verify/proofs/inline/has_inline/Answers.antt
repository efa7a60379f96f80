use Rattle.std.proofs.Common.{◌≡◌, ◌∙◌, ap}
use Rattle.hgs_files.specs.Tree.{after_all, bytes_at}
use Rattle.hgs_index.specs.Inline.{is_inline}
use Rattle.hgs_load.specs.Asks.{part_of}
use Rattle.hgs_path.specs.declared.name.Ext.TheVariants.{I}
use Rattle.hgs_path.specs.StoreName.{store_name}
use Rattle.hgs_verify.proofs.FileLemmas.{if-then}
use Rattle.hgs_verify.proofs.InlineLemmas.{head-form}
use Rattle.hgs_verify.proofs.inline.has_inline.Goals as goal

pub returns-clause-form : goal.returns-clause-form
returns-clause-form g c = λ alone.
    let start = g.R.Reads.start c.read_part.new.files in
    let part = c.in_ok-part.part in
    if-then (g.R.Reads.seen c.read_part.new.files) (λ log. part ≡ part_of (after_all log start) c.in_ok-index.index 0 64) (λ log. c.is_inline.result ≡ is_inline (bytes_at (after_all log start) (store_name c.args.path.now I)))
    (λ log is.
    c.is_inline.ensures ∙ ap is_inline c.bytes_of.ensures ∙ head-form (after_all log start c.in_ok-index.index) part is
    ∙ ap (λ p. is_inline (bytes_at (after_all log start) p)) c.in_ok-index.ensures)
    c.in_ok-part.ensures.answer
