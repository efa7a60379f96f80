use Rattle.std.proofs.Common.{◌≡◌, List, ℕ, slice_get, Ok, ◌∙◌, ap, subst}
use Rattle.std.specs.Prelude.{unwrap_or}
use Rattle.std.specs.Option.{option_map}
use Rattle.hgs_load.specs.Asks.{part_of}
use Rattle.hgs_revlog.specs.Text.{span_in}
use Rattle.hgs_loading.specs.Logs.{chunk_file, chunk_in_form}
use Rattle.hgs_loading.specs.Theorems.FoundLemmas.{finds-read}
use Rattle.hgs_loading.proofs.RestLemmas.{placed-found}
use Rattle.hgs_loading.proofs.texts.read_chunk.Goals as goal

pub returns-clause-found : goal.returns-clause-found
returns-clause-found g c =
    let paths = c.args.paths.now in
    let log = c.args.log.now in
    let file = chunk_file log.inline paths.index paths.chunks in
    let is : c.chunk_file-file.result.now ≡ file = c.chunk_file-file.ensures ∙ ap (λ b. chunk_file b paths.index paths.chunks) c.is_inline.ensures in
    let view : List ℕ → List ℕ = λ chunk. chunk in
    finds-read view g.R.Reads.alone (g.R.Reads.seen c.read_part.new.files) (g.R.Reads.start c.read_part.new.files) c.chunk_file-file.result.now c.span_in_file-span.result.from c.span_in_file-span.result.len c.in_ok-part.part (λ t. Ok (chunk_in_form paths.index paths.chunks log c.args.rev t)) (Ok c.unwrap_or.result)
    c.in_ok-part.ensures.answer
    (λ t e.
    placed-found t file (option_map (span_in log.inline c.args.rev) (slice_get log.entries c.args.rev)) c.span_in_file-span.result c.in_ok-part.part c.unwrap_or.result c.span_in_file-span.ensures (c.unwrap_or.ensures ∙ ap (λ (l : List ℕ). unwrap_or c.in_ok-part.part l) c.new.ensures)
    (subst (λ f. c.in_ok-part.part ≡ part_of t f c.span_in_file-span.result.from c.span_in_file-span.result.len) is e))
