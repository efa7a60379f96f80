use Rattle.std.proofs.Common.{refl, slice_get, List, ℕ, [], Some, Ok, Err}
use Rattle.std.specs.Prelude.{unwrap_or}
use Rattle.hgs_revlog.specs.Text.{text_of}
use Rattle.hgs_load.specs.Answer.{is_of_outside}
use Rattle.hgs_reader.specs.Find.{text_answer, text_at_asks}
use Rattle.hgs_load.specs.Theorems.AskLemmas.{either}
use Rattle.hgs_load.specs.Theorems.GivenLemmas.{takes-refused-read}
use Rattle.hgs_reader.proofs.ChunkLemmas.{chunk_read, chunk_takes}
use Rattle.hgs_reader.proofs.find.read_text.Goals as goal

pub returns-in-Err-clause-answer : goal.returns-in-Err-clause-answer
returns-in-Err-clause-answer g c =
    let e = c.in_ok-chunk.ensures in
    either (is_of_outside c.in-Err.refusal) _ _
    (λ h. chunk_read (g.R.Reads.seen c.args.files.now) (g.R.Reads.seen c.read_part.new.files) (g.R.Reads.start c.args.files.now) (g.R.Reads.start c.read_part.new.files) c.args.paths.now.chunks c.args.paths.now.chunks
    (slice_get c.args.log.now.entries c.args.rev) (λ chunk. text_answer c.args.paths.now.index (text_of c.args.log.now.entries c.args.rev chunk)) c.text_span-span.result c.in_ok-chunk.chunk _ (Err c.in-Err.refusal)
    c.text_span-span.ensures e.seen e.same_start refl e.answer refl h)
    c.in-Err.ensures.text

pub returns-in-Ok-clause-given : goal.returns-in-Ok-clause-given
returns-in-Ok-clause-given g c =
    let e = c.in_ok-chunk.ensures in
    chunk_takes (g.R.Reads.given c.args.files.now) (g.R.Reads.given c.read_part.new.files) (g.R.Reads.seen c.args.files.now) (g.R.Reads.seen c.read_part.new.files) (g.R.Reads.start c.args.files.now) (g.R.Reads.start c.read_part.new.files) c.args.paths.now.chunks c.args.paths.now.chunks (λ (text : List ℕ). text)
    (slice_get c.args.log.now.entries c.args.rev) (λ chunk. text_answer c.args.paths.now.index (text_of c.args.log.now.entries c.args.rev chunk)) c.text_span-span.result c.in_ok-chunk.chunk (unwrap_or c.in_ok-chunk.chunk []) (Ok c.in-Ok.text)
    c.text_span-span.ensures e.seen e.same_start refl e.answer refl e.given e.short c.in-Ok.ensures.text

pub returns-in-Err-clause-given : goal.returns-in-Err-clause-given
returns-in-Err-clause-given g c =
    let e = c.in_ok-chunk.ensures in
    chunk_takes (g.R.Reads.given c.args.files.now) (g.R.Reads.given c.read_part.new.files) (g.R.Reads.seen c.args.files.now) (g.R.Reads.seen c.read_part.new.files) (g.R.Reads.start c.args.files.now) (g.R.Reads.start c.read_part.new.files) c.args.paths.now.chunks c.args.paths.now.chunks (λ (text : List ℕ). text)
    (slice_get c.args.log.now.entries c.args.rev) (λ chunk. text_answer c.args.paths.now.index (text_of c.args.log.now.entries c.args.rev chunk)) c.text_span-span.result c.in_ok-chunk.chunk (unwrap_or c.in_ok-chunk.chunk []) (Err c.in-Err.refusal)
    c.text_span-span.ensures e.seen e.same_start refl e.answer refl e.given e.short c.in-Err.ensures.text

pub returns-in_err-chunk-clause-given : goal.returns-in_err-chunk-clause-given
returns-in_err-chunk-clause-given g c =
    let e = c.in_err-chunk.ensures in
    takes-refused-read (λ (text : List ℕ). text) (g.R.Reads.given c.args.files.now) (g.R.Reads.given c.read_part.new.files) (g.R.Reads.seen c.args.files.now) (g.R.Reads.seen c.read_part.new.files) (g.R.Reads.start c.args.files.now)
    (text_at_asks c.args.paths.now.index c.args.paths.now.chunks c.args.log.now (Some c.args.rev)) c.from_residual.result c.in_err-chunk.field-0.0 c.from_residual.ensures.0 c.from_residual.ensures.1 e.answer e.given e.seen
