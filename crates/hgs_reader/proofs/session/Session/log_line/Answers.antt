use Rattle.std.proofs.Common.{List, ℕ, ◌++◌, Result, refl, slice_get, Ok, Err, ap, sym, ◌∙◌, subst}
use Rattle.std.specs.Option.{option_map}
use Rattle.hgs_revlog.specs.Log.{Log}
use Rattle.hgs_revlog.specs.Text.{span_in}
use Rattle.hgs_load.specs.View.{View}
use Rattle.hgs_load.specs.Answer.{is_of_outside}
use Rattle.hgs_reader.specs.Line.{line_at, line_asks}
use Rattle.hgs_load.specs.declared.answer.ReadAnswer.{ReadAnswer}
use Rattle.hgs_load.specs.Asks.{answer}
use Rattle.hgs_load.specs.Given.{Gave}
use Rattle.hgs_load.specs.Theorems.GivenLemmas.{takes-ended, text-lost, text-refused-read}
use Rattle.hgs_load.specs.Theorems.AskLemmas.{either}
use Rattle.hgs_reader.proofs.ChunkLemmas.{changeset_read, changeset_gave}
use Rattle.hgs_reader.proofs.session.Session.log_line.Goals as goal

pub returns-in-Err-clause-answer : goal.returns-in-Err-clause-answer
returns-in-Err-clause-answer g c = (
  refl,
  either (is_of_outside c.in-Err.refusal) _ _
      (λ h. changeset_read c.args.self.now.changelog.inline c.args.rev (g.R.Reads.seen c.args.files.now) (g.R.Reads.seen c.read_part.new.files) (g.R.Reads.start c.args.files.now) (g.R.Reads.start c.read_part.new.files) c.chunks.result.now
      (slice_get c.args.self.now.changelog.entries c.args.rev) (line_at c.args.self.now c.args.rev) c.span_in_file-span.result c.in_ok-part.part c.bytes_of.result.now (Err c.in-Err.refusal)
      (ap (λ (l : Log). option_map (span_in l.inline c.args.rev) (slice_get l.entries c.args.rev)) (sym (c.changelog.ensures ∙ ap (λ (v : View). v.changelog) c.self.view_is)) ∙ c.span_in_file-span.ensures) c.in_ok-part.ensures.seen c.in_ok-part.ensures.same_start c.chunks.ensures c.in_ok-part.ensures.answer c.bytes_of.ensures h)
      c.in-Err.ensures.line,
)

pub returns-in-Err-clause-given : goal.returns-in-Err-clause-given
returns-in-Err-clause-given g c =
    let e = c.in_ok-part.ensures in
    takes-ended {V = List ℕ} (λ (line : List ℕ). line) (g.R.Reads.given c.args.files.now) (g.R.Reads.given c.read_part.new.files) (g.R.Reads.seen c.args.files.now) (g.R.Reads.seen c.read_part.new.files) (g.R.Reads.start c.args.files.now) (line_asks c.args.self.now c.args.rev) (line_at c.args.self.now c.args.rev c.bytes_of.result.now) (Err c.in-Err.refusal)
    (changeset_gave c.args.self.now.changelog.inline c.args.rev (g.R.Reads.seen c.args.files.now) (g.R.Reads.seen c.read_part.new.files) (g.R.Reads.start c.args.files.now) (g.R.Reads.start c.read_part.new.files) c.chunks.result.now (g.R.Reads.given c.args.files.now) (g.R.Reads.given c.read_part.new.files)
    (slice_get c.args.self.now.changelog.entries c.args.rev) (line_at c.args.self.now c.args.rev) c.span_in_file-span.result c.in_ok-part.part c.bytes_of.result.now
    (ap (λ (l : Log). option_map (span_in l.inline c.args.rev) (slice_get l.entries c.args.rev)) (sym (c.changelog.ensures ∙ ap (λ (v : View). v.changelog) c.self.view_is)) ∙ c.span_in_file-span.ensures) e.seen e.same_start c.chunks.ensures e.answer c.bytes_of.ensures e.given e.short)
    c.in-Err.ensures.line

pub returns-clause-given : goal.returns-clause-given
returns-clause-given g c =
    let e = c.in_ok-part.ensures in
    let P : Result (List ℕ) ReadAnswer → Type 0 = λ y. Gave (g.R.Reads.given c.args.files.now) (g.R.Reads.given c.read_part.new.files) (g.R.Reads.seen c.args.files.now) (g.R.Reads.start c.args.files.now) (g.R.Reads.seen c.read_part.new.files) (line_asks c.args.self.now c.args.rev) (answer y) in (
      c.in-Ok.line.items,
      c.in_ok-extend_from_slice.ensures.items ∙ ap (λ l. c.args.into.now.items ++ l) c.deref.ensures.value,
      subst P c.in-Ok.ensures.line
          (changeset_gave c.args.self.now.changelog.inline c.args.rev (g.R.Reads.seen c.args.files.now) (g.R.Reads.seen c.read_part.new.files) (g.R.Reads.start c.args.files.now) (g.R.Reads.start c.read_part.new.files) c.chunks.result.now (g.R.Reads.given c.args.files.now) (g.R.Reads.given c.read_part.new.files)
          (slice_get c.args.self.now.changelog.entries c.args.rev) (line_at c.args.self.now c.args.rev) c.span_in_file-span.result c.in_ok-part.part c.bytes_of.result.now
          (ap (λ (l : Log). option_map (span_in l.inline c.args.rev) (slice_get l.entries c.args.rev)) (sym (c.changelog.ensures ∙ ap (λ (v : View). v.changelog) c.self.view_is)) ∙ c.span_in_file-span.ensures) e.seen e.same_start c.chunks.ensures e.answer c.bytes_of.ensures e.given e.short),
    )

pub returns-in_err-extend_from_slice-clause-given : goal.returns-in_err-extend_from_slice-clause-given
returns-in_err-extend_from_slice-clause-given g c =
    let e = c.in_ok-part.ensures in
    text-lost (g.R.Reads.given c.args.files.now) (g.R.Reads.given c.read_part.new.files) (g.R.Reads.seen c.args.files.now) (g.R.Reads.seen c.read_part.new.files) (g.R.Reads.start c.args.files.now) (line_asks c.args.self.now c.args.rev) (answer (line_at c.args.self.now c.args.rev c.bytes_of.result.now)) c.args.into.now.items c.extend_from_slice.new.self.items c.from_residual-in_err-extend_from_slice.result c.from_residual-in_err-extend_from_slice.ensures.0 c.from_residual-in_err-extend_from_slice.ensures.1
    (changeset_gave c.args.self.now.changelog.inline c.args.rev (g.R.Reads.seen c.args.files.now) (g.R.Reads.seen c.read_part.new.files) (g.R.Reads.start c.args.files.now) (g.R.Reads.start c.read_part.new.files) c.chunks.result.now (g.R.Reads.given c.args.files.now) (g.R.Reads.given c.read_part.new.files)
    (slice_get c.args.self.now.changelog.entries c.args.rev) (line_at c.args.self.now c.args.rev) c.span_in_file-span.result c.in_ok-part.part c.bytes_of.result.now
    (ap (λ (l : Log). option_map (span_in l.inline c.args.rev) (slice_get l.entries c.args.rev)) (sym (c.changelog.ensures ∙ ap (λ (v : View). v.changelog) c.self.view_is)) ∙ c.span_in_file-span.ensures) e.seen e.same_start c.chunks.ensures e.answer c.bytes_of.ensures e.given e.short)

pub returns-in_err-part-clause-given : goal.returns-in_err-part-clause-given
returns-in_err-part-clause-given g c =
    let e = c.in_err-part.ensures in
    text-refused-read (g.R.Reads.given c.args.files.now) (g.R.Reads.given c.read_part.new.files) (g.R.Reads.seen c.args.files.now) (g.R.Reads.seen c.read_part.new.files) (g.R.Reads.start c.args.files.now) (line_asks c.args.self.now c.args.rev) c.args.into.now.items c.args.into.now.items c.from_residual.result c.in_err-part.field-0.0 c.from_residual.ensures.0 c.from_residual.ensures.1 e.answer e.given e.seen

pub returns-clause-answer : goal.returns-clause-answer
returns-clause-answer g c =
    let e = c.in_ok-part.ensures in (
      c.in-Ok.line.items,
      c.in_ok-extend_from_slice.ensures.items ∙ ap (λ l. c.args.into.now.items ++ l) c.deref.ensures.value,
      changeset_read c.args.self.now.changelog.inline c.args.rev (g.R.Reads.seen c.args.files.now) (g.R.Reads.seen c.read_part.new.files) (g.R.Reads.start c.args.files.now) (g.R.Reads.start c.read_part.new.files) c.chunks.result.now
          (slice_get c.args.self.now.changelog.entries c.args.rev) (line_at c.args.self.now c.args.rev) c.span_in_file-span.result c.in_ok-part.part c.bytes_of.result.now (Ok c.in-Ok.line.items)
          (ap (λ (l : Log). option_map (span_in l.inline c.args.rev) (slice_get l.entries c.args.rev)) (sym (c.changelog.ensures ∙ ap (λ (v : View). v.changelog) c.self.view_is)) ∙ c.span_in_file-span.ensures) e.seen e.same_start c.chunks.ensures e.answer c.bytes_of.ensures c.in-Ok.ensures.line,
    )
