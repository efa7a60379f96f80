use Rattle.std.proofs.Common.{slice_get, ap, sym, ◌∙◌}
use Rattle.std.specs.Option.{option_map}
use Rattle.hgs_changelog.specs.View.{view_change}
use Rattle.hgs_revlog.specs.Log.{Log}
use Rattle.hgs_revlog.specs.Text.{span_in}
use Rattle.hgs_reader.specs.Line.{change_at, change_asks}
use Rattle.hgs_load.specs.View.{View}
use Rattle.hgs_load.specs.Theorems.GivenLemmas.{takes-refused-read}
use Rattle.hgs_reader.proofs.ChunkLemmas.{changeset_answers, changeset_takes}
use Rattle.hgs_reader.proofs.session.Session.change.Goals as goal

pub returns-clause-answer : goal.returns-clause-answer
returns-clause-answer g c =
    let e = c.in_ok-part.ensures in
    changeset_answers c.args.self.now.changelog.inline c.args.rev (g.R.Reads.seen c.args.files.now) (g.R.Reads.seen c.read_part.new.files) (g.R.Reads.start c.args.files.now) (g.R.Reads.start c.read_part.new.files) c.chunks.result.now view_change
    (slice_get c.args.self.now.changelog.entries c.args.rev) (change_at c.args.self.now c.args.rev) c.span_in_file-span.result c.in_ok-part.part c.bytes_of.result.now c.change_from.result
    (ap (λ (l : Log). option_map (span_in l.inline c.args.rev) (slice_get l.entries c.args.rev)) (sym (c.changelog.ensures ∙ ap (λ (v : View). v.changelog) c.self.view_is)) ∙ c.span_in_file-span.ensures) e.seen e.same_start c.chunks.ensures e.answer c.bytes_of.ensures c.change_from.ensures.change

pub returns-clause-given : goal.returns-clause-given
returns-clause-given g c =
    let e = c.in_ok-part.ensures in
    changeset_takes c.args.self.now.changelog.inline c.args.rev (g.R.Reads.seen c.args.files.now) (g.R.Reads.seen c.read_part.new.files) (g.R.Reads.start c.args.files.now) (g.R.Reads.start c.read_part.new.files) c.chunks.result.now (g.R.Reads.given c.args.files.now) (g.R.Reads.given c.read_part.new.files) view_change
    (slice_get c.args.self.now.changelog.entries c.args.rev) (change_at c.args.self.now c.args.rev) c.span_in_file-span.result c.in_ok-part.part c.bytes_of.result.now c.change_from.result
    (ap (λ (l : Log). option_map (span_in l.inline c.args.rev) (slice_get l.entries c.args.rev)) (sym (c.changelog.ensures ∙ ap (λ (v : View). v.changelog) c.self.view_is)) ∙ c.span_in_file-span.ensures) e.seen e.same_start c.chunks.ensures e.answer c.bytes_of.ensures e.given e.short c.change_from.ensures.change

pub returns-in_err-part-clause-given : goal.returns-in_err-part-clause-given
returns-in_err-part-clause-given g c =
    let e = c.in_err-part.ensures in
    takes-refused-read view_change (g.R.Reads.given c.args.files.now) (g.R.Reads.given c.read_part.new.files) (g.R.Reads.seen c.args.files.now) (g.R.Reads.seen c.read_part.new.files) (g.R.Reads.start c.args.files.now) (change_asks c.args.self.now c.args.rev) c.from_residual.result c.in_err-part.field-0.0 c.from_residual.ensures.0 c.from_residual.ensures.1 e.answer e.given e.seen
