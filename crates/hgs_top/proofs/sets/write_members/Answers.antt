use Rattle.std.proofs.Common.{List, ℕ, Ok, Err, subst}
use Rattle.hgs_files.specs.Streams.{IsWritten}
use Rattle.hgs_load.specs.Asks.{answer}
use Rattle.hgs_load.specs.Open.{open_asks}
use Rattle.hgs_members.specs.Story.{story_of}
use Rattle.hgs_members.specs.Text.{Prints}
use Rattle.hgs_members.specs.declared.answer.SetAnswer.{SetAnswer}
use Rattle.hgs_top.specs.Run.{IsCut, IsUnwritten}
use Rattle.hgs_top.proofs.GivenLemmas.{only-refused, only-first}
use Rattle.hgs_top.proofs.SetLemmas.{unopened_set, no_names, no_lines, lines_written, lines_cut}
use Rattle.hgs_top.proofs.sets.write_members.Goals as goal

pub returns-in-Err-clause-told : goal.returns-in-Err-clause-told
returns-in-Err-clause-told g c = λ alone. unopened_set (g.R.Reads.seen c.args.files.now) (g.R.Reads.seen c.open.new.files) (g.R.Reads.start c.args.files.now) c.args.set.now c.in-Err.refusal (g.K.Sink.written c.args.out.now) (c.in-Err.ensures.still alone) c.in-Err.ensures.answer

pub returns-in-Err-UnknownRevision-clause-told : goal.returns-in-Err-UnknownRevision-clause-told
returns-in-Err-UnknownRevision-clause-told g c = λ alone.
    let P : SetAnswer → Type 0 = λ e. Prints (story_of c.in-Ok.session) c.args.set.now (Err e) in
    no_names (g.R.Reads.seen c.args.files.now) (g.R.Reads.seen c.open.new.files) (g.R.Reads.start c.args.files.now) c.in-Ok.session c.args.set.now (c.in-Ok.ensures.still alone) c.in-Ok.ensures.answer (g.K.Sink.written c.args.out.now) (subst P c.in-Err-UnknownRevision.field-0-is c.in-Err-UnknownRevision.ensures)

pub returns-in-Err-Memory-clause-told : goal.returns-in-Err-Memory-clause-told
returns-in-Err-Memory-clause-told g c = λ alone. no_lines (g.R.Reads.seen c.args.files.now) (g.R.Reads.seen c.open.new.files) (g.R.Reads.start c.args.files.now) c.in-Ok.session c.args.set.now (c.in-Ok.ensures.still alone) c.in-Ok.ensures.answer (g.K.Sink.written c.args.out.now)

pub returns-in-Ok-write_last-clause-told : goal.returns-in-Ok-write_last-clause-told
returns-in-Ok-write_last-clause-told g c = λ alone.
    let W : List ℕ → Type 0 = λ b. IsWritten (g.K.Sink.written c.args.out.now) (g.K.Sink.written c.write_last.new.out) b in
    lines_written (g.R.Reads.seen c.args.files.now) (g.R.Reads.seen c.open.new.files) (g.R.Reads.start c.args.files.now) c.in-Ok.session c.args.set.now (c.in-Ok.ensures.still alone) c.in-Ok.ensures.answer c.in-Ok-text_of.text c.in-Ok-text_of.ensures.0 c.in-Ok-text_of.ensures.1 c.parents_of_views_stand_before.ensures.rest (g.K.Sink.written c.args.out.now) (g.K.Sink.written c.write_last.new.out) (subst W c.as_slice.ensures c.in-Ok-write_last.ensures.ok)

pub returns-clause-told : goal.returns-clause-told
returns-clause-told g c = λ alone.
    let s = c.in-Err-write_last.stopped in
    let F : List ℕ → Type 0 = λ b. IsUnwritten s × IsCut (g.K.Sink.written c.args.out.now) (g.K.Sink.written c.write_last.new.out) b in
    lines_cut (g.R.Reads.seen c.args.files.now) (g.R.Reads.seen c.open.new.files) (g.R.Reads.start c.args.files.now) c.in-Ok.session c.args.set.now (c.in-Ok.ensures.still alone) c.in-Ok.ensures.answer c.in-Ok-text_of.text c.in-Ok-text_of.ensures.0 c.in-Ok-text_of.ensures.1 c.parents_of_views_stand_before.ensures.rest (g.K.Sink.written c.args.out.now) (g.K.Sink.written c.write_last.new.out) s (subst F c.as_slice.ensures c.in-Err-write_last.ensures.err)

pub returns-in-Err-clause-given : goal.returns-in-Err-clause-given
returns-in-Err-clause-given g c = only-refused (g.R.Reads.given c.args.files.now) (g.R.Reads.given c.open.new.files) (g.R.Reads.seen c.args.files.now) (g.R.Reads.seen c.open.new.files) (g.R.Reads.start c.args.files.now) open_asks (λ view. answer (Ok tt)) c.in-Err.refusal c.in-Err.ensures.given

pub returns-in-Err-UnknownRevision-clause-given : goal.returns-in-Err-UnknownRevision-clause-given
returns-in-Err-UnknownRevision-clause-given g c = only-first (g.R.Reads.given c.args.files.now) (g.R.Reads.given c.open.new.files) (g.R.Reads.seen c.args.files.now) (g.R.Reads.seen c.open.new.files) (g.R.Reads.start c.args.files.now) open_asks (λ view. answer (Ok tt)) c.in-Ok.session c.in-Ok.ensures.given

pub returns-in-Err-Memory-clause-given : goal.returns-in-Err-Memory-clause-given
returns-in-Err-Memory-clause-given g c = only-first (g.R.Reads.given c.args.files.now) (g.R.Reads.given c.open.new.files) (g.R.Reads.seen c.args.files.now) (g.R.Reads.seen c.open.new.files) (g.R.Reads.start c.args.files.now) open_asks (λ view. answer (Ok tt)) c.in-Ok.session c.in-Ok.ensures.given

pub returns-in-Ok-write_last-clause-given : goal.returns-in-Ok-write_last-clause-given
returns-in-Ok-write_last-clause-given g c = only-first (g.R.Reads.given c.args.files.now) (g.R.Reads.given c.open.new.files) (g.R.Reads.seen c.args.files.now) (g.R.Reads.seen c.open.new.files) (g.R.Reads.start c.args.files.now) open_asks (λ view. answer (Ok tt)) c.in-Ok.session c.in-Ok.ensures.given

pub returns-clause-given : goal.returns-clause-given
returns-clause-given g c = only-first (g.R.Reads.given c.args.files.now) (g.R.Reads.given c.open.new.files) (g.R.Reads.seen c.args.files.now) (g.R.Reads.seen c.open.new.files) (g.R.Reads.start c.args.files.now) open_asks (λ view. answer (Ok tt)) c.in-Ok.session c.in-Ok.ensures.given
