use Rattle.std.proofs.Common.{List, ℕ, subst}
use Rattle.hgs_files.specs.Streams.{IsWritten}
use Rattle.hgs_load.specs.Open.{open_asks}
use Rattle.hgs_reader.specs.Names.{named}
use Rattle.hgs_top.specs.Given.{reads_of_rev}
use Rattle.hgs_top.specs.Outcome.{subject_of}
use Rattle.hgs_top.specs.Run.{IsCut, IsUnwritten}
use Rattle.hgs_top.proofs.ContentsLemmas.{unopened_reply, no_name, refused_contents, written_contents, cut_contents}
use Rattle.hgs_top.proofs.GivenLemmas.{only-refused, only-first, contents-only}
use Rattle.hgs_top.proofs.contents.write_contents.Goals as goal

pub returns-in-Err-clause-told : goal.returns-in-Err-clause-told
returns-in-Err-clause-told g c = λ alone.
    let e = c.in-Err.ensures in
    unopened_reply (g.R.Reads.seen c.args.files.now) (g.R.Reads.seen c.open.new.files) (g.R.Reads.start c.args.files.now) c.args.name.now (subject_of c.args.about) c.in-Err.refusal (g.K.Sink.written c.args.out.now) (e.still alone) e.answer

pub returns-in-None-clause-told : goal.returns-in-None-clause-told
returns-in-None-clause-told g c = λ alone.
    let e = c.in-Ok.ensures in
    no_name (g.R.Reads.seen c.args.files.now) (g.R.Reads.seen c.open.new.files) (g.R.Reads.seen c.open.new.files) (g.R.Reads.start c.args.files.now) (g.R.Reads.start c.open.new.files) c.in-Ok.session c.args.name.now (subject_of c.args.about)
    (e.still alone) e.same_start e.answer (g.K.Sink.written c.args.out.now) c.in-None.ensures.named

pub returns-in-Err-add_contents-clause-told : goal.returns-in-Err-add_contents-clause-told
returns-in-Err-add_contents-clause-told g c = λ alone.
    let e = c.in-Ok.ensures in
    refused_contents (g.R.Reads.seen c.args.files.now) (g.R.Reads.seen c.open.new.files) (g.R.Reads.seen c.add_contents.new.files) (g.R.Reads.start c.args.files.now) (g.R.Reads.start c.open.new.files) c.in-Ok.session c.args.name.now (subject_of c.args.about)
    (e.still alone) e.same_start e.answer c.in-Some.rev c.in-Some.ensures.named c.new-text.result.items c.add_contents.new.into.items (c.in-Err-add_contents.ensures.still alone) c.in-Err-add_contents.refusal (g.K.Sink.written c.args.out.now) c.in-Err-add_contents.ensures.answer

pub returns-in-Ok-write_last-clause-told : goal.returns-in-Ok-write_last-clause-told
returns-in-Ok-write_last-clause-told g c = λ alone.
    let e = c.in-Ok.ensures in
    let a = c.in-Ok-add_contents.ensures in
    let W : List ℕ → Type 0 = λ b. IsWritten (g.K.Sink.written c.args.out.now) (g.K.Sink.written c.write_last.new.out) b in
    written_contents (g.R.Reads.seen c.args.files.now) (g.R.Reads.seen c.open.new.files) (g.R.Reads.seen c.add_contents.new.files) (g.R.Reads.start c.args.files.now) (g.R.Reads.start c.open.new.files) c.in-Ok.session c.args.name.now (subject_of c.args.about)
    (e.still alone) e.same_start e.answer c.in-Some.rev c.in-Some.ensures.named c.new-text.result.items c.add_contents.new.into.items (a.still alone) c.in-Ok-add_contents.field-0 (g.K.Sink.written c.args.out.now) (g.K.Sink.written c.write_last.new.out)
    a.answer c.new-text.ensures.items (subst W c.deref.ensures.value c.in-Ok-write_last.ensures.ok)

pub returns-clause-told : goal.returns-clause-told
returns-clause-told g c = λ alone.
    let e = c.in-Ok.ensures in
    let a = c.in-Ok-add_contents.ensures in
    let s = c.in-Err-write_last.stopped in
    let F : List ℕ → Type 0 = λ b. IsUnwritten s × IsCut (g.K.Sink.written c.args.out.now) (g.K.Sink.written c.write_last.new.out) b in
    cut_contents (g.R.Reads.seen c.args.files.now) (g.R.Reads.seen c.open.new.files) (g.R.Reads.seen c.add_contents.new.files) (g.R.Reads.start c.args.files.now) (g.R.Reads.start c.open.new.files) c.in-Ok.session c.args.name.now (subject_of c.args.about)
    (e.still alone) e.same_start e.answer c.in-Some.rev c.in-Some.ensures.named c.new-text.result.items c.add_contents.new.into.items (a.still alone) c.in-Ok-add_contents.field-0 (g.K.Sink.written c.args.out.now) (g.K.Sink.written c.write_last.new.out)
    a.answer c.new-text.ensures.items s (subst F c.deref.ensures.value c.in-Err-write_last.ensures.err)

pub returns-in-Err-clause-given : goal.returns-in-Err-clause-given
returns-in-Err-clause-given g c = only-refused (g.R.Reads.given c.args.files.now) (g.R.Reads.given c.open.new.files) (g.R.Reads.seen c.args.files.now) (g.R.Reads.seen c.open.new.files) (g.R.Reads.start c.args.files.now) open_asks (λ view. reads_of_rev view (subject_of c.args.about) (named view c.args.name.now)) c.in-Err.refusal c.in-Err.ensures.given

pub returns-in-None-clause-given : goal.returns-in-None-clause-given
returns-in-None-clause-given g c = only-first (g.R.Reads.given c.args.files.now) (g.R.Reads.given c.open.new.files) (g.R.Reads.seen c.args.files.now) (g.R.Reads.seen c.open.new.files) (g.R.Reads.start c.args.files.now) open_asks (λ view. reads_of_rev view (subject_of c.args.about) (named view c.args.name.now)) c.in-Ok.session c.in-Ok.ensures.given

pub returns-in-Err-add_contents-clause-given : goal.returns-in-Err-add_contents-clause-given
returns-in-Err-add_contents-clause-given g c =
    let e = c.in-Ok.ensures in
    contents-only (g.R.Reads.given c.args.files.now) (g.R.Reads.given c.open.new.files) (g.R.Reads.given c.add_contents.new.files) (g.R.Reads.seen c.args.files.now) (g.R.Reads.seen c.open.new.files) (g.R.Reads.seen c.add_contents.new.files) (g.R.Reads.start c.args.files.now) (g.R.Reads.start c.open.new.files) c.in-Ok.session c.args.name.now (subject_of c.args.about) c.in-Some.rev c.new-text.result.items c.add_contents.new.into.items c.add_contents.result e.same_start e.given c.in-Some.ensures.named c.add_contents.ensures.given

pub returns-in-Ok-write_last-clause-given : goal.returns-in-Ok-write_last-clause-given
returns-in-Ok-write_last-clause-given g c =
    let e = c.in-Ok.ensures in
    contents-only (g.R.Reads.given c.args.files.now) (g.R.Reads.given c.open.new.files) (g.R.Reads.given c.add_contents.new.files) (g.R.Reads.seen c.args.files.now) (g.R.Reads.seen c.open.new.files) (g.R.Reads.seen c.add_contents.new.files) (g.R.Reads.start c.args.files.now) (g.R.Reads.start c.open.new.files) c.in-Ok.session c.args.name.now (subject_of c.args.about) c.in-Some.rev c.new-text.result.items c.add_contents.new.into.items c.add_contents.result e.same_start e.given c.in-Some.ensures.named c.add_contents.ensures.given

pub returns-clause-given : goal.returns-clause-given
returns-clause-given g c =
    let e = c.in-Ok.ensures in
    contents-only (g.R.Reads.given c.args.files.now) (g.R.Reads.given c.open.new.files) (g.R.Reads.given c.add_contents.new.files) (g.R.Reads.seen c.args.files.now) (g.R.Reads.seen c.open.new.files) (g.R.Reads.seen c.add_contents.new.files) (g.R.Reads.start c.args.files.now) (g.R.Reads.start c.open.new.files) c.in-Ok.session c.args.name.now (subject_of c.args.about) c.in-Some.rev c.new-text.result.items c.add_contents.new.into.items c.add_contents.result e.same_start e.given c.in-Some.ensures.named c.add_contents.ensures.given
