use Rattle.std.proofs.Common.{List, ℕ, length, ◌++◌, Option, Some, None, Err, OnOk, refl, ◌∙◌, ap, subst, append_assoc}
use Rattle.std.specs.Prelude.{IfErr}
use Rattle.hgs_files.specs.Reads.{Grows}
use Rattle.hgs_files.specs.Streams.{IsWritten}
use Rattle.hgs_files.specs.declared.op.Op.{Op}
use Rattle.hgs_top.specs.declared.stopped.Stopped.{Stopped}
use Rattle.hgs_top.specs.declared.stopped.Stopped.TheVariants.{Unwritten}
use Rattle.hgs_top.specs.Outcome.{lines_of_view, log_of_view}
use Rattle.hgs_top.specs.Run.{OfTree, IsTold, IsCut, IsGathered, IsUnwritten, StopsAt}
use Rattle.hgs_load.specs.Open.{open_asks}
use Rattle.hgs_load.specs.View.{View}
use Rattle.hgs_top.specs.Windows.{lines_reads}
use Rattle.hgs_top.proofs.GivenLemmas.{only-refused, only-behind}
use Rattle.hgs_top.proofs.LogLemmas.{opened, unopened, last_told, before_told, of_each}
use Rattle.hgs_top.proofs.log.write_log.Goals as goal

pub returns-in-Err-clause-told : goal.returns-in-Err-clause-told
returns-in-Err-clause-told g c = λ alone.
    let e = c.in-Err.ensures in
    unopened log_of_view (g.R.Reads.seen c.args.files.now) (g.R.Reads.seen c.open.new.files) (g.R.Reads.start c.args.files.now) c.in-Err.refusal (g.K.Sink.written c.args.out.now) (λ t. refl) (e.still alone) e.answer

pub returns-in-Ok-gather_lines-clause-told : goal.returns-in-Ok-gather_lines-clause-told
returns-in-Ok-gather_lines-clause-told g c = λ alone.
    let e = c.in-Ok.ensures in
    let old = g.K.Sink.written c.args.out.now in
    let mid = g.K.Sink.written c.gather_lines.new.out in
    let new = g.K.Sink.written c.write_last.new.out in
    let all = c.gather_lines.new.gathered.items in
    let W : List ℕ → Type 0 = λ b. OnOk c.write_last.result (IsWritten mid new b) in
    let F : List ℕ → Type 0 = λ b. IfErr c.write_last.result (λ s. IsUnwritten s × IsCut mid new b) in
    opened (g.R.Reads.seen c.args.files.now) (g.R.Reads.seen c.open.new.files) (g.R.Reads.start c.args.files.now) (g.R.Reads.start c.open.new.files) c.in-Ok.session (λ o. IsTold o old new c.write_last.result) (e.still alone) e.same_start e.answer
    (of_each _ _ _ _ (λ t h. last_told (lines_of_view t c.in-Ok.session) old mid new all c.in-Ok-gather_lines.field-0 c.write_last.result h (subst W c.deref.ensures.value c.write_last.ensures.ok) (subst F c.deref.ensures.value c.write_last.ensures.err))
    (c.in-Ok-gather_lines.ensures.gathered alone))

pub returns-in-Err-Refused-clause-told : goal.returns-in-Err-Refused-clause-told
returns-in-Err-Refused-clause-told g c = λ alone.
    let e = c.in-Ok.ensures in
    let old = g.K.Sink.written c.args.out.now in
    let mid = g.K.Sink.written c.gather_lines.new.out in
    let new = g.K.Sink.written c.write_before.new.out in
    let all = c.gather_lines.new.gathered.items in
    let seen = g.R.Reads.seen c.open.new.files in
    let start = g.R.Reads.start c.open.new.files in
    let S : List ℕ → Type 0 = λ b. IfErr c.write_before.result (λ s. StopsAt s c.in-Err-Refused.refusal mid new b) in
    let G : Stopped → Type 0 = λ s. OfTree seen start (λ t. IsGathered (lines_of_view t c.in-Ok.session) old mid all (Err s)) in
    opened (g.R.Reads.seen c.args.files.now) seen (g.R.Reads.start c.args.files.now) start c.in-Ok.session (λ o. IsTold o old new c.write_before.result) (e.still alone) e.same_start e.answer
    (of_each _ _ _ _ (λ t h. before_told (lines_of_view t c.in-Ok.session) old mid new all c.in-Err-Refused.refusal c.write_before.result h (subst S c.deref-in-Err-Refused.ensures.value c.write_before.ensures.stopped) c.write_before.ensures.never)
    (subst G c.in-Err-Refused.field-0-is (c.in-Err-Refused.ensures.gathered alone)))

pub returns-clause-told : goal.returns-clause-told
returns-clause-told g c = λ alone.
    let e = c.in-Ok.ensures in
    let old = g.K.Sink.written c.args.out.now in
    let mid = g.K.Sink.written c.gather_lines.new.out in
    let all = c.gather_lines.new.gathered.items in
    let seen = g.R.Reads.seen c.open.new.files in
    let start = g.R.Reads.start c.open.new.files in
    let G : Stopped → Type 0 = λ s. OfTree seen start (λ t. IsGathered (lines_of_view t c.in-Ok.session) old mid all (Err s)) in
    opened (g.R.Reads.seen c.args.files.now) seen (g.R.Reads.start c.args.files.now) start c.in-Ok.session (λ o. IsTold o old mid (Err (Unwritten c.in-Err-Unwritten.fault))) (e.still alone) e.same_start e.answer
    (subst G c.in-Err-Unwritten.field-0-is (c.in-Err-Unwritten.ensures.gathered alone))

-- what goes on from what went on
grows_on : (a b c : Option (List Op)) → Grows a b → Grows b c → Grows a c
grows_on None b c f g = subst (λ o. Grows o c) f g
grows_on (Some x) b c f g =
    let h = subst (λ o. Grows o c) f.1 g in
    (f.0 ++ h.0, h.1 ∙ ap (λ l. Some l) (append_assoc x f.0 h.0))

pub returns-in-Ok-gather_lines-clause-seen : goal.returns-in-Ok-gather_lines-clause-seen
returns-in-Ok-gather_lines-clause-seen g c = grows_on (g.R.Reads.seen c.args.files.now) (g.R.Reads.seen c.open.new.files) (g.R.Reads.seen c.gather_lines.new.files) c.in-Ok.ensures.seen c.in-Ok-gather_lines.ensures.seen

pub returns-in-Ok-gather_lines-clause-still : goal.returns-in-Ok-gather_lines-clause-still
returns-in-Ok-gather_lines-clause-still g c = λ alone. c.in-Ok-gather_lines.ensures.still alone ∙ c.in-Ok.ensures.still alone

pub returns-in-Err-clause-given : goal.returns-in-Err-clause-given
returns-in-Err-clause-given g c = only-refused (g.R.Reads.given c.args.files.now) (g.R.Reads.given c.open.new.files) (g.R.Reads.seen c.args.files.now) (g.R.Reads.seen c.open.new.files) (g.R.Reads.start c.args.files.now) open_asks (λ (view : View). lines_reads view (length view.changelog.entries)) c.in-Err.refusal c.in-Err.ensures.given

pub returns-in-Ok-gather_lines-clause-given : goal.returns-in-Ok-gather_lines-clause-given
returns-in-Ok-gather_lines-clause-given g c = only-behind (g.R.Reads.given c.args.files.now) (g.R.Reads.given c.open.new.files) (g.R.Reads.given c.gather_lines.new.files) (g.R.Reads.seen c.args.files.now) (g.R.Reads.seen c.open.new.files) (g.R.Reads.seen c.gather_lines.new.files) (g.R.Reads.start c.args.files.now) (g.R.Reads.start c.open.new.files) open_asks (λ (view : View). lines_reads view (length view.changelog.entries)) c.in-Ok.session c.in-Ok.ensures.same_start c.in-Ok.ensures.given c.gather_lines.ensures.given

pub returns-in-Err-Refused-clause-given : goal.returns-in-Err-Refused-clause-given
returns-in-Err-Refused-clause-given g c = only-behind (g.R.Reads.given c.args.files.now) (g.R.Reads.given c.open.new.files) (g.R.Reads.given c.gather_lines.new.files) (g.R.Reads.seen c.args.files.now) (g.R.Reads.seen c.open.new.files) (g.R.Reads.seen c.gather_lines.new.files) (g.R.Reads.start c.args.files.now) (g.R.Reads.start c.open.new.files) open_asks (λ (view : View). lines_reads view (length view.changelog.entries)) c.in-Ok.session c.in-Ok.ensures.same_start c.in-Ok.ensures.given c.gather_lines.ensures.given

pub returns-clause-given : goal.returns-clause-given
returns-clause-given g c = only-behind (g.R.Reads.given c.args.files.now) (g.R.Reads.given c.open.new.files) (g.R.Reads.given c.gather_lines.new.files) (g.R.Reads.seen c.args.files.now) (g.R.Reads.seen c.open.new.files) (g.R.Reads.seen c.gather_lines.new.files) (g.R.Reads.start c.args.files.now) (g.R.Reads.start c.open.new.files) open_asks (λ (view : View). lines_reads view (length view.changelog.entries)) c.in-Ok.session c.in-Ok.ensures.same_start c.in-Ok.ensures.given c.gather_lines.ensures.given

pub returns-in-Err-Refused-clause-seen : goal.returns-in-Err-Refused-clause-seen
returns-in-Err-Refused-clause-seen g c = grows_on (g.R.Reads.seen c.args.files.now) (g.R.Reads.seen c.open.new.files) (g.R.Reads.seen c.gather_lines.new.files) c.in-Ok.ensures.seen c.gather_lines.ensures.seen

pub returns-clause-seen : goal.returns-clause-seen
returns-clause-seen g c = grows_on (g.R.Reads.seen c.args.files.now) (g.R.Reads.seen c.open.new.files) (g.R.Reads.seen c.gather_lines.new.files) c.in-Ok.ensures.seen c.gather_lines.ensures.seen
