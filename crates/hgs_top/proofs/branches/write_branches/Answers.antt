use Rattle.std.proofs.Common.{◌∙◌, List, ℕ, ◌++◌, Ok, Err, OnOk, ap, refl, subst}
use Rattle.std.specs.Prelude.{IfErr}
use Rattle.hgs_files.specs.Streams.{IsWritten}
use Rattle.hgs_branch.specs.Text.{branches_text}
use Rattle.hgs_load.specs.Asks.{answer}
use Rattle.hgs_load.specs.Open.{open_asks}
use Rattle.hgs_load.specs.Theorems.AskLemmas.{grows-trans}
use Rattle.hgs_revlog.specs.Log.{nodes_of}
use Rattle.hgs_top.specs.Branches.{all_asks, branches_of_load}
use Rattle.hgs_top.specs.Run.{IsCut, IsUnwritten}
use Rattle.hgs_top.proofs.BranchLemmas.{heads_lost, heads_told, unread}
use Rattle.hgs_top.proofs.GivenLemmas.{only-behind, only-refused, refused-left}
use Rattle.hgs_top.proofs.LogLemmas.{unopened}
use Rattle.hgs_load.specs.Answer.{is_of_outside}
use Rattle.hgs_top.proofs.branches.write_branches.Goals as goal

pub returns-in-Err-clause-told : goal.returns-in-Err-clause-told
returns-in-Err-clause-told g c = λ alone. unopened branches_of_load (g.R.Reads.seen c.args.files.now) (g.R.Reads.seen c.open.new.files) (g.R.Reads.start c.args.files.now) c.in-Err.refusal (g.K.Sink.written c.args.out.now) (λ t. refl) (c.in-Err.ensures.still alone) c.in-Err.ensures.answer

pub returns-in-Err-take_all-clause-told : goal.returns-in-Err-take_all-clause-told
returns-in-Err-take_all-clause-told g c = λ alone. unread (g.R.Reads.seen c.args.files.now) (g.R.Reads.seen c.open.new.files) (g.R.Reads.start c.args.files.now) (g.R.Reads.start c.open.new.files) c.in-Ok.session (c.in-Ok.ensures.still alone) c.in-Ok.ensures.same_start c.in-Ok.ensures.answer c.take_all.new.branches c.in-Err-take_all.refusal (g.K.Sink.written c.args.out.now) (c.in-Err-take_all.ensures.taken alone)

pub returns-in-Ok-print-clause-told : goal.returns-in-Ok-print-clause-told
returns-in-Ok-print-clause-told g c = λ alone.
    let old = g.K.Sink.written c.args.out.now in
    let new = g.K.Sink.written c.write_last.new.out in
    let W : List ℕ → Type 0 = λ b. OnOk c.write_last.result (IsWritten old new b) in
    let F : List ℕ → Type 0 = λ b. IfErr c.write_last.result (λ s. IsUnwritten s × IsCut old new b) in
    let u : Unit {0} = tt in
    heads_told (g.R.Reads.seen c.args.files.now) (g.R.Reads.seen c.open.new.files) (g.R.Reads.start c.args.files.now) (g.R.Reads.start c.open.new.files) c.in-Ok.session (c.in-Ok.ensures.still alone) c.in-Ok.ensures.same_start c.in-Ok.ensures.answer c.take_all.new.branches u old new c.print.new.into.items c.write_last.result c.parents_of_views_stand_before.ensures.rest
    (λ before. c.in-Ok-print.ensures.ok before ∙ ap (λ l. l ++ branches_text c.take_all.new.branches.parents c.take_all.new.branches.names (nodes_of c.in-Ok.session.changelog.entries)) c.new-lines.ensures.items)
    (subst W c.deref.ensures.value c.write_last.ensures.ok) (subst F c.deref.ensures.value c.write_last.ensures.err) (c.in-Ok-take_all.ensures.taken alone)

pub returns-clause-told : goal.returns-clause-told
returns-clause-told g c = λ alone. heads_lost (g.R.Reads.seen c.args.files.now) (g.R.Reads.seen c.open.new.files) (g.R.Reads.start c.args.files.now) (g.R.Reads.start c.open.new.files) c.in-Ok.session (c.in-Ok.ensures.still alone) c.in-Ok.ensures.same_start c.in-Ok.ensures.answer (g.K.Sink.written c.args.out.now)

pub returns-in-Err-clause-given : goal.returns-in-Err-clause-given
returns-in-Err-clause-given g c = only-refused (g.R.Reads.given c.args.files.now) (g.R.Reads.given c.open.new.files) (g.R.Reads.seen c.args.files.now) (g.R.Reads.seen c.open.new.files) (g.R.Reads.start c.args.files.now) open_asks (all_asks c.args.steps) c.in-Err.refusal c.in-Err.ensures.given

pub returns-in-Err-take_all-clause-given : goal.returns-in-Err-take_all-clause-given
returns-in-Err-take_all-clause-given g c = only-behind (g.R.Reads.given c.args.files.now) (g.R.Reads.given c.open.new.files) (g.R.Reads.given c.take_all.new.files) (g.R.Reads.seen c.args.files.now) (g.R.Reads.seen c.open.new.files) (g.R.Reads.seen c.take_all.new.files) (g.R.Reads.start c.args.files.now) (g.R.Reads.start c.open.new.files) open_asks (all_asks c.args.steps) c.in-Ok.session c.in-Ok.ensures.same_start c.in-Ok.ensures.given (refused-left (is_of_outside c.in-Err-take_all.refusal) (g.R.Reads.given c.open.new.files) (g.R.Reads.given c.take_all.new.files) (g.R.Reads.seen c.open.new.files) (g.R.Reads.seen c.take_all.new.files) (g.R.Reads.start c.open.new.files) (all_asks c.args.steps c.in-Ok.session) c.in-Err-take_all.refusal c.in-Err-take_all.ensures.given)

pub returns-in-Ok-print-clause-given : goal.returns-in-Ok-print-clause-given
returns-in-Ok-print-clause-given g c = only-behind (g.R.Reads.given c.args.files.now) (g.R.Reads.given c.open.new.files) (g.R.Reads.given c.take_all.new.files) (g.R.Reads.seen c.args.files.now) (g.R.Reads.seen c.open.new.files) (g.R.Reads.seen c.take_all.new.files) (g.R.Reads.start c.args.files.now) (g.R.Reads.start c.open.new.files) open_asks (all_asks c.args.steps) c.in-Ok.session c.in-Ok.ensures.same_start c.in-Ok.ensures.given (answer (Ok tt), c.in-Ok-take_all.ensures.given)

pub returns-clause-given : goal.returns-clause-given
returns-clause-given g c = only-behind (g.R.Reads.given c.args.files.now) (g.R.Reads.given c.open.new.files) (g.R.Reads.given c.take_all.new.files) (g.R.Reads.seen c.args.files.now) (g.R.Reads.seen c.open.new.files) (g.R.Reads.seen c.take_all.new.files) (g.R.Reads.start c.args.files.now) (g.R.Reads.start c.open.new.files) open_asks (all_asks c.args.steps) c.in-Ok.session c.in-Ok.ensures.same_start c.in-Ok.ensures.given (answer (Ok tt), c.in-Ok-take_all.ensures.given)

pub returns-in-Err-take_all-clause-seen : goal.returns-in-Err-take_all-clause-seen
returns-in-Err-take_all-clause-seen g c = grows-trans (g.R.Reads.seen c.args.files.now) (g.R.Reads.seen c.open.new.files) (g.R.Reads.seen c.take_all.new.files) c.in-Ok.ensures.seen c.in-Err-take_all.ensures.seen

pub returns-in-Ok-print-clause-seen : goal.returns-in-Ok-print-clause-seen
returns-in-Ok-print-clause-seen g c = grows-trans (g.R.Reads.seen c.args.files.now) (g.R.Reads.seen c.open.new.files) (g.R.Reads.seen c.take_all.new.files) c.in-Ok.ensures.seen c.in-Ok-take_all.ensures.seen

pub returns-clause-seen : goal.returns-clause-seen
returns-clause-seen g c = grows-trans (g.R.Reads.seen c.args.files.now) (g.R.Reads.seen c.open.new.files) (g.R.Reads.seen c.take_all.new.files) c.in-Ok.ensures.seen c.in-Ok-take_all.ensures.seen
