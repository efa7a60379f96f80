use Rattle.std.proofs.Common.{Result, subst}
use Rattle.hgs_load.specs.declared.answer.ReadAnswer.{ReadAnswer}
use Rattle.hgs_load.specs.Asks.{Asks, Answers}
use Rattle.hgs_load.specs.Beyond.{AnswersBeyond}
use Rattle.hgs_load.specs.Given.{Takes}
use Rattle.hgs_load.specs.Refresh.{refresh_asks}
use Rattle.hgs_load.specs.View.{View}
use Rattle.hgs_load.specs.Theorems.GivenLemmas.{takes-no-memory}
use Rattle.hgs_load.proofs.BeyondLemmas.{had_to_read}
use Rattle.hgs_load.proofs.BoundLemmas.{few-takes}
use Rattle.hgs_load.proofs.WayLemmas.{refreshed-takes}
use Rattle.hgs_load.proofs.step.load_again.Goals as goal

pub returns-in_err-machine-clause-given : goal.returns-in_err-machine-clause-given
returns-in_err-machine-clause-given g c =
    takes-no-memory (λ (loaded : View). loaded) (g.R.Reads.given c.args.files.now) (g.R.Reads.seen c.args.files.now) (g.R.Reads.start c.args.files.now) (refresh_asks c.args.old.now) c.from_residual.result c.from_residual.ensures.0 c.from_residual.ensures.1

pub returns-clause-front : goal.returns-clause-front
returns-clause-front g c =
    let P : Asks (Result View ReadAnswer) → Type 0 = λ q. Takes (λ (view : View). view) (g.R.Reads.given c.args.files.now) (g.R.Reads.given c.load_with.new.files) (g.R.Reads.seen c.args.files.now) (g.R.Reads.start c.args.files.now) (g.R.Reads.seen c.load_with.new.files) q c.load_with.result in
    refreshed-takes (g.R.Reads.given c.args.files.now) (g.R.Reads.given c.load_with.new.files) (g.R.Reads.start c.args.files.now) (g.R.Reads.seen c.args.files.now) (g.R.Reads.seen c.load_with.new.files) c.args.old.now c.load_with.result (subst P c.in_ok-machine.ensures.asks c.load_with.ensures.given)

pub returns-clause-few : goal.returns-clause-few
returns-clause-few g c =
    let P : Asks (Result View ReadAnswer) → Type 0 = λ q. Takes (λ (view : View). view) (g.R.Reads.given c.args.files.now) (g.R.Reads.given c.load_with.new.files) (g.R.Reads.seen c.args.files.now) (g.R.Reads.start c.args.files.now) (g.R.Reads.seen c.load_with.new.files) q c.load_with.result in
    few-takes (g.R.Reads.given c.args.files.now) (g.R.Reads.given c.load_with.new.files) g.R.Reads.alone (g.R.Reads.start c.args.files.now) (g.R.Reads.seen c.args.files.now) (g.R.Reads.seen c.load_with.new.files) c.args.old.now c.load_with.result c.load_with.ensures.still (subst P c.in_ok-machine.ensures.asks c.load_with.ensures.given)

pub returns-clause-answer : goal.returns-clause-answer
returns-clause-answer g c =
    let P : Asks (Result View ReadAnswer) → Type 0 = λ q. Answers (λ (view : View). view) (g.R.Reads.seen c.args.files.now) (g.R.Reads.start c.args.files.now) (g.R.Reads.seen c.load_with.new.files) q c.load_with.result in
    subst P c.in_ok-machine.ensures.asks c.load_with.ensures.answer

pub returns-clause-beyond : goal.returns-clause-beyond
returns-clause-beyond g c =
    let P : Asks (Result View ReadAnswer) → Type 0 = λ q. AnswersBeyond (λ (view : View). view) (g.R.Reads.ties c.args.files.now).told (g.R.Reads.seen c.args.files.now) (g.R.Reads.start c.args.files.now) (g.R.Reads.seen c.load_with.new.files) q c.load_with.result in
    had_to_read _ _ _ _ _ P c.in_ok-machine.ensures.asks c.load_with.ensures.beyond
