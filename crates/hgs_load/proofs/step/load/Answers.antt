use Rattle.std.proofs.Common.{Result}
use Rattle.hgs_load.specs.declared.answer.ReadAnswer.{ReadAnswer}
use Rattle.hgs_load.specs.Asks.{Asks}
use Rattle.hgs_load.specs.Beyond.{AnswersBeyond}
use Rattle.hgs_load.specs.Open.{open_asks}
use Rattle.hgs_load.specs.View.{View}
use Rattle.hgs_load.specs.Theorems.GivenLemmas.{takes-no-memory}
use Rattle.hgs_load.proofs.BeyondLemmas.{had_to_read}
use Rattle.hgs_load.proofs.step.load.Goals as goal

pub returns-in_err-machine-clause-given : goal.returns-in_err-machine-clause-given
returns-in_err-machine-clause-given g c =
    takes-no-memory (λ (loaded : View). loaded) (g.R.Reads.given c.args.files.now) (g.R.Reads.seen c.args.files.now) (g.R.Reads.start c.args.files.now) open_asks c.from_residual.result c.from_residual.ensures.0 c.from_residual.ensures.1

pub returns-clause-beyond : goal.returns-clause-beyond
returns-clause-beyond g c =
    let P : Asks (Result View ReadAnswer) → Type 0 = λ q. AnswersBeyond (λ (view : View). view) (g.R.Reads.ties c.args.files.now).told (g.R.Reads.seen c.args.files.now) (g.R.Reads.start c.args.files.now) (g.R.Reads.seen c.load_with.new.files) q c.load_with.result in
    had_to_read _ _ _ _ _ P c.in_ok-machine.ensures.asks c.load_with.ensures.beyond
