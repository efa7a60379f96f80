use Rattle.std.proofs.Common.{Option, Some, subst, sym}
use Rattle.hgs_load.specs.View.{View}
use Rattle.hgs_questions.specs.Asked.{Asked}
use Rattle.hgs_questions.proofs.ask.ask.Goals as goal

pub returns-in-Some-clause-asked : goal.returns-in-Some-clause-asked
returns-in-Some-clause-asked g c =
    let P : Option View → Type 0 = λ o. Asked (g.R.Reads.ties c.args.files.now).told (g.R.Reads.seen c.args.files.now) (g.R.Reads.start c.args.files.now) (g.R.Reads.seen c.ask_again.new.files) o (Some c.ask_again.new.session) c.args.question.now (g.R.Reads.faults c.args.files.now) (g.R.Reads.faults c.ask_again.new.files) c.ask_again.result in
    subst P (sym c.in-Some.is) c.ask_again.ensures.asked
