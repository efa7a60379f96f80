use Rattle.std.proofs.Common.{refl, Ok, Err, subst}
use Rattle.hgs_bytes.specs.Bytes.{IsPrefixOf}
use Rattle.hgs_load.specs.Answer.{is_of_outside}
use Rattle.hgs_load.specs.Asks.{answer, MayAnswerWhereTold}
use Rattle.hgs_load.specs.Beyond.{MayAnswerBeyond}
use Rattle.hgs_load.specs.Given.{Gave, GaveRefused}
use Rattle.hgs_load.specs.Refresh.{refresh_asks, GivenFew}
use Rattle.hgs_load.specs.View.{View}
use Rattle.hgs_load.specs.Theorems.AskLemmas.{either}
use Rattle.hgs_reader.proofs.session.Session.refresh.Goals as goal

pub returns-in-Ok-clause-answer : goal.returns-in-Ok-clause-answer
returns-in-Ok-clause-answer g c =
    let P : View → Type 0 = λ old. MayAnswerWhereTold (g.R.Reads.seen c.args.files.now) (g.R.Reads.start c.args.files.now) (g.R.Reads.seen c.load_again.new.files) (refresh_asks old) (Ok c.in-Ok.loaded) in
    subst P c.self.view_is c.in-Ok.ensures.answer

pub returns-in-Err-clause-answer : goal.returns-in-Err-clause-answer
returns-in-Err-clause-answer g c =
    let P : View → Type 0 = λ old. MayAnswerWhereTold (g.R.Reads.seen c.args.files.now) (g.R.Reads.start c.args.files.now) (g.R.Reads.seen c.load_again.new.files) (refresh_asks old) (Err c.in-Err.refusal) in
    (refl, either (is_of_outside c.in-Err.refusal) _ _ (λ h. subst P c.self.view_is h) c.in-Err.ensures.answer)

pub returns-in-Ok-clause-given : goal.returns-in-Ok-clause-given
returns-in-Ok-clause-given g c =
    let P : View → Type 0 = λ old. Gave (g.R.Reads.given c.args.files.now) (g.R.Reads.given c.load_again.new.files) (g.R.Reads.seen c.args.files.now) (g.R.Reads.start c.args.files.now) (g.R.Reads.seen c.load_again.new.files) (refresh_asks old) (answer (Ok c.in-Ok.loaded)) in
    subst P c.self.view_is c.in-Ok.ensures.given

pub returns-in-Err-clause-given : goal.returns-in-Err-clause-given
returns-in-Err-clause-given g c =
    let P : View → Type 0 = λ old. GaveRefused (g.R.Reads.given c.args.files.now) (g.R.Reads.given c.load_again.new.files) (g.R.Reads.seen c.args.files.now) (g.R.Reads.start c.args.files.now) (g.R.Reads.seen c.load_again.new.files) (refresh_asks old) c.in-Err.refusal in
    subst P c.self.view_is c.in-Err.ensures.given

pub returns-in-Ok-clause-front : goal.returns-in-Ok-clause-front
returns-in-Ok-clause-front g c =
    let P : View → Type 0 = λ old. IsPrefixOf old.changelog.entries c.in-Ok.loaded.changelog.entries in
    subst P c.self.view_is c.in-Ok.ensures.front

pub returns-in-Ok-clause-few : goal.returns-in-Ok-clause-few
returns-in-Ok-clause-few g c =
    let P : View → Type 0 = λ old. GivenFew g.R.Reads.alone (g.R.Reads.given c.args.files.now) (g.R.Reads.given c.load_again.new.files) (g.R.Reads.seen c.args.files.now) (g.R.Reads.start c.args.files.now) old c.in-Ok.loaded in
    subst P c.self.view_is c.in-Ok.ensures.few

pub returns-in-Ok-clause-beyond : goal.returns-in-Ok-clause-beyond
returns-in-Ok-clause-beyond g c =
    let P : View → Type 0 = λ old. MayAnswerBeyond (g.R.Reads.ties c.args.files.now).told (g.R.Reads.seen c.args.files.now) (g.R.Reads.start c.args.files.now) (g.R.Reads.seen c.load_again.new.files) (refresh_asks old) (Ok c.in-Ok.loaded) in
    subst P c.self.view_is c.in-Ok.ensures.beyond

pub returns-in-Err-clause-beyond : goal.returns-in-Err-clause-beyond
returns-in-Err-clause-beyond g c =
    let P : View → Type 0 = λ old. MayAnswerBeyond (g.R.Reads.ties c.args.files.now).told (g.R.Reads.seen c.args.files.now) (g.R.Reads.start c.args.files.now) (g.R.Reads.seen c.load_again.new.files) (refresh_asks old) (Err c.in-Err.refusal) in
    either (is_of_outside c.in-Err.refusal) _ _ (λ h. subst P c.self.view_is h) c.in-Err.ensures.beyond
