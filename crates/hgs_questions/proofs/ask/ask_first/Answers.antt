use Rattle.std.proofs.Common.{refl, ap, sym, subst, Option, Some, Ok, Err}
use Rattle.std.specs.Prelude.{⊤}
use Rattle.std.specs.Bool.{MatchBool}
use Rattle.hgs_load.specs.Answer.{is_of_outside}
use Rattle.hgs_load.specs.Beyond.{MayAnswerBeyond}
use Rattle.hgs_load.specs.Theorems.AskLemmas.{grows-trans}
use Rattle.hgs_load.specs.View.{View}
use Rattle.hgs_questions.specs.Questions.{load_asks}
use Rattle.hgs_questions.proofs.TellLemmas.{asked-loaded, asked-refused}
use Rattle.hgs_questions.proofs.ask.ask_first.Goals as goal

pub returns-in-Err-clause-asked : goal.returns-in-Err-clause-asked
returns-in-Err-clause-asked g c =
    let e = c.in-Err.ensures in
    let told = (g.R.Reads.ties c.args.files.now).told in
    let before = g.R.Reads.seen c.args.files.now in
    let after = g.R.Reads.seen c.«open».new.files in
    let start = g.R.Reads.start c.args.files.now in
    let P : Option View → Type 0 = λ o. MatchBool (is_of_outside c.in-Err.refusal) ⊤ (MayAnswerBeyond told before start after (load_asks o) (Err c.in-Err.refusal)) in
    asked-refused told before after start c.args.session.now c.args.session.now c.args.question.now (g.R.Reads.faults c.args.files.now) (g.R.Reads.faults c.«open».new.files) c.refuse.result c.new.result.items c.in-Err.refusal c.new.ensures.items (subst P (sym c.requires) e.beyond) (λ f. e.cause.fault (ap (λ z. Err z) f)) refl c.refuse.ensures.refuses

pub returns-clause-asked : goal.returns-clause-asked
returns-clause-asked g c =
    let e = c.in-Ok.ensures in
    let t = c.tell-answered.ensures in
    let told = (g.R.Reads.ties c.args.files.now).told in
    let before = g.R.Reads.seen c.args.files.now in
    let mid = g.R.Reads.seen c.«open».new.files in
    let start = g.R.Reads.start c.args.files.now in
    let P : Option View → Type 0 = λ o. MayAnswerBeyond told before start mid (load_asks o) (Ok c.in-Ok.opened) in
    asked-loaded told before mid (g.R.Reads.seen c.tell-answered.new.files) start (g.R.Reads.start c.«open».new.files) c.args.session.now (Some c.tell-answered.new.session) c.in-Ok.opened c.args.question.now (g.R.Reads.faults c.args.files.now) (g.R.Reads.faults c.«open».new.files) (g.R.Reads.faults c.tell-answered.new.files) c.tell-answered.result
    e.seen (subst P (sym c.requires) e.beyond) t.seen e.same_start e.cause.later (ap (λ v. Some v) t.kept) t.told

pub returns-clause-seen : goal.returns-clause-seen
returns-clause-seen g c = grows-trans (g.R.Reads.seen c.args.files.now) (g.R.Reads.seen c.«open».new.files) (g.R.Reads.seen c.tell-answered.new.files) c.in-Ok.ensures.seen c.tell-answered.ensures.seen
