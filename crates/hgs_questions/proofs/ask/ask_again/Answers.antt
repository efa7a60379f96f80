use Rattle.std.proofs.Common.{ap, Some, Err}
use Rattle.hgs_load.specs.Theorems.AskLemmas.{grows-trans}
use Rattle.hgs_questions.proofs.TellLemmas.{asked-loaded, asked-refused}
use Rattle.hgs_questions.proofs.ask.ask_again.Goals as goal

pub returns-in-Err-clause-asked : goal.returns-in-Err-clause-asked
returns-in-Err-clause-asked g c =
    let e = c.in-Err.ensures in
    asked-refused (g.R.Reads.ties c.args.files.now).told (g.R.Reads.seen c.args.files.now) (g.R.Reads.seen c.refresh.new.files) (g.R.Reads.start c.args.files.now) (Some c.args.session.now) (Some c.refresh.new.self) c.args.question.now (g.R.Reads.faults c.args.files.now) (g.R.Reads.faults c.refresh.new.files) c.refuse.result c.new.result.items c.in-Err.refusal
    c.new.ensures.items e.beyond (λ f. e.cause.fault (ap (λ z. Err z) f)) (ap (λ v. Some v) e.answer.0) c.refuse.ensures.refuses

pub returns-in-Ok-clause-asked : goal.returns-in-Ok-clause-asked
returns-in-Ok-clause-asked g c =
    let e = c.in-Ok.ensures in
    let t = c.tell.ensures in
    asked-loaded (g.R.Reads.ties c.args.files.now).told (g.R.Reads.seen c.args.files.now) (g.R.Reads.seen c.refresh.new.files) (g.R.Reads.seen c.tell.new.files) (g.R.Reads.start c.args.files.now) (g.R.Reads.start c.refresh.new.files) (Some c.args.session.now) (Some c.tell.new.session) c.refresh.new.self c.args.question.now (g.R.Reads.faults c.args.files.now) (g.R.Reads.faults c.refresh.new.files) (g.R.Reads.faults c.tell.new.files) c.tell.result
    e.seen e.beyond t.seen e.same_start e.cause.later (ap (λ v. Some v) t.kept) t.told

pub returns-in-Ok-clause-seen : goal.returns-in-Ok-clause-seen
returns-in-Ok-clause-seen g c = grows-trans (g.R.Reads.seen c.args.files.now) (g.R.Reads.seen c.refresh.new.files) (g.R.Reads.seen c.tell.new.files) c.in-Ok.ensures.seen c.tell.ensures.seen
