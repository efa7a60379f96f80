use Rattle.std.proofs.Common.{List, ℕ, ◌∙◌, subst}
use Rattle.hgs_top.specs.Run.{EndsLine, bad_set_line}
use Rattle.hgs_top.proofs.ConcludeLemmas.{no_memory}
use Rattle.hgs_top.proofs.command.refuse_set.Goals as goal

pub returns-in-Ok-clause-line : goal.returns-in-Ok-clause-line
returns-in-Ok-clause-line g c =
    let P : List ℕ → Type 0 = λ line. EndsLine line 33 c.end_with.result (g.K.Sink.written c.args.out.now) (g.K.Sink.written c.end_with.new.out) in
    subst P (c.deref.ensures.value ∙ c.in-Ok.ensures) c.end_with.ensures.line

pub returns-in-Err-clause-line : goal.returns-in-Err-clause-line
returns-in-Err-clause-line g c =
    no_memory (bad_set_line c.args.place) 33 c.end_with-in-Err.result (g.K.Sink.written c.args.out.now) (g.K.Sink.written c.end_with-in-Err.new.out) c.end_with-in-Err.ensures.line
