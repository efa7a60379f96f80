use Rattle.std.proofs.Common.{◌++◌, sym, subst}
use Rattle.hgs_answers.specs.Answer.{leftover_text}
use Rattle.hgs_top.specs.Run.{EndsLine, memory_line}
use Rattle.hgs_top.proofs.generate.tell_memory.Goals as goal

pub returns-else-swept-clause-line : goal.returns-else-swept-clause-line
returns-else-swept-clause-line g c =
    subst (λ b. EndsLine (memory_line ++ leftover_text b) 30 c.end_with-else-swept.result (g.K.Sink.written c.args.out.now) (g.K.Sink.written c.end_with-else-swept.new.out)) (sym c.if-swept.false) c.end_with-else-swept.ensures.line
