use Rattle.hgs_load.specs.Answer.{refusal_line, status_of}
use Rattle.hgs_top.proofs.ConcludeLemmas.{no_memory}
use Rattle.hgs_top.proofs.command.refuse.Goals as goal

pub returns-clause-line : goal.returns-clause-line
returns-clause-line g c =
    no_memory (refusal_line c.args.refusal.now) (status_of c.args.refusal.now) c.end_with-in-Err.result (g.K.Sink.written c.args.out.now) (g.K.Sink.written c.end_with-in-Err.new.out) c.end_with-in-Err.ensures.line
