use Rattle.std.proofs.Common.{◌++◌}
use Rattle.hgs_answers.specs.Answer.{leftover_text}
use Rattle.hgs_load.specs.Answer.{refusal_line, status_of}
use Rattle.hgs_top.proofs.ConcludeLemmas.{no_memory}
use Rattle.hgs_top.proofs.generate.tell_refusal.Goals as goal

pub returns-in-Err-clause-line : goal.returns-in-Err-clause-line
returns-in-Err-clause-line g c =
    no_memory (refusal_line c.args.refusal.now ++ leftover_text c.args.swept) (status_of c.args.refusal.now) c.end_with-in-Err.result (g.K.Sink.written c.args.out.now) (g.K.Sink.written c.end_with-in-Err.new.out) c.end_with-in-Err.ensures.line
