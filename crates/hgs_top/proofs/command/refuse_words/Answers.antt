use Rattle.std.proofs.Common.{List, ℕ, ◌∙◌, subst}
use Rattle.hgs_top.specs.Run.{EndsLine, bad_word_line}
use Rattle.hgs_top.proofs.ConcludeLemmas.{no_memory}
use Rattle.hgs_top.proofs.command.refuse_words.Goals as goal

pub returns-in-Ok-clause-says : goal.returns-in-Ok-clause-says
returns-in-Ok-clause-says g c =
    let P : List ℕ → Type 0 = λ line. EndsLine line 28 c.end_with.result (g.K.Sink.written c.args.out.now) (g.K.Sink.written c.end_with.new.out) in
    subst P (c.deref.ensures.value ∙ c.in-Ok.ensures) c.end_with.ensures.line

pub returns-in-Err-clause-says : goal.returns-in-Err-clause-says
returns-in-Err-clause-says g c =
    no_memory (bad_word_line c.args.place) 28 c.end_with-in-Err.result (g.K.Sink.written c.args.out.now) (g.K.Sink.written c.end_with-in-Err.new.out) c.end_with-in-Err.ensures.line
