use Rattle.std.proofs.Common.{List, Option, subst}
use Rattle.hgs_files.specs.declared.op.Op.{Op}
use Rattle.hgs_files.specs.Reads.{Rose}
use Rattle.hgs_top.specs.Run.{OfReply, IsReplied, Replied}
use Rattle.hgs_top.specs.Words.{question_of}
use Rattle.hgs_top.proofs.ConcludeLemmas.{replied}
use Rattle.hgs_top.proofs.ReplyLemmas.{of_each_reply}
use Rattle.hgs_top.proofs.command.run_command.Goals as goal

pub returns-clause-says : goal.returns-clause-says
returns-clause-says g c =
    let first = g.K.Sink.written c.args.out.now in
    let mid = g.K.Sink.written c.answer-ended.new.out in
    let last = g.K.Sink.written c.conclude.new.out in
    let start = g.F.Reads.start c.args.files.now in
    let Faulted = Rose (g.F.Reads.faults c.args.files.now) (g.F.Reads.faults c.answer-ended.new.files) in
    let question = question_of c.args.command in
    let P : Option (List Op) → Type 0 = λ log. OfReply question log start (λ reply. IsReplied reply first mid c.answer-ended.result) in
    of_each_reply question (g.F.Files.log c.args.files.now) start (λ reply. IsReplied reply first mid c.answer-ended.result) (λ reply. Replied Faulted reply c.conclude.result first last)
    (λ reply h. replied Faulted reply first mid last c.conclude.result c.answer-ended.result c.answer-ended.ensures.fault h c.conclude.ensures.concluded)
    (subst P (g.met.F.Files.latest c.args.files.now) (c.answer-ended.ensures.told g.met.F.Files.only_writer))
