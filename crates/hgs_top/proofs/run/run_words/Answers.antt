use Rattle.std.proofs.Common.{ℕ, Result, Ok, sym, ◌∙◌, ap, subst}
use Rattle.hgs_files.specs.Reads.{Rose}
use Rattle.hgs_top.specs.Given.{ReadsAsked}
use Rattle.hgs_top.specs.Repository.{SaysOfRepository}
use Rattle.hgs_top.specs.Words.{Request, to_answer, question_of, request_of}
use Rattle.hgs_top.proofs.RepositoryLemmas.{says-of}
use Rattle.hgs_top.proofs.run.run_words.Goals as goal

pub returns-in-Ok-Question-clause-repository : goal.returns-in-Ok-Question-clause-repository
returns-in-Ok-Question-clause-repository g c =
    let Faulted = Rose (g.F.Reads.faults c.args.files.now) (g.F.Reads.faults c.run_command.new.files) in
    let log = g.F.Files.log c.args.files.now in
    let start = g.F.Reads.start c.args.files.now in
    let old = g.K.Sink.written c.args.out.now in
    let new = g.K.Sink.written c.run_command.new.out in
    let P : Result Request ℕ → Type 0 = λ q. SaysOfRepository Faulted q log start c.run_command.result old new in
    subst P (ap (λ asked. Ok (request_of asked)) (sym c.in-Ok-Question.field-0-is) ∙ c.in-Ok-Question.ensures.asked)
    (says-of c.replies_of_repository.ensures Faulted (Ok (to_answer (question_of c.in-Ok-Question.command))) log start c.run_command.result old new c.run_command.ensures.says)

pub returns-in-Ok-Question-clause-given : goal.returns-in-Ok-Question-clause-given
returns-in-Ok-Question-clause-given g c =
    let P : Result Request ℕ → Type 0 = λ q. ReadsAsked q (g.F.Reads.given c.args.files.now) (g.F.Reads.given c.run_command.new.files) (g.F.Reads.seen c.args.files.now) (g.F.Reads.start c.args.files.now) (g.F.Reads.seen c.run_command.new.files) in
    subst P (ap (λ asked. Ok (request_of asked)) (sym c.in-Ok-Question.field-0-is) ∙ c.in-Ok-Question.ensures.asked) c.run_command.ensures.given

pub returns-in-Ok-Generate-clause-failed : goal.returns-in-Ok-Generate-clause-failed
returns-in-Ok-Generate-clause-failed g c = c.run_generate.ensures.no_input _ _
