use Rattle.std.proofs.Common.{◌∙◌, Err, refl, ap, sym}
use Rattle.hgs_reader.specs.Contents.{files_asks}
use Rattle.hgs_reader.specs.Names.{named}
use Rattle.hgs_script.specs.declared.job.Question.TheVariants.{Files}
use Rattle.hgs_questions.specs.Questions.{text_asks}
use Rattle.hgs_questions.proofs.TellLemmas.{named-added, named-refused, unnamed}
use Rattle.hgs_questions.proofs.tell.files_told.Goals as goal

pub returns-in-Ok-clause-told : goal.returns-in-Ok-clause-told
returns-in-Ok-clause-told g c =
    let v = c.args.session.now in
    named-added (g.R.Reads.seen c.args.files.now) (g.R.Reads.seen c.files.new.files) (g.R.Reads.start c.args.files.now) v (Files c.args.name.now) (g.R.Reads.faults c.args.files.now) (g.R.Reads.faults c.files.new.files) c.said.result
    (named v c.args.name.now) (files_asks v) c.in-Some.rev c.new-text.result.items c.files.new.into.items c.in-Ok.field-0 refl (ap (named v) (sym c.as_slice.ensures) ∙ sym c.in-Some.ensures.named) c.new-text.ensures.items c.in-Ok.ensures.answer c.said.ensures

pub returns-in-Err-clause-told : goal.returns-in-Err-clause-told
returns-in-Err-clause-told g c =
    let v = c.args.session.now in
    let e = c.in-Err.ensures in
    named-refused (g.R.Reads.seen c.args.files.now) (g.R.Reads.seen c.files.new.files) (g.R.Reads.start c.args.files.now) v (Files c.args.name.now) (g.R.Reads.faults c.args.files.now) (g.R.Reads.faults c.files.new.files) c.refuse.result
    (named v c.args.name.now) (files_asks v) c.in-Some.rev c.new-text.result.items c.files.new.into.items c.in-Err.refusal refl refl (ap (named v) (sym c.as_slice.ensures) ∙ sym c.in-Some.ensures.named) c.new-text.ensures.items e.seen e.answer (λ f. e.cause.fault (ap (λ z. Err z) f)) c.refuse.ensures.refuses

pub returns-in_default-clause-told : goal.returns-in_default-clause-told
returns-in_default-clause-told g c =
    let v = c.args.session.now in
    unnamed v (Files c.args.name.now) (named v c.args.name.now) (λ r. text_asks (files_asks v r)) c.unknown.result refl
    (ap (named v) (sym c.as_slice.ensures) ∙ sym c.in_default.ensures.named) c.unknown.ensures.says (g.R.Reads.seen c.args.files.now) (g.R.Reads.start c.args.files.now) (g.R.Reads.faults c.args.files.now)
