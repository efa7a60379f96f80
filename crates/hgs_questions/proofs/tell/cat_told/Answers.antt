use Rattle.std.proofs.Common.{◌∙◌, Err, refl, ap, sym}
use Rattle.hgs_reader.specs.Contents.{cat_asks}
use Rattle.hgs_reader.specs.Names.{named}
use Rattle.hgs_script.specs.declared.job.Question.TheVariants.{Cat}
use Rattle.hgs_questions.specs.Questions.{named_asks, text_asks}
use Rattle.hgs_questions.proofs.TellLemmas.{named-added, named-refused, unnamed}
use Rattle.hgs_questions.proofs.tell.cat_told.Goals as goal

pub returns-in-Ok-clause-told : goal.returns-in-Ok-clause-told
returns-in-Ok-clause-told g c =
    let v = c.args.session.now in
    named-added (g.R.Reads.seen c.args.files.now) (g.R.Reads.seen c.cat.new.files) (g.R.Reads.start c.args.files.now) v (Cat c.args.name.now c.args.path.now) (g.R.Reads.faults c.args.files.now) (g.R.Reads.faults c.cat.new.files) c.said.result
    (named v c.args.name.now) (λ r. cat_asks v r c.as_slice-2.result.now) c.in-Some.rev c.new-text.result.items c.cat.new.into.items c.in-Ok.field-0 (ap (λ p. named_asks (named v c.args.name.now) (λ r. text_asks (cat_asks v r p))) (sym c.as_slice-2.ensures)) (ap (named v) (sym c.as_slice.ensures) ∙ sym c.in-Some.ensures.named) c.new-text.ensures.items c.in-Ok.ensures.answer c.said.ensures

pub returns-in-Err-clause-told : goal.returns-in-Err-clause-told
returns-in-Err-clause-told g c =
    let v = c.args.session.now in
    let e = c.in-Err.ensures in
    named-refused (g.R.Reads.seen c.args.files.now) (g.R.Reads.seen c.cat.new.files) (g.R.Reads.start c.args.files.now) v (Cat c.args.name.now c.args.path.now) (g.R.Reads.faults c.args.files.now) (g.R.Reads.faults c.cat.new.files) c.refuse.result
    (named v c.args.name.now) (λ r. cat_asks v r c.as_slice-2.result.now) c.in-Some.rev c.new-text.result.items c.cat.new.into.items c.in-Err.refusal (ap (λ p. named_asks (named v c.args.name.now) (λ r. text_asks (cat_asks v r p))) (sym c.as_slice-2.ensures)) refl (ap (named v) (sym c.as_slice.ensures) ∙ sym c.in-Some.ensures.named) c.new-text.ensures.items e.seen e.answer (λ f. e.cause.fault (ap (λ z. Err z) f)) c.refuse.ensures.refuses

pub returns-in_default-clause-told : goal.returns-in_default-clause-told
returns-in_default-clause-told g c =
    let v = c.args.session.now in
    unnamed v (Cat c.args.name.now c.args.path.now) (named v c.args.name.now) (λ r. text_asks (cat_asks v r c.args.path.now)) c.unknown.result refl
    (ap (named v) (sym c.as_slice.ensures) ∙ sym c.in_default.ensures.named) c.unknown.ensures.says (g.R.Reads.seen c.args.files.now) (g.R.Reads.start c.args.files.now) (g.R.Reads.faults c.args.files.now)
