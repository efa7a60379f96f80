use Rattle.std.proofs.Common.{◌∙◌, slice_get, refl, ap, sym, inl}
use Rattle.hgs_reader.specs.Names.{named}
use Rattle.hgs_script.specs.declared.job.Question.TheVariants.{Phase}
use Rattle.hgs_load.specs.Asks.{answer}
use Rattle.hgs_questions.specs.Said.{phase_line, said}
use Rattle.hgs_questions.proofs.TellLemmas.{named-at-once, unnamed}
use Rattle.hgs_questions.proofs.tell.phase_told.Goals as goal

pub returns-in-Ok-clause-told : goal.returns-in-Ok-clause-told
returns-in-Ok-clause-told c =
    let v = c.args.session.now in
    named-at-once v (Phase c.args.name.now) (named v c.args.name.now) (λ rev. phase_line (slice_get v.phases rev)) c.in-Some.rev c.said.result refl
    (ap (named v) (sym c.as_slice.ensures) ∙ sym c.in-Some.ensures.named) (inl (c.said.ensures ∙ ap said c.in-Ok.ensures))

pub returns-in_default-clause-told : goal.returns-in_default-clause-told
returns-in_default-clause-told c =
    let v = c.args.session.now in
    unnamed v (Phase c.args.name.now) (named v c.args.name.now) (λ rev. answer (said (phase_line (slice_get v.phases rev)))) c.unknown.result refl
    (ap (named v) (sym c.as_slice.ensures) ∙ sym c.in_default.ensures.named) c.unknown.ensures.says
