use Rattle.std.proofs.Common.{inl, subst}
use Rattle.hgs_files.specs.Tree.{after_all}
use Rattle.hgs_model.specs.Step.{step}
use Rattle.hgs_writer.specs.Alone.{IsAnswered}
use Rattle.hgs_writer.proofs.AloneLemmas.{done-as}
use Rattle.hgs_writer.proofs.laws.done_calls_lead_on.Goals as goal

pub returns : goal.returns
returns c = λ t r command who answer done rev node clean valid lists w is.
    let said = subst (λ o. IsAnswered r (step r command) o (after_all done t)) is (c.calls_leave_what_they_answer.ensures.answered t r command who answer done clean.stands valid lists w) in
    let d = done-as r (step r command) rev node (after_all done t) said in
    (d.0, d.1, d.2, d.3, d.4, c.calls_leave_what_they_answer.ensures.lists t r command who answer done clean.stands valid lists w d.0.0 (inl d.4), λ swept. record { stands = d.4; no_locks = c.calls_clean_up.ensures.swept t command who answer done clean.no_locks w swept })
