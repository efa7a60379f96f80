use Rattle.std.proofs.Common.{sym, subst}
use Rattle.std.specs.Prelude.{Result}
use Rattle.hgs_bytes.specs.Answer.{Gives}
use Rattle.hgs_steps.specs.declared.fault.PlanFault.{PlanFault}
use Rattle.hgs_steps.specs.declared.step.Step.{Step}
use Rattle.hgs_steps.specs.Fault.{is_memory}
use Rattle.hgs_steps.specs.Steps.{mark_of, mark_target, marked_at, planned}
use Rattle.hgs_steps.proofs.PlannedLemmas.{gives-refused, planned-found, planned-refused}
use Rattle.hgs_steps.proofs.commands.mark.Goals as goal

pub returns-in-Ok-clause-step : goal.returns-in-Ok-clause-step
returns-in-Ok-clause-step c =
    subst (λ (answer : Result Step PlanFault). Gives is_memory (λ (s : Step). s) c.marked_step.result answer)
    (planned-found c.args.loaded.now (mark_target c.args.loaded.now c.args.name.now c.args.rev.now) (marked_at c.args.loaded.now c.args.name.now) c.in-Ok.target (sym c.in-Ok.ensures.target)) c.marked_step.ensures.step

pub returns-in-Err-clause-step : goal.returns-in-Err-clause-step
returns-in-Err-clause-step c =
    gives-refused c.in-Err.fault (planned c.args.loaded.now (mark_of c.args.loaded.now c.args.name.now c.args.rev.now))
    (planned-refused c.args.loaded.now (mark_target c.args.loaded.now c.args.name.now c.args.rev.now) (marked_at c.args.loaded.now c.args.name.now) c.in-Err.fault (sym c.in-Err.ensures.target))
