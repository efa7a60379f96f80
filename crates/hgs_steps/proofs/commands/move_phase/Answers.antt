use Rattle.std.proofs.Common.{sym, subst}
use Rattle.std.specs.Prelude.{Result}
use Rattle.hgs_bytes.specs.Answer.{Gives}
use Rattle.hgs_steps.specs.declared.fault.PlanFault.{PlanFault}
use Rattle.hgs_steps.specs.declared.step.Step.{Step}
use Rattle.hgs_steps.specs.Fault.{is_memory}
use Rattle.hgs_steps.specs.Steps.{move_of, move_target, moved_at, planned}
use Rattle.hgs_steps.proofs.PlannedLemmas.{gives-refused, planned-found, planned-refused}
use Rattle.hgs_steps.proofs.commands.move_phase.Goals as goal

pub returns-in-Ok-clause-step : goal.returns-in-Ok-clause-step
returns-in-Ok-clause-step c =
    subst (λ (answer : Result Step PlanFault). Gives is_memory (λ (s : Step). s) c.moved_step.result answer)
    (planned-found c.args.loaded.now (move_target c.args.loaded.now c.args.name.now c.args.to c.args.force) (moved_at c.args.loaded.now c.args.to) c.in-Ok.rev (sym c.in-Ok.ensures.target)) c.moved_step.ensures.step

pub returns-in-Err-clause-step : goal.returns-in-Err-clause-step
returns-in-Err-clause-step c =
    gives-refused c.in-Err.fault (planned c.args.loaded.now (move_of c.args.loaded.now c.args.name.now c.args.to c.args.force))
    (planned-refused c.args.loaded.now (move_target c.args.loaded.now c.args.name.now c.args.to c.args.force) (moved_at c.args.loaded.now c.args.to) c.in-Err.fault (sym c.in-Err.ensures.target))
