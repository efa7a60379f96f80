use Rattle.std.proofs.Common.{◌≡◌, ◌∙◌}
use Rattle.hgs_steps.specs.Steps.{marked_at, step_of}
use Rattle.std.specs.Prelude.{Err}
use Rattle.hgs_steps.proofs.MarkedLemmas.{marked-refused, marked-step, node-found, refused-too}
use Rattle.hgs_steps.proofs.commands.marked_step.Goals as goal

pub returns-in-Ok-step_with-clause-step : goal.returns-in-Ok-step_with-clause-step
returns-in-Ok-step_with-clause-step c =
    let l = c.args.loaded.now in
    let node = node-found l.changelog.entries c.args.rev c.entry.result.now c.requires.stands c.entry.ensures in
    marked-step l c.args.name.now c.entry.result.now.node.0 c.args.rev c.in-Ok.file c.step_with.result node c.in-Ok.ensures c.step_with.ensures.step ∙ c.in-Ok-step_with.is

pub returns-in-Err-step_with-clause-step : goal.returns-in-Err-step_with-clause-step
returns-in-Err-step_with-clause-step c =
    let l = c.args.loaded.now in
    let node = node-found l.changelog.entries c.args.rev c.entry.result.now c.requires.stands c.entry.ensures in
    refused-too c.in-Err-step_with.fault (step_of l (marked_at l c.args.name.now c.args.rev) ≡ Err c.in-Err-step_with.fault)
    (marked-step l c.args.name.now c.entry.result.now.node.0 c.args.rev c.in-Ok.file c.step_with.result node c.in-Ok.ensures c.step_with.ensures.step ∙ c.in-Err-step_with.is)

pub returns-in-Err-clause-step : goal.returns-in-Err-clause-step
returns-in-Err-clause-step c =
    let l = c.args.loaded.now in
    let node = node-found l.changelog.entries c.args.rev c.entry.result.now c.requires.stands c.entry.ensures in
    marked-refused l c.args.name.now c.entry.result.now.node.0 c.args.rev c.in-Err.fault node c.in-Err.ensures
