use Rattle.hgs_causes.proofs.DoneLemmas.{Taken, ends-as, ends-well}
use Rattle.hgs_causes.proofs.laws.accepted_commands_are_done.Goals as goal

pub returns : goal.returns
returns c =
    let taken : Taken = record {
      clash = c.clashes_have_names.ensures;
      comes = c.calls_come_to_steps.ensures;
      held = c.calls_clean_up.ensures.held;
      leads = c.done_calls_lead_on.ensures;
    } in
    record { ends = ends-as taken; well = ends-well taken }
