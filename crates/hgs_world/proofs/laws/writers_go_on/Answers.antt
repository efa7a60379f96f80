use Rattle.hgs_world.specs.Below.{Going}
use Rattle.hgs_world.proofs.MomentLemmas.{comes_by_act, comes_by_run}
use Rattle.hgs_world.proofs.laws.writers_go_on.Goals as goal

pub returns : goal.returns
returns c =
    let e = c.machines_go_on.ensures in
    let g : Going = record { done = e.done; failed = e.failed; sized = e.sized } in
    record { acts = comes_by_act g; runs = comes_by_run g }
