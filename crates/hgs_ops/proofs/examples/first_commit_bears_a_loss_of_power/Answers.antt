use Rattle.hgs_ops.proofs.SampleLemmas.{bare-stands, first-calls}
use Rattle.hgs_ops.specs.Samples.{bare, first_call, first_repos}
use Rattle.hgs_ops.proofs.examples.first_commit_bears_a_loss_of_power.Goals as goal
use Rattle.std.specs.Prelude.{[], ◌∷◌}

pub returns : goal.returns
returns c = record { calls = first-calls; safe = λ who. c.transactions_bear_a_loss_of_power.ensures.calls first_repos bare (first_call who ∷ []) bare-stands (first-calls who) }
