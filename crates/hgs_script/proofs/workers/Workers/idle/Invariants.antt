use Rattle.std.proofs.Common.{◌≡◌, [], replicate}
use Rattle.hgs_script.proofs.workers.Workers.idle.Given as goal

abbrev pub invariant-loop : goal.invariant-loop
invariant-loop l = l.items.items ≡ replicate l.counter []
