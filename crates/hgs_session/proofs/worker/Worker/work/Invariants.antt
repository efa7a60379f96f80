use Rattle.std.proofs.Common.{◌≡◌}
use Rattle.hgs_session.proofs.worker.Worker.work.Given as goal

abbrev pub invariant-loop : goal.invariant-loop
invariant-loop g l = l.self.number ≡ l.fn.self.number
