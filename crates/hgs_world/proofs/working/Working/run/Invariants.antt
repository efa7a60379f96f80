use Rattle.std.proofs.Common.{◌≡◌, Some}
use Rattle.hgs_files.specs.Files.{GoesOn}
use Rattle.hgs_machine.specs.SoFar.{questions_left}
use Rattle.hgs_mem.specs.Steady.{steady_log, steady_start, steady_tree}
use Rattle.hgs_world.specs.Working.{CanGoOn, Runs}
use Rattle.hgs_world.proofs.working.Working.run.Given as goal

abbrev pub invariant-ops : goal.invariant-ops
invariant-ops l = record {
  runs : GoesOn (Some (steady_log l.initial.files)) (Some (steady_log l.files)) (λ done. Runs l.goal (steady_tree l.initial.files) l.initial.self done l.self);
  at_work : CanGoOn (steady_tree l.files) l.self;
  same_start : steady_start l.files ≡ steady_start l.initial.files;
}

abbrev pub decreases-ops : goal.decreases-ops
decreases-ops l = questions_left l.self.machine
