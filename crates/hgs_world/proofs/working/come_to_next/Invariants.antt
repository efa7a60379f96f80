use Rattle.std.proofs.Common.{◌≡◌, ◌≤◌}
use Rattle.hgs_machine.specs.SoFar.{questions_left}
use Rattle.hgs_mem.specs.Steady.{steady_log, steady_start, steady_tree}
use Rattle.hgs_world.specs.Working.{KeepsSoFar, Sizes}
use Rattle.hgs_world.proofs.working.come_to_next.Given as goal

abbrev pub invariant-sizes : goal.invariant-sizes
invariant-sizes l = record {
  sizes : Sizes (steady_tree l.initial.files) l.initial.machine l.machine;
  so_far : KeepsSoFar (steady_tree l.initial.files) l.initial.machine l.machine;
  fewer : questions_left l.machine ≤ questions_left l.initial.machine;
  log : steady_log l.files ≡ steady_log l.initial.files;
  same_start : steady_start l.files ≡ steady_start l.initial.files;
}

abbrev pub decreases-sizes : goal.decreases-sizes
decreases-sizes l = questions_left l.machine
