use Rattle.std.proofs.Common.{◌≡◌}
use Rattle.hgs_files.specs.Files.{GoesOn}
use Rattle.hgs_machine.specs.Carry.{IsCausedSince, tree_now}
use Rattle.hgs_machine.specs.Fed.{new_machine}
use Rattle.hgs_machine.specs.Ran.{HasCome}
use Rattle.hgs_machine.specs.Refusals.{WereRefused, refusals_so_far}
use Rattle.hgs_machine.specs.SoFar.{SoFar, questions_left}
use Rattle.hgs_machine.proofs.carry.carry_out.Given as goal

abbrev pub invariant-loop : goal.invariant-loop
invariant-loop g l = record {
  log : GoesOn (g.F.Files.log l.fn.files) (g.F.Files.log l.files) (SoFar (tree_now (g.F.Files.log l.fn.files) (g.F.Reads.start l.fn.files)) l.machine);
  same_start : g.F.Reads.start l.files ≡ g.F.Reads.start l.fn.files;
  plan : l.machine.plan ≡ l.fn.plan;
  causes : IsCausedSince (g.F.Reads.faults l.fn.files) (g.F.Reads.faults l.files) (g.F.Reads.denied l.fn.files) (g.F.Reads.denied l.files) l.machine.outcome l.machine.swept;
  ran : GoesOn (g.F.Files.log l.fn.files) (g.F.Files.log l.files) (HasCome (tree_now (g.F.Files.log l.fn.files) (g.F.Reads.start l.fn.files)) (new_machine l.fn.plan) l.machine (g.F.Reads.faults l.fn.files) (g.F.Reads.faults l.files) (g.F.Reads.denied l.fn.files) (g.F.Reads.denied l.files));
  calls : WereRefused (refusals_so_far l.machine) (g.F.Reads.faults l.fn.files) (g.F.Reads.faults l.files) (g.F.Reads.denied l.fn.files) (g.F.Reads.denied l.files);
}

abbrev pub decreases-loop : goal.decreases-loop
decreases-loop g l = questions_left l.machine
