use Rattle.std.proofs.Common.{take}
use Rattle.hgs_branch.specs.Kept.{AddsAll, Keeps}
use Rattle.hgs_branch.proofs.course.add_all.Given as goal

abbrev pub invariant-loop-place : goal.invariant-loop-place
invariant-loop-place l = record {
  kept : Keeps l.fn.course l.course;
  adds : AddsAll l.fn.course l.course (take l.place l.changes);
}
