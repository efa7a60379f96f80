use Rattle.std.proofs.Common.{◌≡◌, ◌++◌, length}
use Rattle.hgs_path.specs.ListedNames.{undone_step}
use Rattle.hgs_path.proofs.fncache.undone_step.Given as goal

abbrev pub invariant-loop-directory : goal.invariant-loop-directory
invariant-loop-directory l = l.out.items ++ undone_step l.rest ≡ undone_step l.name

abbrev pub decreases-loop-directory : goal.decreases-loop-directory
decreases-loop-directory l = length l.rest
