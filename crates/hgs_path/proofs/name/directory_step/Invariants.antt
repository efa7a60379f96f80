use Rattle.std.proofs.Common.{◌≡◌, ◌++◌, length}
use Rattle.hgs_path.specs.StoreName.{directory_step}
use Rattle.hgs_path.proofs.name.directory_step.Given as goal

abbrev pub invariant-loop-directory : goal.invariant-loop-directory
invariant-loop-directory l = l.out.items ++ directory_step l.rest ≡ directory_step l.name

abbrev pub decreases-loop-directory : goal.decreases-loop-directory
decreases-loop-directory l = length l.rest
