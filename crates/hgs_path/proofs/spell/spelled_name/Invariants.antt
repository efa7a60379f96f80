use Rattle.std.proofs.Common.{◌≡◌, ◌++◌, length}
use Rattle.hgs_path.specs.StoreName.{spelled_name}
use Rattle.hgs_path.proofs.spell.spelled_name.Given as goal

abbrev pub invariant-loop-part : goal.invariant-loop-part
invariant-loop-part l = l.out.items ++ spelled_name l.form l.rest ≡ spelled_name l.form l.name

abbrev pub decreases-loop-part : goal.decreases-loop-part
decreases-loop-part l = length l.rest
