use Rattle.std.proofs.Common.{◌≡◌, ◌+◌, length}
use Rattle.hgs_bytes.specs.Path.{components}
use Rattle.hgs_path.specs.Check.{forbidden_from}
use Rattle.hgs_path.proofs.check.first_forbidden.Given as goal

abbrev pub invariant-loop-part : goal.invariant-loop-part
invariant-loop-part l = record {
  left : forbidden_from l.start (components l.rest) ≡ forbidden_from 0 (components l.path);
  place : l.start + length l.rest ≡ length l.path;
}

abbrev pub decreases-loop-part : goal.decreases-loop-part
decreases-loop-part l = length l.rest
