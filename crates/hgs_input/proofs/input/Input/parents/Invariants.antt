use Rattle.std.proofs.Common.{◌≡◌, ◌-◌, ◌≤◌, [], length}
use Rattle.hgs_input.specs.Read.{parents_from}
use Rattle.hgs_input.proofs.input.Input.parents.Given as goal

abbrev pub invariant-loop-alloc : goal.invariant-loop-alloc
invariant-loop-alloc l = record {
  read : parents_from (2 - length l.names) l.names l.self ≡ parents_from 2 [] l.fn.self;
  few : length l.names ≤ 2;
}

abbrev pub decreases-loop-alloc : goal.decreases-loop-alloc
decreases-loop-alloc l = 2 - length l.names
