use Rattle.std.proofs.Common.{◌≡◌, ◌≤◌, ◌-◌, ◌+◌, [], length}
use Rattle.hgs_input.specs.Import.{records_from}
use Rattle.hgs_input.proofs.input.Input.import.Given as goal

abbrev pub invariant-loop-changes : goal.invariant-loop-changes
invariant-loop-changes l = record {
  read : records_from (length l.fn.self.bytes - length l.changes) l.changes l.self ≡ records_from (length l.fn.self.bytes) [] l.fn.self;
  room : length l.changes + length l.self.bytes ≤ length l.fn.self.bytes;
}

abbrev pub decreases-loop-changes : goal.decreases-loop-changes
decreases-loop-changes l = length l.self.bytes
