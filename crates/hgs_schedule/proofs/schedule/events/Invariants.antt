use Rattle.std.proofs.Common.{◌≡◌, ◌≤◌, ◌-◌, ◌+◌, [], length}
use Rattle.hgs_schedule.specs.Read.{events_from}
use Rattle.hgs_schedule.proofs.schedule.events.Given as goal

abbrev pub invariant-loop-events : goal.invariant-loop-events
invariant-loop-events l = record {
  read : events_from l.readers (length l.fn.input.bytes - length l.events) l.events l.input ≡ events_from l.readers (length l.fn.input.bytes) [] l.fn.input;
  room : length l.events + length l.input.bytes ≤ length l.fn.input.bytes;
}

abbrev pub decreases-loop-events : goal.decreases-loop-events
decreases-loop-events l = length l.input.bytes
