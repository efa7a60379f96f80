use Rattle.std.proofs.Common.{◌≤◌, ◌-◌, length, take}
use Rattle.hgs_files.specs.Streams.{IsWritten}
use Rattle.hgs_top.proofs.output.write_all.Given as goal

abbrev pub invariant-loop-at : goal.invariant-loop-at
invariant-loop-at g l = record {
  within : l.at ≤ length l.bytes;
  written : IsWritten (g.K.Sink.written l.fn.out) (g.K.Sink.written l.out) (take l.at l.bytes);
  later : g.K.Sink.faults l.fn.out ≤ g.K.Sink.faults l.out;
}

abbrev pub decreases-loop-at : goal.decreases-loop-at
decreases-loop-at g l = length l.initial.bytes - l.at
