use Rattle.std.proofs.Common.{◌≡◌, true, take}
use Rattle.hgs_files.specs.Ends.{total_of}
use Rattle.hgs_hub.specs.New.{AllWithin, marks_of}
use Rattle.hgs_hub.specs.Told.{front_log}
use Rattle.hgs_hub.proofs.close.settle.Given as goal

abbrev pub invariant-loop-r : goal.invariant-loop-r
invariant-loop-r g l =
    (marks_of l.r-items ≡ marks_of l.fn.rs.items)
    × (l.settled.fine ≡ true → AllWithin (front_log l.fn.front) (take l.r-index l.fn.rs.items))
    × (l.settled.faults ≡ total_of (λ r. r.tally.faults) (take l.r-index l.fn.rs.items))
    × (l.settled.denied ≡ total_of (λ r. r.tally.denied) (take l.r-index l.fn.rs.items))
