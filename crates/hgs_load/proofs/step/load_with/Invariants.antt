use Rattle.std.proofs.Common.{◌≡◌, ◌≤◌, true}
use Rattle.hgs_files.specs.Reads.{Grows}
use Rattle.hgs_load.specs.Asks.{Continues}
use Rattle.hgs_load.specs.Beyond.{IsShown}
use Rattle.hgs_load.specs.Given.{Gave}
use Rattle.hgs_load.proofs.BeyondLemmas.{HasBegun}
use Rattle.hgs_load.specs.Load.{asks_of, reads_left}
use Rattle.hgs_load.proofs.step.load_with.Given as goal

abbrev pub invariant-loop-machine : goal.invariant-loop-machine
invariant-loop-machine g l = record {
  asked : Continues (g.R.Reads.seen l.fn.files) (g.R.Reads.start l.fn.files) (g.R.Reads.seen l.files) (asks_of l.fn.load) (asks_of l.machine);
  gave : Gave (g.R.Reads.given l.fn.files) (g.R.Reads.given l.files) (g.R.Reads.seen l.fn.files) (g.R.Reads.start l.fn.files) (g.R.Reads.seen l.files) (asks_of l.fn.load) (asks_of l.machine);
  grown : Grows (g.R.Reads.seen l.fn.files) (g.R.Reads.seen l.files);
  same_start : g.R.Reads.start l.files ≡ g.R.Reads.start l.fn.files;
  still : g.R.Reads.alone ≡ true → g.R.Reads.seen l.files ≡ g.R.Reads.seen l.fn.files;
  tied : g.R.Reads.ties l.files ≡ g.R.Reads.ties l.fn.files;
  shown : IsShown g.R.Reads.shows (g.R.Reads.start l.fn.files) (g.R.Reads.seen l.fn.files) → IsShown g.R.Reads.shows (g.R.Reads.start l.files) (g.R.Reads.seen l.files);
  begun : HasBegun (g.R.Reads.ties l.fn.files).told (g.R.Reads.seen l.fn.files) (g.R.Reads.start l.fn.files) (g.R.Reads.seen l.files) (asks_of l.fn.load) (asks_of l.machine);
  later : g.R.Reads.faults l.fn.files ≤ g.R.Reads.faults l.files;
  refused : g.R.Reads.denied l.fn.files ≤ g.R.Reads.denied l.files;
}

abbrev pub decreases-loop-machine : goal.decreases-loop-machine
decreases-loop-machine g l = reads_left l.machine
