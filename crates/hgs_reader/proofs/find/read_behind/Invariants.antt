use Rattle.std.proofs.Common.{◌≡◌, ◌≤◌, true}
use Rattle.hgs_files.specs.Reads.{Grows}
use Rattle.hgs_load.specs.Asks.{Continues}
use Rattle.hgs_load.specs.Beyond.{IsShown}
use Rattle.hgs_load.specs.Given.{Gave}
use Rattle.hgs_reader.specs.Find.{bytes_behind, pieces_until}
use Rattle.hgs_reader.specs.Passed.{IsPassed}
use Rattle.hgs_reader.proofs.find.read_behind.Given as goal

abbrev pub invariant-loop-left : goal.invariant-loop-left
invariant-loop-left g l = record {
  passed : IsPassed l.node.0 l.bytes.items l.passed;
  asked : Continues (g.R.Reads.seen l.fn.files) (g.R.Reads.start l.fn.files) (g.R.Reads.seen l.files) (bytes_behind l.inline l.index l.node.0 l.first) (pieces_until l.inline l.index l.node.0 l.left l.bytes.items);
  gave : Gave (g.R.Reads.given l.fn.files) (g.R.Reads.given l.files) (g.R.Reads.seen l.fn.files) (g.R.Reads.start l.fn.files) (g.R.Reads.seen l.files) (bytes_behind l.inline l.index l.node.0 l.first) (pieces_until l.inline l.index l.node.0 l.left l.bytes.items);
  grown : Grows (g.R.Reads.seen l.fn.files) (g.R.Reads.seen l.files);
  same_start : g.R.Reads.start l.files ≡ g.R.Reads.start l.fn.files;
  still : g.R.Reads.alone ≡ true → g.R.Reads.seen l.files ≡ g.R.Reads.seen l.fn.files;
  tied : g.R.Reads.ties l.files ≡ g.R.Reads.ties l.fn.files;
  shown : IsShown g.R.Reads.shows (g.R.Reads.start l.fn.files) (g.R.Reads.seen l.fn.files) → IsShown g.R.Reads.shows (g.R.Reads.start l.files) (g.R.Reads.seen l.files);
  later : g.R.Reads.faults l.fn.files ≤ g.R.Reads.faults l.files;
  refused : g.R.Reads.denied l.fn.files ≤ g.R.Reads.denied l.files;
}

abbrev pub decreases-loop-left : goal.decreases-loop-left
decreases-loop-left g l = l.left
