use Rattle.std.proofs.Common.{◌≡◌, ◌≤◌, ◌++◌, true, length}
use Rattle.hgs_files.specs.Reads.{Grows}
use Rattle.hgs_verify.specs.Looked.{OfTree}
use Rattle.hgs_verify.specs.Task.{AreReadOf, paths_of}
use Rattle.hgs_verify.proofs.batch.read_batch.Given as goal

abbrev pub invariant-loop-path : goal.invariant-loop-path
invariant-loop-path g l = record {
  order : paths_of l.batch.tasks.items ++ l.paths.keys ≡ l.fn.paths.keys;
  read : OfTree g.R.Reads.alone (g.R.Reads.seen l.files) (g.R.Reads.start l.files) (AreReadOf l.batch.tasks.items);
  grown : Grows (g.R.Reads.seen l.fn.files) (g.R.Reads.seen l.files);
  same_start : g.R.Reads.start l.files ≡ g.R.Reads.start l.fn.files;
  still : g.R.Reads.alone ≡ true → g.R.Reads.seen l.files ≡ g.R.Reads.seen l.fn.files;
  later : g.R.Reads.faults l.fn.files ≤ g.R.Reads.faults l.files;
  refused : g.R.Reads.denied l.fn.files ≤ g.R.Reads.denied l.files;
}

abbrev pub decreases-loop-path : goal.decreases-loop-path
decreases-loop-path g l = length l.paths.keys
