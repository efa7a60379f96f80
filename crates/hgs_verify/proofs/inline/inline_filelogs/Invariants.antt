use Rattle.std.proofs.Common.{◌≡◌, ◌≤◌, true}
use Rattle.hgs_verify.specs.Looked.{OfTree}
use Rattle.hgs_verify.proofs.InlineLemmas.{Entered}
use Rattle.hgs_verify.proofs.inline.inline_filelogs.Given as goal

abbrev pub invariant-loop-path : goal.invariant-loop-path
invariant-loop-path g l = record {
  entered : OfTree g.R.Reads.alone (g.R.Reads.seen l.files) (g.R.Reads.start l.files) (Entered l.paths.keys l.inline.keys l.path-iterator);
  same_start : g.R.Reads.start l.files ≡ g.R.Reads.start l.fn.files;
  still : g.R.Reads.alone ≡ true → g.R.Reads.seen l.files ≡ g.R.Reads.seen l.fn.files;
  later : g.R.Reads.faults l.fn.files ≤ g.R.Reads.faults l.files;
  refused : g.R.Reads.denied l.fn.files ≤ g.R.Reads.denied l.files;
}
