use Rattle.std.proofs.Common.{◌≡◌, ◌≤◌, true, drop, length}
use Rattle.hgs_recover.proofs.Finding.{KeptTo, Told}
use Rattle.hgs_recover.proofs.find.read_all_kept.Given as goal

abbrev pub invariant-loop-line : goal.invariant-loop-line
invariant-loop-line g l = record {
  so_far : Told g.R.Reads.alone (g.R.Reads.seen l.files) (g.R.Reads.start l.files) (KeptTo l.lines (drop l.line-index l.lines) l.kept.items);
  count : length l.kept.items ≡ l.line-index;
  same_start : g.R.Reads.start l.files ≡ g.R.Reads.start l.fn.files;
  still : g.R.Reads.alone ≡ true → g.R.Reads.seen l.files ≡ g.R.Reads.seen l.fn.files;
  later : g.R.Reads.faults l.fn.files ≤ g.R.Reads.faults l.files;
  refused : g.R.Reads.denied l.fn.files ≤ g.R.Reads.denied l.files;
}
