use Rattle.std.proofs.Common.{◌≡◌, ◌≤◌, ◌++◌, true, take}
use Rattle.hgs_judge.specs.Report.{findings_in}
use Rattle.hgs_verify.specs.Looked.{OfTree}
use Rattle.hgs_verify.specs.Report.{of_all_unused}
use Rattle.hgs_verify.proofs.texts.add_unused.Given as goal

abbrev pub invariant-loop-path : goal.invariant-loop-path
invariant-loop-path g l = record {
  added : OfTree g.R.Reads.alone (g.R.Reads.seen l.files) (g.R.Reads.start l.files) (λ t. findings_in l.into.items ≡ findings_in l.initial.into.items ++ of_all_unused t (take l.path-index l.unused));
  same_start : g.R.Reads.start l.files ≡ g.R.Reads.start l.fn.files;
  still : g.R.Reads.alone ≡ true → g.R.Reads.seen l.files ≡ g.R.Reads.seen l.fn.files;
  later : g.R.Reads.faults l.fn.files ≤ g.R.Reads.faults l.files;
  refused : g.R.Reads.denied l.fn.files ≤ g.R.Reads.denied l.files;
}
