use Rattle.std.proofs.Common.{◌≡◌, ◌-◌, ◌≤◌, length, true}
use Rattle.hgs_branches.specs.Theorems.RestLemmas.{AreTaken}
use Rattle.hgs_files.specs.Reads.{Grows}
use Rattle.hgs_top.specs.Run.{OfTree}
use Rattle.hgs_top.proofs.BranchLemmas.{Left}
use Rattle.hgs_top.proofs.branches.take_all.Given as goal

abbrev pub invariant-loop-taken : goal.invariant-loop-taken
invariant-loop-taken g l = record {
  told : g.R.Reads.alone ≡ true → OfTree (g.R.Reads.seen l.fn.files) (g.R.Reads.start l.fn.files) (λ t. AreTaken t l.fn.session l.taken l.branches);
  gave : Left (g.R.Reads.given l.fn.files) (g.R.Reads.given l.files) (g.R.Reads.seen l.fn.files) (g.R.Reads.start l.fn.files) (g.R.Reads.seen l.files) l.fn.session l.fn.steps l.taken;
  size : length l.branches.parents ≡ l.taken;
  within : l.taken ≤ length l.fn.session.changelog.entries;
  grown : Grows (g.R.Reads.seen l.fn.files) (g.R.Reads.seen l.files);
  same_start : g.R.Reads.start l.files ≡ g.R.Reads.start l.fn.files;
  still : g.R.Reads.alone ≡ true → g.R.Reads.seen l.files ≡ g.R.Reads.seen l.fn.files;
  later : g.R.Reads.faults l.fn.files ≤ g.R.Reads.faults l.files;
  later_denied : g.R.Reads.denied l.fn.files ≤ g.R.Reads.denied l.files;
}

abbrev pub decreases-loop-taken : goal.decreases-loop-taken
decreases-loop-taken g l = length l.fn.session.changelog.entries - l.taken
