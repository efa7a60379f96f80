use Rattle.std.proofs.Common.{◌≡◌, ◌≤◌, true}
use Rattle.hgs_commit.specs.Commit.{AtRest}
use Rattle.hgs_writer.proofs.JoinLemmas.{Counted, Joining}
use Rattle.hgs_writer.proofs.joined.push_filelogs.Given as goal

abbrev pub invariant-loop-path : goal.invariant-loop-path
invariant-loop-path g l = record {
  joining : AtRest g.R.Reads.alone (g.R.Reads.seen l.files) (g.R.Reads.start l.files) (λ t. Joining t l.layers l.paths.keys l.path-iterator l.joined.changes.items l.joined.lines.items);
  counted : Counted l.paths.keys l.path-iterator l.joined.changes.items;
  same_start : g.R.Reads.start l.files ≡ g.R.Reads.start l.fn.files;
  still : g.R.Reads.alone ≡ true → g.R.Reads.seen l.files ≡ g.R.Reads.seen l.fn.files;
  later : g.R.Reads.faults l.fn.files ≤ g.R.Reads.faults l.files;
  refused : g.R.Reads.denied l.fn.files ≤ g.R.Reads.denied l.files;
}
