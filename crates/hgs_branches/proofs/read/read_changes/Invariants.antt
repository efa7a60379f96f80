use Rattle.std.proofs.Common.{◌≡◌, ◌+◌, ◌-◌, ◌≤◌, length, true}
use Rattle.hgs_files.specs.Reads.{Grows}
use Rattle.hgs_load.specs.Given.{Gave}
use Rattle.hgs_branches.specs.Read.{AreRead}
use Rattle.hgs_branches.specs.Windows.{changes_asks, changes_behind}
use Rattle.hgs_branches.proofs.HoldLemmas.{IsHeld}
use Rattle.hgs_branches.proofs.WindowLemmas.{CoversFrom}
use Rattle.hgs_branches.proofs.read.read_changes.Given as goal

abbrev pub invariant-loop-rev : goal.invariant-loop-rev
invariant-loop-rev g l = record {
  low : l.fn.from ≤ l.rev;
  count : l.fn.from + length l.changes.items ≡ l.rev;
  read : AreRead (g.R.Reads.seen l.fn.files) (g.R.Reads.start l.fn.files) (g.R.Reads.seen l.files) l.session l.fn.from l.changes.items;
  held : IsHeld (g.R.Reads.seen l.fn.files) (g.R.Reads.start l.fn.files) (g.R.Reads.seen l.files) l.session l.window;
  covers : CoversFrom l.session.changelog l.window.run l.rev;
  gave : Gave (g.R.Reads.given l.fn.files) (g.R.Reads.given l.files) (g.R.Reads.seen l.fn.files) (g.R.Reads.start l.fn.files) (g.R.Reads.seen l.files) (changes_asks l.session l.fn.from l.fn.upto) (changes_behind l.session l.fn.upto l.window l.rev (l.fn.upto - l.rev));
  seen : Grows (g.R.Reads.seen l.fn.files) (g.R.Reads.seen l.files);
  same_start : g.R.Reads.start l.files ≡ g.R.Reads.start l.fn.files;
  still : g.R.Reads.alone ≡ true → g.R.Reads.seen l.files ≡ g.R.Reads.seen l.fn.files;
  later : g.R.Reads.faults l.fn.files ≤ g.R.Reads.faults l.files;
  later_denied : g.R.Reads.denied l.fn.files ≤ g.R.Reads.denied l.files;
}
