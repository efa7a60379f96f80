use Rattle.std.proofs.Common.{◌≡◌, ◌≤◌, length, true}
use Rattle.hgs_files.specs.Reads.{Grows}
use Rattle.hgs_load.specs.Given.{Gave}
use Rattle.hgs_top.specs.Run.{OfTree}
use Rattle.hgs_top.specs.Windows.{lines_behind, lines_reads}
use Rattle.hgs_top.proofs.LogLemmas.{IsHalfWay}
use Rattle.hgs_top.proofs.WindowLemmas.{IsOf}
use Rattle.hgs_top.proofs.log.gather_lines.Given as goal

abbrev pub invariant-loop-left : goal.invariant-loop-left
invariant-loop-left g l = record {
  told : g.R.Reads.alone ≡ true → OfTree (g.R.Reads.seen l.fn.files) (g.R.Reads.start l.fn.files) (λ t. IsHalfWay t l.fn.session l.left (g.K.Sink.written l.fn.out) (g.K.Sink.written l.out) l.gathered.items × IsOf t l.fn.session l.window);
  gave : Gave (g.R.Reads.given l.fn.files) (g.R.Reads.given l.files) (g.R.Reads.seen l.fn.files) (g.R.Reads.start l.fn.files) (g.R.Reads.seen l.files) (lines_reads l.fn.session (length l.fn.session.changelog.entries)) (lines_behind l.fn.session l.window l.left);
  within : l.left ≤ length l.fn.session.changelog.entries;
  grown : Grows (g.R.Reads.seen l.fn.files) (g.R.Reads.seen l.files);
  same_start : g.R.Reads.start l.files ≡ g.R.Reads.start l.fn.files;
  still : g.R.Reads.alone ≡ true → g.R.Reads.seen l.files ≡ g.R.Reads.seen l.fn.files;
  later : g.R.Reads.faults l.fn.files ≤ g.R.Reads.faults l.files;
  later_sink : g.K.Sink.faults l.fn.out ≤ g.K.Sink.faults l.out;
}

abbrev pub decreases-loop-left : goal.decreases-loop-left
decreases-loop-left g l = l.left
