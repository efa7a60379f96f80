use Rattle.std.proofs.Common.{◌≡◌, ◌≤◌, ◌+◌, ◌*◌, length, true}
use Rattle.std.specs.Prelude.{IfSome}
use Rattle.hgs_files.specs.Reads.{Grows}
use Rattle.hgs_files.specs.Tree.{after_all}
use Rattle.hgs_load.specs.View.{piece_length}
use Rattle.hgs_loading.proofs.IndexLemmas.{IsFront}
use Rattle.hgs_loading.proofs.logs.read_index.Given as goal

abbrev pub invariant-loop-left : goal.invariant-loop-left
invariant-loop-left g l = record {
  front : g.R.Reads.alone ≡ true → IfSome (g.R.Reads.seen l.files) (λ log. IsFront l.index l.bytes.items (after_all log (g.R.Reads.start l.files)));
  so_far : length l.bytes.items + piece_length * l.left ≡ l.fn.pieces * piece_length;
  grown : Grows (g.R.Reads.seen l.fn.files) (g.R.Reads.seen l.files);
  same_start : g.R.Reads.start l.files ≡ g.R.Reads.start l.fn.files;
  still : g.R.Reads.alone ≡ true → g.R.Reads.seen l.files ≡ g.R.Reads.seen l.fn.files;
  later : g.R.Reads.faults l.fn.files ≤ g.R.Reads.faults l.files;
  refused : g.R.Reads.denied l.fn.files ≤ g.R.Reads.denied l.files;
}

abbrev pub decreases-loop-left : goal.decreases-loop-left
decreases-loop-left g l = l.left
