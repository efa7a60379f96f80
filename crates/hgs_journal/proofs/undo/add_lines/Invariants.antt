use Rattle.std.proofs.Common.{◌≡◌, ◌++◌, map, reverse}
use Rattle.std.specs.List.{All}
use Rattle.std.specs.Slice.Iter.{iter_rest}
use Rattle.std.specs.Iterator.Adapters.{rev_source}
use Rattle.hgs_journal.specs.Texts.{HasPath}
use Rattle.hgs_journal.specs.Undo.{undo_line}
use Rattle.hgs_journal.proofs.undo.add_lines.Given as goal

abbrev pub invariant-loop-line : goal.invariant-loop-line
invariant-loop-line l = record {
  left : l.ops.items ++ map undo_line (reverse (iter_rest (rev_source l.line-iterator))) ≡ l.fn.ops.items ++ map undo_line (reverse l.lines);
  paths : All HasPath (iter_rest (rev_source l.line-iterator));
}
