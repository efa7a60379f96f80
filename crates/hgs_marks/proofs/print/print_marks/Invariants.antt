use Rattle.std.proofs.Common.{◌≡◌, ◌++◌, map}
use Rattle.hgs_bytes.specs.Bytes.{IsPrefixOf}
use Rattle.hgs_marks.specs.Bookmarks.{bookmarks_text}
use Rattle.hgs_marks.specs.Held.{mark_in}
use Rattle.hgs_marks.proofs.print.print_marks.Given as goal

abbrev pub invariant-loop-name : goal.invariant-loop-name
invariant-loop-name l = record {
  left : l.into.items ++ bookmarks_text (map mark_in l.name-iterator) ≡ l.fn.into.items ++ bookmarks_text (map mark_in l.marks.entries);
  front : IsPrefixOf l.fn.into.items l.into.items;
}
