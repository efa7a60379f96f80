use Rattle.std.proofs.Common.{◌≡◌, ◌++◌, map}
use Rattle.hgs_marks.specs.Held.{mark_in}
use Rattle.hgs_reader.specs.Shown.{marks_shown}
use Rattle.hgs_reader.proofs.shown.mark_lines.Given as goal

abbrev pub invariant-loop-name : goal.invariant-loop-name
invariant-loop-name l = l.lines.items ++ marks_shown l.log.entries (map mark_in l.name-iterator) ≡ marks_shown l.log.entries l.bookmarks
