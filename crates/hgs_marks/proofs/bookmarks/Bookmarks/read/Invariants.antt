use Rattle.std.proofs.Common.{◌≡◌, ◌+◌, ◌≤◌, length}
use Rattle.hgs_marks.specs.Bookmarks.{read_bookmarks}
use Rattle.hgs_marks.proofs.MarkLemmas.{all_of}
use Rattle.hgs_marks.proofs.bookmarks.Bookmarks.read.Given as goal

abbrev pub invariant-loop-rest : goal.invariant-loop-rest
invariant-loop-rest l = record {
  read : all_of l.bookmarks l.number l.rest ≡ read_bookmarks l.text;
  room : l.number + length l.rest ≤ length l.text;
}

abbrev pub decreases-loop-rest : goal.decreases-loop-rest
decreases-loop-rest l = length l.rest
