use Rattle.hgs_built.proofs.ListLemmas.{filelogs-listed}
use Rattle.hgs_built.proofs.MarkLemmas.{bookmarks-built}
use Rattle.hgs_built.proofs.ParentLemmas.{dirstate-built}
use Rattle.hgs_built.proofs.PhaseLemmas.{phases-built}
use Rattle.hgs_built.proofs.RevlogLemmas.{changesets-held}
use Rattle.hgs_built.proofs.Below.{NameLaws, RevisionLaws, SmallLaws}
use Rattle.hgs_built.proofs.laws.parts_are_built.Goals as goal

pub returns : goal.returns
returns c = record {
  revlogs = changesets-held laws names;
  list = filelogs-listed names;
  phases = phases-built laws small;
  bookmarks = bookmarks-built laws small;
  dirstate = dirstate-built laws small;
}
  where
    laws : RevisionLaws
    laws = record {
      chunk = c.chunk_then_text.ensures;
      counted = c.nodes_are_counted.ensures;
      among_known = c.nodes_have_places.ensures.among;
      first_place = c.nodes_have_places.ensures.first;
      node = c.nodes_name_revisions.ensures.node;
      count = c.changelog_is_whole.ensures.count;
      parents = c.changelog_is_whole.ensures.parents;
      changelog_before = c.parents_stand_before.ensures.changelog;
      manifest_before = c.parents_stand_before.ensures.manifest;
      filelogs_before = c.parents_stand_before.ensures.filelogs;
      entry_nodes = c.entries_of_changesets.ensures.nodes;
      entry_parents = c.entries_of_changesets.ensures.parents;
    }

    names : NameLaws
    names = record {
      own = c.filelogs_stand_apart.ensures.own;
      kinds = c.filelogs_stand_apart.ensures.kinds;
      tracked = c.tracked_without_fault.ensures;
      added = c.added_lines_are_read.ensures.name;
    }

    small : SmallLaws
    small = record {
      marks_back = c.bookmarks_written_then_read.ensures;
      lines_back = c.bookmark_lines_written_then_read.ensures;
      marks_in_order = c.bookmarks_in_order.ensures.read;
      dirstate_back = c.dirstate_written_then_read.ensures;
      roots_back = c.written_then_read.ensures.read;
      roots_same = c.written_then_read.ensures.same;
    }
