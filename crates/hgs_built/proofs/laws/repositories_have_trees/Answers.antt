use Rattle.hgs_built.proofs.WholeLemmas.{built-clean, stands-stored}
use Rattle.hgs_built.proofs.Below.{NameLaws, RevisionLaws, SmallLaws}
use Rattle.hgs_built.proofs.laws.repositories_have_trees.Goals as goal

pub returns : goal.returns
returns c = record { built = built-clean laws names small; only = stands-stored small }
  where
    laws : RevisionLaws
    laws = record {
      chunk = c.chunk_then_text.ensures;
      counted = c.nodes_are_counted.ensures;
      among_known = c.nodes_have_places.ensures.among;
      first_place = c.nodes_have_places.ensures.first;
      node = c.nodes_name_revisions.ensures.node;
      count = c.changelog_is_whole.ensures.count;
      parents = c.changelog_is_whole.ensures.parents;
      changelog_before = c.parents_stand_before.ensures.changelog;
      manifest_before = c.parents_stand_before.ensures.manifest;
      filelogs_before = c.parents_stand_before.ensures.filelogs;
      entry_nodes = c.entries_of_changesets.ensures.nodes;
      entry_parents = c.entries_of_changesets.ensures.parents;
    }

    names : NameLaws
    names = record {
      own = c.filelogs_stand_apart.ensures.own;
      kinds = c.filelogs_stand_apart.ensures.kinds;
      tracked = c.tracked_without_fault.ensures;
      added = c.added_lines_are_read.ensures.name;
    }

    small : SmallLaws
    small = record {
      marks_back = c.bookmarks_written_then_read.ensures;
      lines_back = c.bookmark_lines_written_then_read.ensures;
      marks_in_order = c.bookmarks_in_order.ensures.read;
      dirstate_back = c.dirstate_written_then_read.ensures;
      roots_back = c.written_then_read.ensures.read;
      roots_same = c.written_then_read.ensures.same;
    }
