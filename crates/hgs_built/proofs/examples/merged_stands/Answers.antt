use Rattle.hgs_stands.specs.Stands.{IsClean}
use Rattle.hgs_built.specs.Samples.{merged, merged_files}
use Rattle.hgs_built.proofs.MergedLemmas.{merged-clean}
use Rattle.hgs_built.proofs.Below.{RevisionLaws, SmallLaws}
use Rattle.hgs_built.proofs.examples.merged_stands.Goals as goal

pub returns : goal.returns
returns c = record { files = clean; stored = c.repositories_have_trees.ensures.only merged_files merged clean.stands }
  where
    laws : RevisionLaws
    laws = record {
      chunk = c.chunk_then_text.ensures;
      counted = c.nodes_are_counted.ensures;
      among_known = c.nodes_have_places.ensures.among;
      first_place = c.nodes_have_places.ensures.first;
      node = c.nodes_name_revisions.ensures.node;
      count = c.changelog_is_whole.ensures.count;
      parents = c.changelog_is_whole.ensures.parents;
      changelog_before = c.parents_stand_before.ensures.changelog;
      manifest_before = c.parents_stand_before.ensures.manifest;
      filelogs_before = c.parents_stand_before.ensures.filelogs;
      entry_nodes = c.entries_of_changesets.ensures.nodes;
      entry_parents = c.entries_of_changesets.ensures.parents;
    }

    small : SmallLaws
    small = record {
      marks_back = c.bookmarks_written_then_read.ensures;
      lines_back = c.bookmark_lines_written_then_read.ensures;
      marks_in_order = c.bookmarks_in_order.ensures.read;
      dirstate_back = c.dirstate_written_then_read.ensures;
      roots_back = c.written_then_read.ensures.read;
      roots_same = c.written_then_read.ensures.same;
    }

    clean : IsClean merged_files merged
    clean = merged-clean laws small (λ rs text is. (c.read_texts.ensures rs text).1 is)
