use Rattle.hgs_built.proofs.LimitLemmas.{changelog-room, filelog-room, manifest-room}
use Rattle.hgs_built.proofs.Below.{RevisionLaws}
use Rattle.hgs_built.proofs.laws.limits_leave_room.Goals as goal

pub returns : goal.returns
returns c = record { changelog = changelog-room laws; manifest = manifest-room laws; filelogs = filelog-room laws }
  where
    laws : RevisionLaws
    laws = record {
      chunk = c.chunk_then_text.ensures;
      counted = c.nodes_are_counted.ensures;
      among_known = c.nodes_have_places.ensures.among;
      first_place = c.nodes_have_places.ensures.first;
      node = c.nodes_name_revisions.ensures.node;
      count = c.changelog_is_whole.ensures.count;
      parents = c.changelog_is_whole.ensures.parents;
      changelog_before = c.parents_stand_before.ensures.changelog;
      manifest_before = c.parents_stand_before.ensures.manifest;
      filelogs_before = c.parents_stand_before.ensures.filelogs;
      entry_nodes = c.entries_of_changesets.ensures.nodes;
      entry_parents = c.entries_of_changesets.ensures.parents;
    }
