use Rattle.hgs_shown.proofs.Basics.{front-limits}
use Rattle.hgs_shown.proofs.laws.laws_below.Goals as goal

pub returns : goal.returns
returns c = record {
  change = c.change_prints_then_reads.ensures;
  counted = c.nodes_are_counted.ensures;
  first_place = c.nodes_have_places.ensures.first;
  not_null = c.nodes_have_places.ensures.not_null;
  held = c.changesets_are_held.ensures.each;
  nodes_go_on = c.histories_go_on.ensures.nodes;
  there = c.revisions_stay.ensures.there;
  node_stays = c.revisions_stay.ensures.node;
  used = c.used_paths_have_revisions.ensures.files;
  count = c.changelog_is_whole.ensures.count;
  parents = c.changelog_is_whole.ensures.parents;
  tested = c.tracked_without_fault.ensures;
  entry_nodes = c.entries_of_revisions.ensures.nodes;
  entry_parents = c.entries_of_revisions.ensures.parents;
  entry_count = c.entries_of_revisions.ensures.count;
  place = c.places_of_nodes.ensures;
  loads = λ index data_bytes revisions begins whole within. c.ignored_rest.ensures.loads index data_bytes revisions begins whole (front-limits index data_bytes revisions begins within);
  loads_whole = c.held_bytes_load.ensures;
  separate_form = c.either_form.ensures.separate;
  places = c.inline_index.ensures.places;
  entry = c.revisions_have_entries.ensures;
  requires_file = c.files_are_read_whole.ensures.requires_file;
  bookmarks_file = c.files_are_read_whole.ensures.bookmarks;
  dirstate_file = c.files_are_read_whole.ensures.dirstate;
  roots_file = c.files_are_read_whole.ensures.roots;
  index_file = c.files_are_read_whole.ensures.index;
  inline_file = c.files_are_read_whole.ensures.inline_index;
  opened = c.parts_make_views.ensures.opened;
  refreshed = c.parts_make_views.ensures.refreshed;
  placed = c.changesets_are_read.ensures.placed;
  changeset = c.changesets_are_read.ensures.revision;
  tree = c.files_of_manifest_held.ensures.tree;
  files = c.files_of_manifest_held.ensures.files;
  body = c.body_of_file_held.ensures.body;
  unknown = c.paths_without_row.ensures;
  phases = c.entries_of_changesets.ensures.phases;
  shows = c.standing_trees_show.ensures.whole;
}
