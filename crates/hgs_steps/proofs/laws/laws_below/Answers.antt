use Rattle.hgs_steps.proofs.laws.laws_below.Goals as goal

pub returns : goal.returns
returns c = record {
  decode = c.written_entries_read.ensures;
  index_length = c.held_index_length.ensures;
  entry_nodes = c.entries_of_revisions.ensures.nodes;
  entry_parents = c.entries_of_revisions.ensures.parents;
  counted = c.nodes_are_counted.ensures;
  count = c.changelog_is_whole.ensures.count;
  parents = c.changelog_is_whole.ensures.parents;
  written_nodes = c.entries_of_changesets.ensures.nodes;
  written_parents = c.entries_of_changesets.ensures.parents;
  phases = c.entries_of_changesets.ensures.phases;
  lowered = c.moves_are_the_models.ensures.advanced;
  raised = c.moves_are_the_models.ensures.retracted;
  set = c.bookmarks_by_nodes.ensures.set;
  deleted = c.bookmarks_by_nodes.ensures.deleted;
  place = c.places_of_nodes.ensures;
  first_place = c.nodes_have_places.ensures.first;
  not_null = c.nodes_have_places.ensures.not_null;
  nodes_go_on = c.histories_go_on.ensures.nodes;
}
