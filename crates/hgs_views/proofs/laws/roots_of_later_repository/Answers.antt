use Rattle.hgs_views.proofs.PhaseLemmas.{roots-front}
use Rattle.hgs_views.proofs.laws.roots_of_later_repository.Goals as goal

pub returns : goal.returns
returns c = roots-front (record {
  test = c.ancestor_test.ensures;
  ancestors = c.ancestors_of_a_front.ensures.front;
  before = c.ancestors_of_a_front.ensures.before;
  stays = c.places_go_on.ensures.stays;
  behind = c.places_go_on.ensures.behind;
  entry_nodes = c.entries_of_changesets.ensures.nodes;
  parents = c.entries_of_changesets.ensures.parents;
  same_phases = c.phases_of_nodes_and_parents.ensures;
  counted = c.nodes_are_counted.ensures;
  count = c.changelog_is_whole.ensures.count;
  all_parents_are = c.changelog_is_whole.ensures.parents;
  changelog = c.histories_go_on.ensures.changelog;
  nodes_front = c.histories_go_on.ensures.nodes;
})
