use Rattle.hgs_members.specs.Story.{story_of}
use Rattle.hgs_revset.specs.Members.{story_of_repo}
use Rattle.hgs_sets_shown.proofs.ToldLemmas.{Laws, alike, alike_at_rest}
use Rattle.hgs_sets_shown.proofs.laws.views_tell_repositories.Goals as goal

pub returns-clause-view : goal.returns-clause-view
returns-clause-view c =
    let laws : Laws = record {
      counted = c.nodes_are_counted.ensures;
      first_place = c.nodes_have_places.ensures.first;
      count = c.changelog_is_whole.ensures.count;
      parents = c.changelog_is_whole.ensures.parents;
      place = c.places_of_nodes.ensures;
      entry_nodes = c.entries_of_revisions.ensures.nodes;
      entry_parents = c.parents_of_entries.ensures;
      loads = c.load_shows_repository.ensures;
      names = c.names_name_the_same.ensures;
    } in
    alike laws

pub returns-clause-rest : goal.returns-clause-rest
returns-clause-rest c =
    let laws : Laws = record {
      counted = c.nodes_are_counted.ensures;
      first_place = c.nodes_have_places.ensures.first;
      count = c.changelog_is_whole.ensures.count;
      parents = c.changelog_is_whole.ensures.parents;
      place = c.places_of_nodes.ensures;
      entry_nodes = c.entries_of_revisions.ensures.nodes;
      entry_parents = c.parents_of_entries.ensures;
      loads = c.load_shows_repository.ensures;
      names = c.names_name_the_same.ensures;
    } in
    alike_at_rest laws

pub returns-clause-members : goal.returns-clause-members
returns-clause-members c =
    let laws : Laws = record {
      counted = c.nodes_are_counted.ensures;
      first_place = c.nodes_have_places.ensures.first;
      count = c.changelog_is_whole.ensures.count;
      parents = c.changelog_is_whole.ensures.parents;
      place = c.places_of_nodes.ensures;
      entry_nodes = c.entries_of_revisions.ensures.nodes;
      entry_parents = c.parents_of_entries.ensures;
      loads = c.load_shows_repository.ensures;
      names = c.names_name_the_same.ensures;
    } in
    λ t r view a rev h is. c.members_of_alike.ensures.members (story_of view) (story_of_repo r) a rev (alike_at_rest laws t r view h is)
