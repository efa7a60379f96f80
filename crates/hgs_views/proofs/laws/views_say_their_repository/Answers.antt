use Rattle.hgs_views.proofs.SaidLemmas.{SaysLaws, says}
use Rattle.hgs_views.proofs.laws.views_say_their_repository.Goals as goal

pub returns : goal.returns
returns c t r view is at =
    let laws : SaysLaws = record {
      names = c.names_of_what_is_shown.ensures;
      nodes = c.entries_of_revisions.ensures.nodes;
      parents = c.parents_of_entries.ensures;
      place = c.places_of_nodes.ensures;
      all = c.changelog_is_whole.ensures.parents;
      first_place = c.nodes_have_places.ensures.first;
    } in
    says laws t r view is at
