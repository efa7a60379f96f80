use Rattle.hgs_stands.specs.Theorems.PhaseLemmas.{entries-nodes, entries-parents, phases-by-roots}
use Rattle.hgs_stands.specs.Theorems.Below.{HistoryLaws}
use Rattle.hgs_stands.proofs.laws.entries_of_changesets.Goals as goal

pub returns : goal.returns
returns c = record { nodes = entries-nodes; parents = entries-parents; phases = phases-by-roots histories c.phases_of_nodes_and_parents.ensures }
  where
    histories : HistoryLaws
    histories = record {
      held = c.changesets_are_held.ensures.each;
      count = c.changesets_are_held.ensures.count;
      there = c.revisions_stay.ensures.there;
      one = c.nodes_name_revisions.ensures.one;
      used = c.used_paths_have_revisions.ensures.files;
      parents = c.changelog_is_whole.ensures.parents;
    }
