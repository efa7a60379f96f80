use Rattle.hgs_stands.specs.Theorems.PhaseLemmas.{phases-given}
use Rattle.hgs_stands.specs.Theorems.Below.{HistoryLaws}
use Rattle.hgs_stands.proofs.laws.phases_of_entries.Goals as goal

pub returns : goal.returns
returns c = phases-given histories c.phases_of_nodes_and_parents.ensures
  where
    histories : HistoryLaws
    histories = record {
      held = c.changesets_are_held.ensures.each;
      count = c.changesets_are_held.ensures.count;
      there = c.revisions_stay.ensures.there;
      one = c.nodes_name_revisions.ensures.one;
      used = c.used_paths_have_revisions.ensures.files;
      parents = c.changelog_is_whole.ensures.parents;
    }
