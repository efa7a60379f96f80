use Rattle.hgs_stands.proofs.CommittedLemmas.{committed}
use Rattle.hgs_stands.specs.Theorems.Below.{HistoryLaws}
use Rattle.hgs_stands.proofs.laws.committed_bytes.Goals as goal

pub returns : goal.returns
returns c = committed histories
  where
    histories : HistoryLaws
    histories = record {
      held = c.changesets_are_held.ensures.each;
      count = c.changesets_are_held.ensures.count;
      there = c.revisions_stay.ensures.there;
      one = c.nodes_name_revisions.ensures.one;
      used = c.used_paths_have_revisions.ensures.files;
      parents = c.changelog_is_whole.ensures.parents;
    }
