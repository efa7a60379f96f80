use Rattle.hgs_views.proofs.GrowLemmas.{sample-grows}
use Rattle.hgs_views.proofs.examples.history_grows.Goals as goal

pub returns : goal.returns
returns c = sample-grows (record {
  apart = c.filelogs_stand_apart.ensures.own;
  size = c.held_index_length.ensures;
  count = c.changelog_is_whole.ensures.count;
  roots_before = c.roots_of_later_repository.ensures;
}) c.standing_trees_show.ensures.whole c.empty_is_repository.ensures c.two_drafts_stand.ensures
