use Rattle.hgs_views.proofs.GrowLemmas.{grown-course}
use Rattle.hgs_views.proofs.laws.last_append_publishes.Goals as goal

pub returns : goal.returns
returns c = grown-course (record {
  apart = c.filelogs_stand_apart.ensures.own;
  size = c.held_index_length.ensures;
  count = c.changelog_is_whole.ensures.count;
  roots_before = c.roots_of_later_repository.ensures;
})
