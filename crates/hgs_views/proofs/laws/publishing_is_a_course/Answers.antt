use Rattle.hgs_views.proofs.PublicLemmas.{public-course}
use Rattle.hgs_views.proofs.laws.publishing_is_a_course.Goals as goal

pub returns : goal.returns
returns c = public-course (record {
  apart = c.filelogs_stand_apart.ensures.own;
  shows = c.standing_trees_show.ensures.whole;
  entries = c.entries_of_changesets.ensures.nodes;
  counted = c.nodes_are_counted.ensures;
  count = c.changelog_is_whole.ensures.count;
})
