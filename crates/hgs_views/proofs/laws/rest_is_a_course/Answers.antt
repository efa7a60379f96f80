use Rattle.hgs_views.proofs.CourseLemmas.{rest-course}
use Rattle.hgs_views.proofs.laws.rest_is_a_course.Goals as goal

pub returns : goal.returns
returns c = rest-course c.standing_trees_show.ensures.whole
