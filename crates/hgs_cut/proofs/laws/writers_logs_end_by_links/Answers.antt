use Rattle.hgs_cut.proofs.FrontLemmas.{ends-along}
use Rattle.hgs_cut.proofs.laws.writers_logs_end_by_links.Goals as goal

pub returns : goal.returns
returns c = ends-along (record {
  fronts = c.legal_logs_are_writers_logs.ensures.fronts;
  course = c.writers_logs_are_courses.ensures.course;
  stay = c.numbers_rise.ensures.stay;
  ends = c.stores_end_by_links.ensures;
})
