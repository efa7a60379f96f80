use Rattle.std.proofs.Common.{arith}
use Rattle.hgs_legal.specs.LegalLog.{start_of}
use Rattle.hgs_headline.proofs.Below.{Below}
use Rattle.hgs_headline.proofs.CourseLemmas.{course}
use Rattle.hgs_headline.proofs.laws.writers_logs_are_courses.Goals as goal

pub returns : goal.returns
returns c = record {
  course = course below;
  first = λ h. c.numbers_rise.ensures.stay (start_of h.start h.first) h.log h.last 0 h.run (omega arith);
}
  where
    below : Below
    below = record {
      shows = c.logs_show.ensures;
      files = c.numbers_rise.ensures.files;
      order = c.numbers_rise.ensures.order;
      rise = c.numbers_rise.ensures.rise;
      stay = c.numbers_rise.ensures.stay;
      go_on = c.repositories_go_on.ensures;
      one = c.published_files_stay.ensures.one;
      holds = c.published_files_stay.ensures.holds;
      first = c.published_files_stay.ensures.first;
      later = c.published_files_stay.ensures.later;
      free = c.files_are_not_loose.ensures.filelogs;
      own = c.filelogs_stand_apart.ensures.own;
    }
