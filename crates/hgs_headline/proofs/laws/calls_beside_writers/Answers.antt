use Rattle.hgs_views.specs.Seen.{seen}
use Rattle.hgs_headline.specs.WritersLog.{course_of}
use Rattle.hgs_headline.proofs.CallLemmas.{adds-committed}
use Rattle.hgs_headline.proofs.laws.calls_beside_writers.Goals as goal

pub returns : goal.returns
returns c = record {
  opened = λ h first last r on opens a. c.calls_of_open.ensures (course_of h) first last r (c.writers_logs_are_courses.ensures.course h first last on) opens a;
  refreshed = λ h began ended first last v old r on opens loaded then a. c.calls_of_refresh.ensures (course_of h) began ended first last v old r (c.writers_logs_are_courses.ensures.course h began last on) opens loaded then a;
  session = λ h began ended first last v old new r on opens loaded then a. c.sessions_do_not_fall_back.ensures (course_of h) began ended first last v old new r (c.writers_logs_are_courses.ensures.course h began last on) opens loaded then a;
  committed = λ h began ended first last v view rev d on opens reads loaded then follows found. adds-committed c.calls_that_add_a_text.ensures (course_of h) first last view (seen (course_of h) v) rev d (c.views_beside_writers.ensures.tells h began ended first last v view rev d on opens reads loaded then follows found);
}
