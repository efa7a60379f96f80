use Rattle.hgs_headline.specs.WritersLog.{course_of}
use Rattle.hgs_headline.proofs.laws.loads_beside_writers.Goals as goal

pub returns : goal.returns
returns c = record {
  opened = λ h first last y on opens m. c.loads_answer_views.ensures (course_of h) first last y (c.writers_logs_are_courses.ensures.course h first last on) opens m;
  refreshed = λ h began ended first last v old y on opens loaded then m. c.refreshes_answer_views.ensures (course_of h) began ended first last v old y (c.writers_logs_are_courses.ensures.course h began last on) opens loaded then m;
}
