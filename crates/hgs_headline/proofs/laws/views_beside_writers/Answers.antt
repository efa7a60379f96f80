use Rattle.hgs_headline.specs.WritersLog.{course_of}
use Rattle.hgs_headline.proofs.laws.views_beside_writers.Goals as goal

pub returns : goal.returns
returns c = record {
  committed = λ h began ended first last v view rev d on opens reads loaded then follows found. c.contents_of_views.ensures (course_of h) began ended first last v view rev d (c.writers_logs_are_courses.ensures.course h began last on) opens reads loaded then follows found;
  shown = λ h first last v view on loaded. (let s = c.views_show_repositories.ensures (course_of h) first last v view (c.writers_logs_are_courses.ensures.course h first last on) loaded in (s.0, s.2, s.3, s.4));
  says = λ h first last v view on loaded. c.views_tell_their_repository.ensures.says (course_of h) first last v view (c.writers_logs_are_courses.ensures.course h first last on) loaded;
  tells = λ h began ended first last v view rev d on opens reads loaded then follows found. c.views_tell_their_repository.ensures.tells (course_of h) began ended first last v view rev d (c.writers_logs_are_courses.ensures.course h began last on) opens reads loaded then follows found;
}
