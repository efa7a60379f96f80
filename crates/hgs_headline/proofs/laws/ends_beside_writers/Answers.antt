use Rattle.std.proofs.Common.{[]}
use Rattle.hgs_load.specs.Open.{open_asks}
use Rattle.hgs_load.specs.Refresh.{refresh_asks}
use Rattle.hgs_views.specs.Seen.{IsLoadedBetween, NoneFell, Numbers}
use Rattle.hgs_headline.specs.WritersLog.{course_of}
use Rattle.hgs_headline.proofs.EndLemmas.{front-trans, numbers-from, opened-end, opens-from, refreshed-end}
use Rattle.hgs_headline.proofs.laws.ends_beside_writers.Goals as goal

pub returns : goal.returns
returns c = record {
  opened = λ h told first last r on opens a.
      opened-end (course_of h) (λ from view. (v : Numbers) × IsLoadedBetween (course_of h) from last v view) told first last open_asks
      (λ from y p m. let g = c.loads_beside_writers.ensures.opened h from last y on (opens-from (course_of h) first from last p opens) m in (g.1, g.2, (g.0, g.3))) r a;
  session = λ h told began ended first last v old new r on opens loaded then a.
      refreshed-end (course_of h) (λ from view. (w : Numbers) × IsLoadedBetween (course_of h) from last w view × NoneFell v w) told first last (refresh_asks old)
      (λ from y p m. let g = c.loads_beside_writers.ensures.refreshed h began ended from last v old y on (opens-from (course_of h) first from last p opens) loaded (front-trans ended first from then p) m in (g.1, g.2, (g.0, g.3, g.4))) new r a;
  numbers = λ h front from last v view on p l. numbers-from (course_of h) front from last v view (c.writers_logs_are_courses.ensures.course h [] last on) p l;
}
