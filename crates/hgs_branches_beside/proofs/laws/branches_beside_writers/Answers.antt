use Rattle.hgs_load.specs.Theorems.AskLemmas.{prefix-trans}
use Rattle.hgs_branches_beside.proofs.BesideLemmas.{Laws, advanced, refreshed, told}
use Rattle.hgs_branches_beside.proofs.laws.branches_beside_writers.Goals as goal

pub returns-clause-advanced : goal.returns-clause-advanced
returns-clause-advanced c =
    let laws : Laws = record {
      course = c.writers_logs_are_courses.ensures.course;
      committed = c.views_beside_writers.ensures.committed;
      count = λ h first last v view front loaded. (c.views_beside_writers.ensures.shown h first last v view front loaded).2;
      nodes = λ h first last v view front loaded. (c.views_beside_writers.ensures.shown h first last v view front loaded).3;
      before = λ h first last v view front loaded. (c.views_beside_writers.ensures.shown h first last v view front loaded).0.parents;
    } in
    λ h began ended first last v view count changes end opens reads loaded from to all. advanced laws h began ended first last v view end opens reads loaded from to (prefix-trans ended first h.log from (prefix-trans first last h.log to end)) count changes all

pub returns-clause-refreshed : goal.returns-clause-refreshed
returns-clause-refreshed c =
    let laws : Laws = record {
      course = c.writers_logs_are_courses.ensures.course;
      committed = c.views_beside_writers.ensures.committed;
      count = λ h first last v view front loaded. (c.views_beside_writers.ensures.shown h first last v view front loaded).2;
      nodes = λ h first last v view front loaded. (c.views_beside_writers.ensures.shown h first last v view front loaded).3;
      before = λ h first last v view front loaded. (c.views_beside_writers.ensures.shown h first last v view front loaded).0.parents;
    } in
    refreshed laws

pub returns-clause-told : goal.returns-clause-told
returns-clause-told c =
    let laws : Laws = record {
      course = c.writers_logs_are_courses.ensures.course;
      committed = c.views_beside_writers.ensures.committed;
      count = λ h first last v view front loaded. (c.views_beside_writers.ensures.shown h first last v view front loaded).2;
      nodes = λ h first last v view front loaded. (c.views_beside_writers.ensures.shown h first last v view front loaded).3;
      before = λ h first last v view front loaded. (c.views_beside_writers.ensures.shown h first last v view front loaded).0.parents;
    } in
    told laws
