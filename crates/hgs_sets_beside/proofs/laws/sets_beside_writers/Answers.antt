use Rattle.hgs_headline.specs.WritersLog.{course_of}
use Rattle.hgs_members.specs.Story.{story_of}
use Rattle.hgs_revset.specs.Members.{story_of_repo}
use Rattle.hgs_views.specs.Seen.{seen}
use Rattle.hgs_sets_beside.proofs.BesideLemmas.{Laws, alike, before, printed}
use Rattle.hgs_sets_beside.proofs.laws.sets_beside_writers.Goals as goal

pub returns-clause-alike : goal.returns-clause-alike
returns-clause-alike c =
    let laws : Laws = record {
      course = c.writers_logs_are_courses.ensures.course;
      repository = λ h first last v view front loaded. (c.views_beside_writers.ensures.shown h first last v view front loaded).0;
      names = λ h first last v view front loaded. (c.views_beside_writers.ensures.shown h first last v view front loaded).1;
      marks = c.older_parts_stay.ensures.bookmarks;
      tells = c.views_tell_repositories.ensures.view;
      text = c.members_of_alike.ensures.text;
    } in
    alike laws

pub returns-clause-members : goal.returns-clause-members
returns-clause-members c =
    let laws : Laws = record {
      course = c.writers_logs_are_courses.ensures.course;
      repository = λ h first last v view front loaded. (c.views_beside_writers.ensures.shown h first last v view front loaded).0;
      names = λ h first last v view front loaded. (c.views_beside_writers.ensures.shown h first last v view front loaded).1;
      marks = c.older_parts_stay.ensures.bookmarks;
      tells = c.views_tell_repositories.ensures.view;
      text = c.members_of_alike.ensures.text;
    } in
    λ h first last v view a rev front loaded. c.members_of_alike.ensures.members (story_of view) (story_of_repo (seen (course_of h) v)) a rev (alike laws h first last v view front loaded)

pub returns-clause-before : goal.returns-clause-before
returns-clause-before c =
    let laws : Laws = record {
      course = c.writers_logs_are_courses.ensures.course;
      repository = λ h first last v view front loaded. (c.views_beside_writers.ensures.shown h first last v view front loaded).0;
      names = λ h first last v view front loaded. (c.views_beside_writers.ensures.shown h first last v view front loaded).1;
      marks = c.older_parts_stay.ensures.bookmarks;
      tells = c.views_tell_repositories.ensures.view;
      text = c.members_of_alike.ensures.text;
    } in
    before laws

pub returns-clause-text : goal.returns-clause-text
returns-clause-text c =
    let laws : Laws = record {
      course = c.writers_logs_are_courses.ensures.course;
      repository = λ h first last v view front loaded. (c.views_beside_writers.ensures.shown h first last v view front loaded).0;
      names = λ h first last v view front loaded. (c.views_beside_writers.ensures.shown h first last v view front loaded).1;
      marks = c.older_parts_stay.ensures.bookmarks;
      tells = c.views_tell_repositories.ensures.view;
      text = c.members_of_alike.ensures.text;
    } in
    λ h first last v view a text front loaded. printed laws h first last v view front loaded a text
