use Rattle.std.proofs.Common.{[], sym, append-nil}
use Rattle.hgs_headline.specs.WritersLog.{course_of}
use Rattle.hgs_headline.proofs.laws.changelogs_keep_form.Goals as goal

pub returns : goal.returns
returns c h front log on to some =
    c.changelogs_keep_their_form.ensures (course_of h) front log log (c.writers_logs_are_courses.ensures.course h front log to) some (record { begins = on; ends = ([], sym (append-nil log)) })
