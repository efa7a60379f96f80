use Rattle.std.proofs.Common.{List, [], refl}
use Rattle.hgs_files.specs.declared.op.Op.{Op}
use Rattle.hgs_views.specs.Seen.{seen}
use Rattle.hgs_headline.specs.WritersLog.{course_of}
use Rattle.hgs_views.specs.Course.{IsBetween, OpensAlong, ReadsAlong}
use Rattle.hgs_recalled.proofs.CallLemmas.{adds-beside}
use Rattle.hgs_recalled.proofs.laws.kept_texts_beside_writers.Goals as goal

from-none : (first last log : List Op) → IsBetween first last log → IsBetween [] last log
from-none first last log b = record { begins = (log, refl); ends = b.ends }

pub returns : goal.returns
returns c h began ended first last v view rev d texts on opens reads loaded then_first to_end found were =
    let opens_later : OpensAlong (course_of h) first last = λ log b. opens log (from-none first last log b) in
    let reads_later : ReadsAlong (course_of h) first last = λ log b. reads log (from-none first last log b) in
    adds-beside (λ x first last from to question given old new r only p q a. c.calls_that_add_a_text.ensures x first from to last question given old new r only p q a) (course_of h) first last texts view (seen (course_of h) v) rev
    (c.kept_texts_answer_alike.ensures (course_of h) [] began ended first last v view rev d texts (c.writers_logs_are_courses.ensures.course h [] last on) opens reads loaded (began, refl) then_first to_end found were) d
    (c.views_beside_writers.ensures.tells h began ended first last v view rev d on opens_later reads_later loaded then_first to_end found)
