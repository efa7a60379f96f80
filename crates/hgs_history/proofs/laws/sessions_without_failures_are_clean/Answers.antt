use Rattle.hgs_history.proofs.Clean.{all-clean}
use Rattle.hgs_history.proofs.laws.sessions_without_failures_are_clean.Goals as goal

pub returns : goal.returns
returns c = λ x calls last makes at shares lists faults denied less fewer.
    all-clean x shares c.calls_leave_what_they_answer.ensures.answered c.calls_leave_what_they_answer.ensures.lists c.calls_clean_up.ensures.swept c.calls_clean_up.ensures.held x.first calls last makes at lists faults denied less fewer
