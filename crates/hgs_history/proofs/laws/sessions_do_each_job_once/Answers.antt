use Rattle.std.proofs.Common.{[], refl}
use Rattle.hgs_history.specs.Once.{one_if_failed}
use Rattle.hgs_history.proofs.Counted.{question-weighs}
use Rattle.hgs_history.proofs.Entries.{all-listed, own-entries}
use Rattle.hgs_history.proofs.Once.{session-calls}
use Rattle.hgs_history.proofs.laws.sessions_do_each_job_once.Goals as goal

pub returns : goal.returns
returns c = record {
  once = λ x calls last states result is. session-calls one_if_failed (question-weighs one_if_failed refl refl refl refl refl refl refl refl refl) x calls states result.replies is.all is.workers is.replies;
  listed = λ x calls last makes first. all-listed x x.first calls last [] first makes;
  own = λ worker calls. own-entries worker calls;
}
