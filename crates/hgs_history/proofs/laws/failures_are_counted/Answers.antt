use Rattle.std.proofs.Common.{refl, arith}
use Rattle.hgs_files.specs.Reads.{greatest}
use Rattle.hgs_session.specs.Session.{EndState}
use Rattle.hgs_history.specs.Once.{one_if_failed, one_if_faulted}
use Rattle.hgs_history.proofs.Counted.{calls-fail, calls-fault, question-weighs}
use Rattle.hgs_history.proofs.Keyed.{total-from}
use Rattle.hgs_history.proofs.Once.{session-weighs}
use Rattle.hgs_history.proofs.laws.failures_are_counted.Goals as goal

pub returns : goal.returns
returns c = record {
  failed = λ x calls last states result faults denied makes is counts less fewer.
      (let f = counts.faults_are in
      let d = counts.denied_are in
      let total = total-from greatest (λ (s : EndState). s.faults) 0 states (omega arith) (omega (arith, f, less)) in
      let w = session-weighs one_if_failed (question-weighs one_if_failed refl refl refl refl refl refl refl refl refl) x calls states result.replies is.all is.workers is.replies (omega (arith, f, less, total)) in
      let m = calls-fail x x.first calls last makes (omega (arith, f, less)) (omega (arith, d, fewer)) in
      omega (arith, f, d, less, fewer, total, w, m));
  faulted = λ x calls last states result faults denied makes is counts less.
      (let f = counts.faults_are in
      let total = total-from greatest (λ (s : EndState). s.faults) 0 states (omega arith) (omega (arith, f, less)) in
      let w = session-weighs one_if_faulted (question-weighs one_if_faulted refl refl refl refl refl refl refl refl refl) x calls states result.replies is.all is.workers is.replies (omega (arith, f, less, total)) in
      let m = calls-fault x x.first calls last makes (omega (arith, f, less)) in
      omega (arith, f, less, total, w, m));
}
