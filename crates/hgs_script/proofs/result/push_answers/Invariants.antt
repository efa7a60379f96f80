use Rattle.std.proofs.Common.{◌≡◌, ◌++◌, drop}
use Rattle.hgs_script.specs.Result.{answers_text}
use Rattle.hgs_script.proofs.result.push_answers.Given as goal

abbrev pub invariant-loop-job : goal.invariant-loop-job
invariant-loop-job l = l.into.items ++ answers_text l.worker l.job (drop l.job l.answers) ≡ l.fn.into.items ++ answers_text l.worker 0 l.answers
