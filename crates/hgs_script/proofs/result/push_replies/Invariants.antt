use Rattle.std.proofs.Common.{◌≡◌, ◌++◌, drop}
use Rattle.hgs_script.specs.Result.{replies_text}
use Rattle.hgs_script.proofs.result.push_replies.Given as goal

abbrev pub invariant-loop-worker : goal.invariant-loop-worker
invariant-loop-worker l = l.into.items ++ replies_text l.worker (drop l.worker l.replies) ≡ l.fn.into.items ++ replies_text 0 l.replies
