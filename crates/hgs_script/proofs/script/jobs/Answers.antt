use Rattle.std.proofs.Common.{Ok, Some, ◌∙◌, ap, arith, rules, length}
use Rattle.hgs_script.proofs.ReadLemmas.{task_refused, jobs_end, task_more, task_fewer, task_there}
use Rattle.hgs_script.proofs.script.jobs.Goals as goal

pub returns-in_err-worker : goal.returns-in_err-worker
returns-in_err-worker c =
    let refused = task_refused (length c.loop-workers.input.bytes) c.loop-workers.workers c.loop-workers.input c.in_err-worker.field-0.0 _ (omega arith) c.loop-workers.invariant c.in_err-worker.ensures in
    search (rules, refused)

pub push-requires : goal.push-requires
push-requires c = task_there c.loop-workers.workers c.loop-workers.input (c.in-Some.worker, c.in-Some.job) c.task.new.input (c.in_ok-worker.ensures ∙ ap (λ t. Ok (t, c.task.new.input)) c.in-Some.is)

pub loop-workers-smaller : goal.loop-workers-smaller
loop-workers-smaller c =
    task_fewer c.records_stand_in_front.ensures.is c.loop-workers.workers c.loop-workers.input (Some (c.in-Some.worker, c.in-Some.job), c.task.new.input) (c.in_ok-worker.ensures ∙ ap (λ t. Ok (t, c.task.new.input)) c.in-Some.is)

pub loop-workers-preserved : goal.loop-workers-preserved
loop-workers-preserved c =
    task_more c.records_stand_in_front.ensures.is (length c.loop-workers.input.bytes) (length c.task.new.input.bytes) c.loop-workers.workers c.push.new.self (c.in-Some.worker, c.in-Some.job) c.loop-workers.input c.task.new.input _
    (omega arith) (omega arith) c.loop-workers.invariant (c.in_ok-worker.ensures ∙ ap (λ t. Ok (t, c.task.new.input)) c.in-Some.is) c.in_ok-push.ensures

pub returns : goal.returns
returns c =
    jobs_end c.records_stand_in_front.ensures.is (length c.loop-workers.input.bytes) c.loop-workers.workers c.loop-workers.input c.task.new.input _ (omega arith) c.loop-workers.invariant
    (c.in_ok-worker.ensures ∙ ap (λ t. Ok (t, c.task.new.input)) c.in_default.is)
