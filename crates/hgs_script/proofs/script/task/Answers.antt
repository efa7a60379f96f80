use Rattle.std.proofs.Common.{◌∙◌, sym, rules}
use Rattle.hgs_script.proofs.ReadLemmas.{task_is}
use Rattle.hgs_script.proofs.script.task.Goals as goal

pub returns : goal.returns
returns c =
    task_is c.args.workers.now c.args.input.now c.in_ok-line.rest c.job.new.input c.in_ok-line.line.now c.in-Some.said.now c.in-Some.worker c.in_ok-job.job (search rules) (sym c.equal.ensures ∙ c.if-equal.false) (search rules) (search rules)
