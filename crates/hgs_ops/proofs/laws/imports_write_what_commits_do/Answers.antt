use Rattle.hgs_ops.proofs.ImportSteps.{one-writes, steps-enter, steps-grow, steps-ready, steps-unhindered, steps-write}
use Rattle.hgs_ops.proofs.laws.imports_write_what_commits_do.Goals as goal

pub returns : goal.returns
returns c = record {
  unhindered = steps-unhindered;
  ready = steps-ready;
  bytes = steps-write;
  one = one-writes;
  growth = steps-grow;
  entries = steps-enter;
}
