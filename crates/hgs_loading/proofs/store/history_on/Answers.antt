use Rattle.hgs_loading.specs.Theorems.FoundLemmas.{grows-trans}
use Rattle.hgs_loading.proofs.store.history_on.Goals as goal

pub returns-in_err-logs-clause-seen : goal.returns-in_err-logs-clause-seen
returns-in_err-logs-clause-seen g c =
    grows-trans (g.R.Reads.seen c.args.files.now) (g.R.Reads.seen c.read_small.new.files) (g.R.Reads.seen c.load_logs_on.new.files) c.in_ok-small.ensures.seen c.in_err-logs.ensures.seen

pub returns-in-Ok-clause-seen : goal.returns-in-Ok-clause-seen
returns-in-Ok-clause-seen g c =
    grows-trans (g.R.Reads.seen c.args.files.now) (g.R.Reads.seen c.read_small.new.files) (g.R.Reads.seen c.load_logs_on.new.files) c.in_ok-small.ensures.seen c.in_ok-logs.ensures.seen

pub returns-in-Err-clause-seen : goal.returns-in-Err-clause-seen
returns-in-Err-clause-seen g c =
    grows-trans (g.R.Reads.seen c.args.files.now) (g.R.Reads.seen c.read_small.new.files) (g.R.Reads.seen c.load_logs_on.new.files) c.in_ok-small.ensures.seen c.in_ok-logs.ensures.seen
