use Rattle.hgs_loading.specs.Theorems.FoundLemmas.{grows-trans}
use Rattle.hgs_loading.proofs.grown.load_whole_on.Goals as goal

pub returns-in_err-test_either_data-clause-seen : goal.returns-in_err-test_either_data-clause-seen
returns-in_err-test_either_data-clause-seen g c =
    grows-trans (g.R.Reads.seen c.args.files.now) (g.R.Reads.seen c.load_either_log_on.new.files) (g.R.Reads.seen c.test_either_data.new.files) c.in_ok-log.ensures.seen c.in_err-test_either_data.ensures.seen

pub returns-clause-seen : goal.returns-clause-seen
returns-clause-seen g c =
    grows-trans (g.R.Reads.seen c.args.files.now) (g.R.Reads.seen c.load_either_log_on.new.files) (g.R.Reads.seen c.test_either_data.new.files) c.in_ok-log.ensures.seen c.in_ok-test_either_data.ensures.seen
