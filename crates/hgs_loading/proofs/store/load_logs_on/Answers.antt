use Rattle.hgs_loading.specs.Theorems.FoundLemmas.{grows-trans}
use Rattle.hgs_loading.proofs.store.load_logs_on.Goals as goal

pub returns-in_err-manifest-clause-seen : goal.returns-in_err-manifest-clause-seen
returns-in_err-manifest-clause-seen g c =
    grows-trans (g.R.Reads.seen c.args.files.now) (g.R.Reads.seen c.load_whole_on.new.files) (g.R.Reads.seen c.load_whole_on-2.new.files) c.in_ok-changelog.ensures.seen c.in_err-manifest.ensures.seen

pub returns-clause-seen : goal.returns-clause-seen
returns-clause-seen g c =
    grows-trans (g.R.Reads.seen c.args.files.now) (g.R.Reads.seen c.load_whole_on.new.files) (g.R.Reads.seen c.load_whole_on-2.new.files) c.in_ok-changelog.ensures.seen c.in_ok-manifest.ensures.seen
