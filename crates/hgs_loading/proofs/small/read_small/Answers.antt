use Rattle.hgs_loading.specs.Theorems.FoundLemmas.{grows-trans}
use Rattle.hgs_loading.proofs.small.read_small.Goals as goal

pub returns-in_err-dirstate-clause-seen : goal.returns-in_err-dirstate-clause-seen
returns-in_err-dirstate-clause-seen g c =
    grows-trans (g.R.Reads.seen c.args.files.now) (g.R.Reads.seen c.read_bookmarks.new.files) (g.R.Reads.seen c.read_dirstate.new.files) c.in_ok-bookmarks.ensures.seen c.in_err-dirstate.ensures.seen

pub returns-in_err-fncache-clause-seen : goal.returns-in_err-fncache-clause-seen
returns-in_err-fncache-clause-seen g c =
    grows-trans (g.R.Reads.seen c.args.files.now) (g.R.Reads.seen c.read_bookmarks.new.files) (g.R.Reads.seen c.read_fncache.new.files) c.in_ok-bookmarks.ensures.seen
    (grows-trans (g.R.Reads.seen c.read_bookmarks.new.files) (g.R.Reads.seen c.read_dirstate.new.files) (g.R.Reads.seen c.read_fncache.new.files) c.in_ok-dirstate.ensures.seen
    (grows-trans (g.R.Reads.seen c.read_dirstate.new.files) (g.R.Reads.seen c.read_roots.new.files) (g.R.Reads.seen c.read_fncache.new.files) c.in_ok-roots.ensures.seen c.in_err-fncache.ensures.seen))

pub returns-clause-seen : goal.returns-clause-seen
returns-clause-seen g c =
    grows-trans (g.R.Reads.seen c.args.files.now) (g.R.Reads.seen c.read_bookmarks.new.files) (g.R.Reads.seen c.read_fncache.new.files) c.in_ok-bookmarks.ensures.seen
    (grows-trans (g.R.Reads.seen c.read_bookmarks.new.files) (g.R.Reads.seen c.read_dirstate.new.files) (g.R.Reads.seen c.read_fncache.new.files) c.in_ok-dirstate.ensures.seen
    (grows-trans (g.R.Reads.seen c.read_dirstate.new.files) (g.R.Reads.seen c.read_roots.new.files) (g.R.Reads.seen c.read_fncache.new.files) c.in_ok-roots.ensures.seen c.in_ok-fncache.ensures.seen))
