use Rattle.std.specs.BTreeMap.{get}
use Rattle.std.specs.Cmp.Lexicographic.{slice_cmp}
use Rattle.std.specs.Ordering.{nat_cmp}
use Rattle.hgs_revlog.specs.Places.{chained}
use Rattle.hgs_revlog.proofs.PlacesLemmas.{put_one}
use Rattle.hgs_revlog.proofs.places.Places.put.Goals as goal

pub returns-clause-ok : goal.returns-clause-ok
returns-clause-ok c entries q none =
    put_one c.args.node c.args.rev (chained c.args.self.now entries) (get (slice_cmp nat_cmp) c.args.self.now.since) (get (slice_cmp nat_cmp) c.insert.new.self) c.in_ok-insert.ensures.updates.0 none q
