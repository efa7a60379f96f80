use Rattle.std.proofs.Common.{◌≡◌, map, true}
use Rattle.std.specs.Prelude.{All}
use Rattle.hgs_session.specs.Session.{EndedFrom}
use Rattle.hgs_session.proofs.close.gather.Given as goal

abbrev pub invariant-loop-worker : goal.invariant-loop-worker
invariant-loop-worker g l =
    All (λ r. (g.R.Reads.ties r).home ≡ g.N.Naming.home) l.gathered.ends.items
    × (l.gathered.whole ≡ true → ∥ EndedFrom g.N.Naming.begins 0 l.history (map (λ r. record { told = (g.R.Reads.ties r).told; seen = g.R.Reads.seen r; faults = g.R.Reads.faults r; denied = g.R.Reads.denied r }) l.gathered.ends.items) l.gathered.replies.items ∥₁)
