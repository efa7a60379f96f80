use Rattle.std.proofs.Common.{rules, ◌≡◌, vec_len, length}
use Rattle.hgs_session.proofs.EndLemmas.{kept_of}
use Rattle.hgs_session.proofs.close.Gathered.keep.Goals as goal

pub returns-clause-whole : goal.returns-clause-whole
returns-clause-whole g c =
    let count : vec_len c.args.self.now.replies ≡ length c.args.self.now.replies.items = search rules in
    λ is. kept_of (λ r. record { told = (g.R.Reads.ties r).told; seen = g.R.Reads.seen r; faults = g.R.Reads.faults r; denied = g.R.Reads.denied r }) g.N.Naming.begins c.args.history.now (vec_len c.args.self.now.replies) c.args.self.now.ends.items c.push.new.self.items c.args.end c.args.self.now.replies.items c.push-2.new.self.items c.args.answers
    count c.in-Ok.ensures.items c.in-Ok-push.ensures.items c.requires.ended c.requires.whole
