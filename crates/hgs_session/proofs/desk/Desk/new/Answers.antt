use Rattle.hgs_session.proofs.CallLemmas.{begins_at}
use Rattle.hgs_session.proofs.desk.Desk.new.Goals as goal

pub invariant_of-result-clause-made : goal.invariant_of-result-clause-made
invariant_of-result-clause-made g c =
    let w = c.args.leader.end in
    let r = c.requires in
    ∣ begins_at g.N.Naming.begins (record { log = g.W.Files.log w; faults = g.W.Reads.faults w; denied = g.W.Reads.denied w }) c.args.history c.args.room.items c.args.next.items r.log r.faults r.denied r.history r.room ∣₁
