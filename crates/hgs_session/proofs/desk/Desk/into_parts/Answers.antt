use Rattle.std.proofs.Common.{sym, subst}
use Rattle.std.proofs.Math.Logic.{∥∥₁_map}
use Rattle.hgs_session.specs.Desk.{HasMade}
use Rattle.hgs_session.proofs.desk.Desk.into_parts.Goals as goal

pub invariant_of-result-clause-made : goal.invariant_of-result-clause-made
invariant_of-result-clause-made g c =
    let desk = c.args.self in
    subst (λ w. ∥ HasMade g.N.Naming.begins (record { log = g.W.Files.log w; faults = g.W.Reads.faults w; denied = g.W.Reads.denied w }) desk.history desk.published.items desk.unsure desk.broken ∥₁) (sym c.into_end.ensures.end)
    (∥∥₁_map desk.made (λ s. s.made))
