use Rattle.std.proofs.Common.{Bool, sym, subst}
use Rattle.std.proofs.Math.Logic.{∥∥₁_map}
use Rattle.hgs_session.specs.Calls.{Stage}
use Rattle.hgs_session.specs.Desk.{StandsAt}
use Rattle.hgs_session.proofs.CallLemmas.{made_broken}
use Rattle.hgs_session.proofs.desk.Desk.note.Goals as goal

pub invariant_of-self-in-Break-branch-2 : goal.invariant_of-self-in-Break-branch-2
invariant_of-self-in-Break-branch-2 g c =
    let x = g.N.Naming.begins in
    let desk = c.args.self.now in
    let now : Stage = record { log = g.W.Files.log desk.leader.end; faults = g.W.Reads.faults desk.leader.end; denied = g.W.Reads.denied desk.leader.end } in
    let M : Bool → Type 0 = λ b. ∥ StandsAt x now desk.history c.list.new.published.items desk.unsure b desk.next.items ∥₁ in
    record {
      start = desk.start;
      made = subst M (sym c.requires.broken) (∥∥₁_map desk.made (λ s. made_broken x now desk.history desk.history desk.published.items c.list.new.published.items desk.unsure desk.unsure desk.broken desk.next.items s));
    }
