use Rattle.hgs_phases.specs.Phases.{history_of}
use Rattle.hgs_phases.proofs.RetractLemmas.{Raised}
use Rattle.hgs_phases.proofs.moves.retract_all.Given as goal

abbrev pub invariant-loop-child : goal.invariant-loop-child
invariant-loop-child l = Raised l.child (history_of l.known.entries) l.rev l.to l.fn.phases.items l.phases.items l.marks.items
