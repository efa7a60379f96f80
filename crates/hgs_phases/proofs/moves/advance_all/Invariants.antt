use Rattle.std.proofs.Common.{◌+◌}
use Rattle.hgs_phases.specs.Phases.{history_of}
use Rattle.hgs_phases.specs.Theorems.AdvanceLemmas.{Lowered}
use Rattle.hgs_phases.proofs.moves.advance_all.Given as goal

abbrev pub invariant-loop-ancestor : goal.invariant-loop-ancestor
invariant-loop-ancestor l = Lowered (l.ancestor + 1) (history_of l.known.entries) l.rev l.to l.fn.phases.items l.phases.items l.marks.items
