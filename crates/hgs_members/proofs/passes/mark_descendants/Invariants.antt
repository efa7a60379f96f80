use Rattle.std.proofs.Common.{◌≡◌, length}
use Rattle.hgs_index.specs.Revision.{ParentsBefore}
use Rattle.hgs_members.proofs.PassLemmas.{Descended}
use Rattle.hgs_members.proofs.passes.mark_descendants.Given as goal

abbrev pub invariant-loop-rev : goal.invariant-loop-rev
invariant-loop-rev l = (length l.members ≡ length l.history) × (ParentsBefore 0 l.history → Descended l.rev l.history l.fn.members l.members)
