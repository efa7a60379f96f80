use Rattle.std.proofs.Common.{false}
use Rattle.std.specs.Prelude.{◌==◌, length, replicate, slice_index_or}
use Rattle.hgs_model.specs.declared.phase.Phase.TheVariants.{Public}
use Rattle.hgs_model.specs.Phase.{phase_number}
use Rattle.hgs_members.proofs.EachLemmas.{Changed}
use Rattle.hgs_members.proofs.members.Members.in_phase.Given as goal

abbrev pub invariant-loop-rev : goal.invariant-loop-rev
invariant-loop-rev l = Changed false l.rev (λ i. phase_number (slice_index_or l.phases i Public) == phase_number l.phase) (replicate (length l.phases) false) l.members
