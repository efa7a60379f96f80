use Rattle.hgs_judge.specs.Kinds.{namings_in}
use Rattle.hgs_judge.proofs.KindsLemmas.{KindsSoFar}
use Rattle.hgs_judge.proofs.kinds.judge.Given as goal

abbrev pub invariant-loop-rev : goal.invariant-loop-rev
invariant-loop-rev l = KindsSoFar (namings_in l.namings) l.parents l.links l.kinds.items l.latest l.rev
