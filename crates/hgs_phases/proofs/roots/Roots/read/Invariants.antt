use Rattle.std.proofs.Common.{◌≡◌, ◌+◌, ◌≤◌, length}
use Rattle.hgs_phases.specs.Roots.{read_roots}
use Rattle.hgs_phases.proofs.RootsLemmas.{all_of}
use Rattle.hgs_phases.proofs.roots.Roots.read.Given as goal

abbrev pub invariant-loop-rest : goal.invariant-loop-rest
invariant-loop-rest l = record {
  read : all_of l.roots.items l.number l.rest ≡ read_roots l.text;
  room : l.number + length l.rest ≤ length l.text;
}

abbrev pub decreases-loop-rest : goal.decreases-loop-rest
decreases-loop-rest l = length l.rest
