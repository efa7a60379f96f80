use Rattle.std.proofs.Common.{◌≡◌, ◌+◌, ◌≤◌, length}
use Rattle.hgs_index.specs.Manifest.{read_manifest}
use Rattle.hgs_manifest.proofs.ReadLemmas.{all_of}
use Rattle.hgs_manifest.proofs.manifest.Manifest.read.Given as goal

abbrev pub invariant-loop-rest : goal.invariant-loop-rest
invariant-loop-rest l = record {
  read : all_of l.manifest l.rest ≡ read_manifest l.text;
  room : length l.manifest + length l.rest ≤ length l.text;
}

abbrev pub decreases-loop-rest : goal.decreases-loop-rest
decreases-loop-rest l = length l.rest
