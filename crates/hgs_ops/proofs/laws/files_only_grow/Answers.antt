use Rattle.hgs_ops.proofs.BeginsLemmas.{grown}
use Rattle.hgs_ops.proofs.StayingFiles.{before-stays, behind-stays}
use Rattle.hgs_ops.proofs.laws.files_only_grow.Goals as goal

pub returns : goal.returns
returns c = record {
  covered = λ u q path covers. grown u q covers path;
  before = before-stays;
  behind = behind-stays;
}
