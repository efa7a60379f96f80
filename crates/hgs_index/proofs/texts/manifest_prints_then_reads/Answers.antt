use Rattle.hgs_index.specs.Theorems.ManifestText.{manifest_back}
use Rattle.hgs_index.proofs.texts.manifest_prints_then_reads.Goals as goal

pub returns : goal.returns
returns c = manifest_back
