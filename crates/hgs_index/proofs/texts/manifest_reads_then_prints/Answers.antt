use Rattle.hgs_index.specs.Theorems.ManifestText.{manifest_found}
use Rattle.hgs_index.proofs.texts.manifest_reads_then_prints.Goals as goal

pub returns : goal.returns
returns c = manifest_found
