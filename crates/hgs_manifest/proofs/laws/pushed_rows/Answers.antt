use Rattle.hgs_manifest.proofs.PushLemmas.{pushed-rows}
use Rattle.hgs_manifest.proofs.laws.pushed_rows.Goals as goal

pub returns : goal.returns
returns c = pushed-rows
