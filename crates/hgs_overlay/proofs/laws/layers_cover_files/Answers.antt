use Rattle.hgs_overlay.proofs.LayerLemmas.{layers_at}
use Rattle.hgs_overlay.proofs.laws.layers_cover_files.Goals as goal

pub returns : goal.returns
returns c = layers_at
