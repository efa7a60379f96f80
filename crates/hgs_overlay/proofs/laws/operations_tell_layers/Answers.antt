use Rattle.hgs_overlay.proofs.LayerLemmas.{layers_by_ops}
use Rattle.hgs_overlay.proofs.laws.operations_tell_layers.Goals as goal

pub returns : goal.returns
returns c = layers_by_ops
