use Rattle.hgs_overlay.proofs.LayerLemmas.{on_ok, replaced}
use Rattle.hgs_overlay.proofs.layers.Layers.replace.Goals as goal

pub returns-clause-tree : goal.returns-clause-tree
returns-clause-tree c =
    on_ok c.put.result _ _ (replaced c.args.self.now.laid c.put.new.self.laid c.args.self.now.ordered c.put.new.self.ordered c.args.path.now c.args.bytes) c.put.ensures.at
