use Rattle.hgs_index.specs.Theorems.AppendLemmas.{front_grows}
use Rattle.hgs_manifest.proofs.PrintLemmas.{one_more}
use Rattle.hgs_manifest.proofs.manifest.Manifest.print.Goals as goal

pub loop-i-preserved : goal.loop-i-preserved
loop-i-preserved c = record {
  left = one_more _ _ _ _ _ _ c.row.ensures c.in-Ok.ensures.ok c.loop-i.invariant.left;
  front = front_grows _ _ _ _ c.loop-i.invariant.front c.in-Ok.ensures.ok;
}
