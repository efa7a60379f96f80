use Rattle.std.proofs.Common.{[], ◌∷◌, length}
use Rattle.hgs_files.specs.declared.op.Op.TheVariants.{Append}
use Rattle.hgs_files.specs.Log.{IsDone}
use Rattle.hgs_mem.specs.Pieces.{AreSmall}
use Rattle.hgs_mem.proofs.pieces.appends.Given as goal

abbrev pub invariant-loop-ops : goal.invariant-loop-ops
invariant-loop-ops l = record {
  done : IsDone (Append l.path l.bytes ∷ []) l.ops.items (Append l.path l.rest ∷ []);
  small : AreSmall l.most l.ops.items;
}

abbrev pub decreases-loop-ops : goal.decreases-loop-ops
decreases-loop-ops l = length l.rest
