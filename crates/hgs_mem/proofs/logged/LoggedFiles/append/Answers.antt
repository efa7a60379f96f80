use Rattle.std.proofs.Common.{List, [], ◌∷◌}
use Rattle.hgs_files.specs.declared.op.Op.{Op}
use Rattle.hgs_files.specs.declared.op.Op.TheVariants.{Append}
use Rattle.hgs_files.specs.Log.{IsDone}
use Rattle.hgs_files.specs.Theorems.LogLemmas.{after-done}
use Rattle.hgs_mem.specs.Mem.{tree_of}
use Rattle.hgs_mem.specs.Pieces.{AreSmall}
use Rattle.hgs_mem.proofs.KeptLemmas.{still_kept}
use Rattle.hgs_mem.proofs.logged.LoggedFiles.append.Goals as goal

pub invariant_of-self-clause-kept : goal.invariant_of-self-clause-kept
invariant_of-self-clause-kept c =
    let op = Append c.args.path.now c.args.bytes.now in
    still_kept op (λ (ops : List Op). IsDone (op ∷ []) ops [] × AreSmall c.args.self.now.piece ops) (λ ops s h. after-done (op ∷ []) ops [] s h.0)
    c.append.result (tree_of c.args.self.now.files) (tree_of c.append.new.map) (tree_of c.args.self.now.first.value) c.args.self.now.log.items c.append.new.log.items
    c.append.ensures.ok c.append.ensures.tree c.append.ensures.err c.args.self.now.kept
