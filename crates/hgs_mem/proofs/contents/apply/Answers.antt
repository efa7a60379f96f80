use Rattle.std.proofs.Common.{◌≡◌, OnOk, sym, subst}
use Rattle.hgs_files.specs.declared.op.Op.{Op}
use Rattle.hgs_files.specs.Tree.{apply}
use Rattle.hgs_mem.specs.Mem.{tree_of}
use Rattle.hgs_mem.proofs.contents.apply.Goals as goal

pub returns-in-Cut-clause-tree : goal.returns-in-Cut-clause-tree
returns-in-Cut-clause-tree c = subst (λ (o : Op). OnOk c.cut_in.result (tree_of c.cut_in.new.map ≡ apply o (tree_of c.args.map.now))) (sym c.in-Cut.is) c.cut_in.ensures.tree

pub returns-in-Rename-clause-tree : goal.returns-in-Rename-clause-tree
returns-in-Rename-clause-tree c = subst (λ (o : Op). OnOk c.rename_in.result (tree_of c.rename_in.new.map ≡ apply o (tree_of c.args.map.now))) (sym c.in-Rename.is) c.rename_in.ensures.tree
