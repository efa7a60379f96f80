-- Files in memory that never fail, as contracts see them.
use Rattle.std.specs.Prelude.{List}
use Rattle.hgs_files.specs.declared.op.Op.{Op}
use Rattle.hgs_files.specs.Tree.{Tree, after_all}
use Rattle.hgs_mem.specs.Mem.{tree_of}
use Rattle.hgs_mem.specs.declared.steady.SteadyFiles.{SteadyFiles}

-- the operations done since the start
abbrev pub steady_log : SteadyFiles → List Op
steady_log m = m.kept.log.items

-- the tree at the start
abbrev pub steady_start : SteadyFiles → Tree
steady_start m = tree_of m.kept.first.value

-- the tree now
abbrev pub steady_tree : SteadyFiles → Tree
steady_tree m = after_all (steady_log m) (steady_start m)
