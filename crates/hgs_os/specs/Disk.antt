-- What ends over a disk tell.
use Rattle.std.specs.Prelude.{List, Option, None}
use Rattle.hgs_files.specs.declared.op.Op.{Op}
use Rattle.hgs_files.specs.Tree.{Tree}

-- no list of operations
abbrev pub untold : Option (List Op)
untold = None

-- nor a tree that they start from
abbrev pub untold_start : Tree
untold_start path = None
