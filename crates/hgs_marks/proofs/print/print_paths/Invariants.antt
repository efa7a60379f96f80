use Rattle.std.proofs.Common.{◌≡◌, ◌++◌, drop}
use Rattle.hgs_bytes.specs.Bytes.{IsPrefixOf}
use Rattle.hgs_marks.specs.Dirstate.{paths_text}
use Rattle.hgs_marks.proofs.print.print_paths.Given as goal

abbrev pub invariant-loop-path : goal.invariant-loop-path
invariant-loop-path l = record {
  left : l.into.items ++ paths_text (drop l.path-index l.paths) ≡ l.fn.into.items ++ paths_text l.paths;
  front : IsPrefixOf l.fn.into.items l.into.items;
}
