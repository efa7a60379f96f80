use Rattle.std.proofs.Common.{◌≡◌, ◌++◌, drop}
use Rattle.hgs_bytes.specs.Bytes.{IsPrefixOf}
use Rattle.hgs_bytes.specs.Text.{lines}
use Rattle.hgs_changelog.proofs.print.print_lines.Given as goal

abbrev pub invariant-loop-name : goal.invariant-loop-name
invariant-loop-name l = record {
  left : l.into.items ++ lines (drop l.name-index l.names) ≡ l.fn.into.items ++ lines l.names;
  front : IsPrefixOf l.fn.into.items l.into.items;
}
