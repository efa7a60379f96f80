use Rattle.std.proofs.Common.{◌≡◌, ◌++◌, drop}
use Rattle.hgs_bytes.specs.Bytes.{IsPrefixOf}
use Rattle.hgs_reader.specs.Contents.{files_text}
use Rattle.hgs_reader.proofs.contents.add_files.Given as goal

abbrev pub invariant-loop-i : goal.invariant-loop-i
invariant-loop-i l = record {
  left : l.into.items ++ files_text (drop l.i l.manifest) ≡ l.fn.into.items ++ files_text l.manifest;
  front : IsPrefixOf l.fn.into.items l.into.items;
}
