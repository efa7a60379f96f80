use Rattle.std.proofs.Common.{◌≡◌, ◌++◌, drop}
use Rattle.hgs_bytes.specs.Bytes.{IsPrefixOf}
use Rattle.hgs_index.specs.Manifest.{manifest_text}
use Rattle.hgs_manifest.proofs.manifest.Manifest.print.Given as goal

abbrev pub invariant-loop-i : goal.invariant-loop-i
invariant-loop-i l = record {
  left : l.into.items ++ manifest_text (drop l.i l.self) ≡ l.fn.into.items ++ manifest_text l.self;
  front : IsPrefixOf l.fn.into.items l.into.items;
}
