use Rattle.std.proofs.Common.{◌≡◌, take}
use Rattle.std.specs.Prelude.{flat_map}
use Rattle.hgs_path.specs.StoreName.{spelled}
use Rattle.hgs_path.proofs.spell.spelled_bytes.Given as goal

abbrev pub invariant-loop-byte : goal.invariant-loop-byte
invariant-loop-byte l = l.out.items ≡ flat_map (spelled l.form) (take l.byte-index l.part)
