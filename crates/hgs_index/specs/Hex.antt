-- Nodes as hex digits.
use Rattle.std.specs.Prelude.{ℕ, List, Option, Some, None, Result, Ok, Err, if◌then◌else◌}
use Rattle.hex.specs.Hex.{encode_lower, decode_sized}
use Rattle.hgs_bytes.specs.Bytes.{same}

-- two lower-case digits for each byte
abbrev pub hex : List ℕ → List ℕ
hex = encode_lower

-- the bytes, where these digits are how they are written
abbrev pub written_so : {E : Type 0} → List ℕ → Result (List ℕ) E → Option (List ℕ)
written_so digits (Ok node) = if same digits (hex node) then Some node else None
written_so digits (Err e) = None

-- the 20 bytes that 40 lower-case digits stand for
abbrev pub node_at : List ℕ → Option (List ℕ)
node_at digits = written_so digits (decode_sized digits 20)
