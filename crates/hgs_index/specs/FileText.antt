-- The text of a file revision: a metadata block, which may be missing, and the body.
use Rattle.std.specs.Prelude.{◌≡◌, ℕ, List, [], ◌∷◌, ◌++◌, drop, Option, Some, None, if◌then◌else◌}
use Rattle.hgs_bytes.specs.Bytes.{begins_with}
use Rattle.hgs_bytes.specs.Text.{split_at_two}

-- the bytes that begin and end a block
abbrev pub marker : List ℕ
marker = 1 ∷ 10 ∷ []

-- what stands before the first marker, and after it
abbrev pub split_at_marker : List ℕ → Option (List ℕ × List ℕ)
split_at_marker text = split_at_two 1 10 text

-- the block with both its markers, and the body; where the block has no end, all is the body
abbrev pub with_block : List ℕ → Option (List ℕ × List ℕ) → List ℕ × List ℕ
with_block text None = ([], text)
with_block text (Some p) = (marker ++ p.0 ++ marker, p.1)

-- A whole metadata block: between its two markers no other begins.
abbrev pub IsBlock : List ℕ → Type 0
IsBlock block = (inner : List ℕ) × (split_at_marker inner ≡ None) × (block ≡ marker ++ inner ++ marker)

-- the prefix and the body of a text
abbrev pub unpacked : List ℕ → List ℕ × List ℕ
unpacked text = if begins_with text marker then with_block text (split_at_marker (drop 2 text)) else ([], text)

abbrev pub body_of : List ℕ → List ℕ
body_of text = (unpacked text).1

abbrev pub prefix_of : List ℕ → List ℕ
prefix_of text = (unpacked text).0

-- the prefix of a body that nothing else asks for: an empty block where the body begins with a marker
abbrev pub plain_prefix : List ℕ → List ℕ
plain_prefix body = if begins_with body marker then marker ++ marker else []
