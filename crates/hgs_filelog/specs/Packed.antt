-- File texts as they are made and taken apart.
use Rattle.std.specs.Prelude.{◌≡◌, ℕ, List, ◌++◌, Option, Some, None, take, drop}
use Rattle.hgs_index.specs.FileText.{marker, split_at_marker, plain_prefix}
use Rattle.hgs_index.specs.declared.kinds.Span.{Span}

-- the block that is written before a body
abbrev pub block_of : Option (List ℕ) → List ℕ → List ℕ
block_of None body = plain_prefix body
block_of (Some meta) body = marker ++ (meta ++ marker)

-- the text that is written: the block and the body
abbrev pub packed : Option (List ℕ) → List ℕ → List ℕ
packed meta body = block_of meta body ++ body

-- the bytes at a place of a text
abbrev pub bytes_in : List ℕ → Span → List ℕ
bytes_in text s = take s.len (drop s.from text)

-- no marker stands in what stands between the two of a block
abbrev pub HasNoMarker : Option (List ℕ) → Type 0
HasNoMarker None = Unit {0}
HasNoMarker (Some meta) = split_at_marker meta ≡ None
