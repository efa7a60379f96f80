-- The bytes of a revlog that was read, and which are refused.
use Rattle.std.specs.Prelude.{◌≡◌, ◌&&◌, ℕ, List, [], Bool, false, length, nat_lt, unwrap_or}
use Rattle.hgs_files.specs.Tree.{Tree, bytes_at}
use Rattle.hgs_index.specs.Inline.{is_inline}
use Rattle.hgs_load.specs.Form.{most_inline_index}
use Rattle.hgs_stands.specs.Places.{changelog_index, manifest_index}
use Rattle.hgs_verify.specs.declared.revlog.Parts.{Parts}

-- these are its index and its chunks
abbrev pub AreBytes : Parts → List ℕ → List ℕ → Type 0
AreBytes p index data_bytes = (unwrap_or p.index [] ≡ index) × (unwrap_or p.chunks [] ≡ data_bytes)

-- whether an index is inline and has more than so many bytes
abbrev pub is_long_inline : ℕ → List ℕ → Bool
is_long_inline most index = is_inline index && nat_lt most (length index)

-- neither the changelog nor the manifest passes the limit of an inline index that is read whole
pub record HaveShortLogs (t : Tree) : Type 0 where
  pub changelog : is_long_inline most_inline_index (bytes_at t changelog_index) ≡ false
  pub manifest : is_long_inline most_inline_index (bytes_at t manifest_index) ≡ false
