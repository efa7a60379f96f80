-- Which entries stand in an index, by their links.
use Rattle.std.specs.Prelude.{◌≡◌, ◌<◌, ◌≤◌, ◌+◌, ◌*◌, ℕ, zero, suc, List, ◌&&◌, nat_le, nat_lt, if◌then◌else◌, drop, length, take}
use Rattle.hgs_bytes.specs.Bytes.{IsPrefixOf}
use Rattle.hgs_index.specs.Entry.{number_at}

-- the link of the entry with this number, in an index of entries alone
abbrev pub link_in : List ℕ → ℕ → ℕ
link_in index rev = number_at 20 (drop (64 * rev) index)

-- An index of entries alone has the first so many entries, and of its whole entries exactly these are linked to one of the first so many changesets. Nothing is said of bytes behind the last whole entry.
pub record IsCutByLinks (index : List ℕ) (changesets first : ℕ) : Type 0 where
  pub there : 64 * first ≤ length index
  pub front : (rev : ℕ) → 64 * rev + 64 ≤ length index → rev < first → link_in index rev < changesets
  pub later : (rev : ℕ) → 64 * rev + 64 ≤ length index → first ≤ rev → changesets ≤ link_in index rev

-- An index in either form begins with these bytes, and where a whole entry's bytes stand behind them, they carry a link that is not below this number.
pub record EndsByLink (front index : List ℕ) (changesets : ℕ) : Type 0 where
  pub begins : IsPrefixOf front index
  pub ends : length front + 64 ≤ length index → changesets ≤ number_at 20 (drop (length front) index)

-- ---- reading

-- How many whole entries from the first on are linked to one of the first so many changesets, in at most so many steps.
abbrev pub linked_front : ℕ → ℕ → List ℕ → ℕ
linked_front zero changesets index = 0
linked_front (suc most) changesets index =
    if nat_le 64 (length index) && nat_lt (number_at 20 index) changesets then suc (linked_front most changesets (drop 64 index)) else 0

-- the bytes of the entry with this number
abbrev pub entry_in : List ℕ → ℕ → List ℕ
entry_in index rev = take 64 (drop (64 * rev) index)

-- Bytes that hold the first so many entries, and each whole entry of which stands in some index that links cut so: what is read at several moments, each entry whole.
pub record IsOfMoments (bytes : List ℕ) (changesets first : ℕ) : Type 0 where
  pub there : 64 * first ≤ length bytes
  pub each : (rev : ℕ) → 64 * rev + 64 ≤ length bytes → (index : List ℕ) × IsCutByLinks index changesets first × (64 * rev + 64 ≤ length index) × (entry_in bytes rev ≡ entry_in index rev)
