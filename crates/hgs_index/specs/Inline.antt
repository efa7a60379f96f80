-- An inline index taken apart: the index and the data that a separate revlog of the same revisions has.
use Rattle.std.specs.Prelude.{ℕ, zero, suc, ◌+◌, ◌-◌, Bool, false, ◌&&◌, ◌||◌, not, nat_le, nat_lt, List, [], ◌∷◌, ◌++◌, length, take, drop, Option, Some, None, Result, Ok, Err, if◌then◌else◌}
use Rattle.hgs_index.specs.declared.entry.Header.{Header}
use Rattle.hgs_index.specs.declared.entry.EntryFault.{EntryFault}
use Rattle.hgs_index.specs.Entry.{part, number_at, is_negative, header_at}

abbrev pub says_inline : Result Header EntryFault → Bool
says_inline (Ok h) = h.inline
says_inline (Err f) = false

-- whether the first four bytes, which are the header, say that each entry is followed by its chunk; where fewer stand, as
-- in an index without entries, nothing says so
abbrev pub is_inline : List ℕ → Bool
is_inline index = nat_le 4 (length index) && says_inline (header_at index)

-- Whether these bytes begin with no whole entry that is followed by its whole chunk. Where the stored length has its sign
-- set the entry counts as whole, since it is refused for that.
abbrev pub is_cut : List ℕ → Bool
is_cut bytes = nat_lt (length bytes) 64 || (not (is_negative (number_at 8 bytes)) && nat_lt (length bytes) (64 + number_at 8 bytes))

-- the entry that these bytes begin with, and what stands behind its chunk
abbrev pub whole_item : List ℕ → Option (List ℕ × List ℕ)
whole_item bytes = if is_cut bytes then None else Some (take 64 bytes, drop (64 + number_at 8 bytes) bytes)

-- the bytes of whole entries and their chunks without the chunks; of a rest, less than an entry
abbrev pub entries_in : ℕ → List ℕ → List ℕ
entries_in zero bytes = []
entries_in (suc n) bytes = if is_cut bytes then take 63 bytes else take 64 bytes ++ entries_in n (drop (64 + number_at 8 bytes) bytes)

-- the chunks behind the whole entries
abbrev pub chunks_in : ℕ → List ℕ → List ℕ
chunks_in zero bytes = []
chunks_in (suc n) bytes = if is_cut bytes then [] else part 64 (number_at 8 bytes) bytes ++ chunks_in n (drop (64 + number_at 8 bytes) bytes)

-- the same entries behind a header without its lowest flag, which is bit 16
abbrev pub without_inline : List ℕ → List ℕ
without_inline [] = []
without_inline (a ∷ []) = a ∷ []
without_inline (a ∷ b ∷ bytes) = a ∷ (b - 1) ∷ bytes

-- the index of the separate revlog that an index stands for
abbrev pub index_apart : List ℕ → List ℕ
index_apart index = if is_inline index then without_inline (entries_in (length index) index) else index

-- the data of the separate revlog that an inline index stands for
abbrev pub chunks_apart : List ℕ → List ℕ
chunks_apart index = chunks_in (length index) index
