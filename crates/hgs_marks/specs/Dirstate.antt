-- The text of the working parents and the tracked paths.
use Rattle.std.specs.Prelude.{◌==◌, ◌+◌, ◌-◌, ◌&&◌, ◌||◌, ℕ, zero, suc, Bool, nat_le, List, [], ◌∷◌, ◌++◌, length, take, drop, Option, Some, None, Result, Ok, Err, if◌then◌else◌, flat_map, slice_index}
use Rattle.std.specs.Int.{w32, to_be_bytes, from_be_bytes}
use Rattle.hgs_bytes.specs.Text.{split}
use Rattle.hgs_index.specs.Node.{null_node}
use Rattle.hgs_marks.specs.declared.fault.MarkFault.{MarkFault}
use Rattle.hgs_marks.specs.declared.fault.MarkFault.TheVariants.{Short, State}

-- the working parents, and the tracked paths in the order of the text
pub record Dirstate : Type 0 where
  pub p1 : List ℕ
  pub p2 : List ℕ
  pub paths : List (List ℕ)

-- a file's entry: its state, and its name, which a NUL and a copy's source may follow
pub record Entry : Type 0 where
  pub state : ℕ
  pub name : List ℕ

-- null parents and no paths
abbrev pub no_dirstate : Dirstate
no_dirstate = record { p1 = null_node; p2 = null_node; paths = [] }

-- ---- the text that is written

-- `n`, mode 0, size -1, time -1, and the path with its length
abbrev pub path_text : List ℕ → List ℕ
path_text path = 110 ∷ 0 ∷ 0 ∷ 0 ∷ 0 ∷ 255 ∷ 255 ∷ 255 ∷ 255 ∷ 255 ∷ 255 ∷ 255 ∷ 255 ∷ to_be_bytes w32 (length path) ++ path

abbrev pub paths_text : List (List ℕ) → List ℕ
paths_text paths = flat_map path_text paths

abbrev pub dirstate_text : Dirstate → List ℕ
dirstate_text d = d.p1 ++ d.p2 ++ paths_text d.paths

-- ---- what is read

-- `n`, `a`, `r` or `m`: normal, added, removed, merged
abbrev pub is_state : ℕ → Bool
is_state b = b == 110 || b == 97 || b == 114 || b == 109

-- the length of the name of the entry that these bytes begin with: the last of four numbers behind the state
abbrev pub name_len : List ℕ → ℕ
name_len bytes = from_be_bytes w32 (take 4 (drop 13 bytes))

-- whether the bytes have a whole entry: 17 bytes and its name
abbrev pub has_entry : List ℕ → Bool
has_entry bytes = nat_le 17 (length bytes) && nat_le (17 + name_len bytes) (length bytes)

abbrev pub first_entry : List ℕ → Entry
first_entry bytes = record { state = slice_index bytes 0; name = take (name_len bytes) (drop 17 bytes) }

-- the entry that bytes begin with, which stand at a place, and what is behind it, or its fault; a wrong state goes before an entry that is cut
abbrev pub next_entry : ℕ → List ℕ → Result (Entry × List ℕ) MarkFault
next_entry at bytes =
    if is_state (slice_index bytes 0) then (if has_entry bytes then Ok (first_entry bytes, drop (name_len bytes) (drop 17 bytes)) else Err Short)
    else Err (State at)

abbrev pub entry_then : Entry → Result (List Entry) MarkFault → Result (List Entry) MarkFault
entry_then e (Ok entries) = Ok (e ∷ entries)
entry_then e (Err f) = Err f

abbrev pub entry_and_more : Result (Entry × List ℕ) MarkFault → (List ℕ → Result (List Entry) MarkFault) → Result (List Entry) MarkFault
entry_and_more (Err f) more = Err f
entry_and_more (Ok p) more = entry_then p.0 (more p.1)

-- the entries of bytes that end a text of this length, or their first fault; n is no less than their number
abbrev pub entries_from : ℕ → ℕ → List ℕ → Result (List Entry) MarkFault
entries_from zero len bytes = Ok []
entries_from (suc n) len bytes = if length bytes == 0 then Ok [] else entry_and_more (next_entry (len - length bytes) bytes) (λ rest. entries_from n len rest)

-- what stands before the first NUL
abbrev pub before_nul : List ℕ → Option (List ℕ × List ℕ) → List ℕ
before_nul name None = name
before_nul name (Some parts) = parts.0

abbrev pub entry_path : Entry → List ℕ
entry_path e = before_nul e.name (split 0 e.name)

-- the paths of the entries that are not removed
abbrev pub tracked : List Entry → List (List ℕ)
tracked [] = []
tracked (e ∷ entries) = if e.state == 114 then tracked entries else entry_path e ∷ tracked entries

-- these paths, and behind them those of the entries
abbrev pub paths_with : List (List ℕ) → Result (List Entry) MarkFault → Result (List (List ℕ)) MarkFault
paths_with front (Ok entries) = Ok (front ++ tracked entries)
paths_with front (Err f) = Err f

-- the tracked paths of a text that has the parents, or the first fault of its entries
abbrev pub read_paths : List ℕ → Result (List (List ℕ)) MarkFault
read_paths text = paths_with [] (entries_from (length text) (length text) (drop 40 text))

abbrev pub dirstate_with : List ℕ → List ℕ → Result (List (List ℕ)) MarkFault → Result Dirstate MarkFault
dirstate_with p1 p2 (Ok paths) = Ok (record { p1 = p1; p2 = p2; paths = paths })
dirstate_with p1 p2 (Err f) = Err f

-- the dirstate of a text, or its first fault; an empty text is one without parents and paths
abbrev pub read_dirstate : List ℕ → Result Dirstate MarkFault
read_dirstate text =
    if length text == 0 then Ok no_dirstate
    else if nat_le 40 (length text) then dirstate_with (take 20 text) (take 20 (drop 20 text)) (read_paths text)
    else Err Short
