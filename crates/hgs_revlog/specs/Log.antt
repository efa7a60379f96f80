-- A revlog as the list of its entries.
use Rattle.std.specs.Prelude.{ℕ, List, ◌∷◌, [], ◌++◌, Bool, false, ◌==◌, length, Option, Some, None, if◌then◌else◌, map, position, sum_by}
use Rattle.hgs_bytes.specs.Bytes.{same}
use Rattle.hgs_index.specs.declared.entry.Entry.{Entry}
use Rattle.hgs_index.specs.declared.entry.Header.{Header}

-- a revlog: whether each chunk stands behind its entry, and the entries in order
pub record Log : Type 0 where
  pub inline : Bool
  pub entries : List Entry

abbrev pub with_entry : Log → Entry → Log
with_entry log e = record { inline = log.inline; entries = log.entries ++ e ∷ [] }

-- the revision that has this node, if one has it
abbrev pub place_of : List Entry → List ℕ → Option ℕ
place_of entries node = position (λ e. same e.node.0 node) entries

-- the bytes that the chunks of these entries take
abbrev pub stored_sum : List Entry → ℕ
stored_sum entries = sum_by (λ e. e.stored) entries

abbrev pub nodes_of : List Entry → List (List ℕ)
nodes_of entries = map (λ e. e.node.0) entries

-- the header that the first entry of a revlog begins with
abbrev pub new_header : Log → Option Header
new_header log = if length log.entries == 0 then Some (record { inline = log.inline; generaldelta = false }) else None
