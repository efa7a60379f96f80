-- One more revision: what is written of it, and where it stands already.
use Rattle.std.specs.Prelude.{ℕ, ◌+◌, ◌≤◌, ◌&&◌, nat_le, nat_lt, List, [], length, Option, Some, None, Result, Ok, Err, slice_get, unwrap_or, option_and_then, if◌then◌else◌}
use Rattle.hgs_bytes.specs.Bytes.{same}
use Rattle.hgs_index.specs.declared.entry.Entry.{Entry}
use Rattle.hgs_index.specs.declared.kinds.Which.TheVariants.{Changesets, Text, Data}
use Rattle.hgs_index.specs.Entry.{entry_bytes}
use Rattle.hgs_index.specs.Revision.{Revision, Parents, same_parents}
use Rattle.hgs_index.specs.Revlog.{chunk_of, entry_after}
use Rattle.hgs_revlog.specs.declared.fault.RevFault.{RevFault}
use Rattle.hgs_revlog.specs.declared.fault.RevFault.TheVariants.{Collision, Limit}
use Rattle.hgs_revlog.specs.declared.add.Added.{Added}
use Rattle.hgs_revlog.specs.declared.add.Added.TheVariants.{Old, New}
use Rattle.hgs_revlog.specs.Log.{Log, new_header, place_of, stored_sum, nodes_of}
use Rattle.hgs_revlog.specs.Load.{most_revisions, most_text, most_data}
use Rattle.hgs_revlog.specs.Text.{text_of}

-- the entry of a revision behind these
abbrev pub next_entry : List Entry → Revision → Entry
next_entry before r = entry_after (stored_sum before) (nodes_of before) (record { revision = r; chunk = chunk_of r.text })

-- What is written of a revision that does not stand, within the limits. Whether its node is the null node is not tested:
-- no text is known to have it.
abbrev pub added_new : Log → Revision → Result Added RevFault
added_new log r =
    if nat_le most_revisions (length log.entries) then Err (Limit Changesets)
    else if nat_lt most_text (length r.text) then Err (Limit Text)
    else if nat_lt most_data (stored_sum log.entries + length (chunk_of r.text)) then Err (Limit Data)
    else Ok (New (entry_bytes (next_entry log.entries r) (new_header log)) (chunk_of r.text) (next_entry log.entries r).node)

abbrev pub parents_of : Option Entry → Parents
parents_of None = (None, None)
parents_of (Some e) = (e.p1, e.p2)

-- whether a text with these parents is the revision that has the node, or only has its node
abbrev pub matched : Log → List ℕ → Parents → ℕ → Result (List ℕ) RevFault → Result Added RevFault
matched log text parents rev (Err f) = Err f
matched log text parents rev (Ok found) =
    if same text found && same_parents parents (parents_of (slice_get log.entries rev)) then Ok (Old rev) else Err (Collision rev)

abbrev pub added_at : Log → Revision → Option (List ℕ) → Option ℕ → Result Added RevFault
added_at log r standing None = added_new log r
added_at log r standing (Some rev) = matched log r.text r.parents rev (text_of log.entries rev (unwrap_or standing []))

-- What a revision becomes behind these: what is written of it, the revision that it is already, or a fault.
-- The chunk is that of the revision that has its node.
abbrev pub added : Log → Revision → Option (List ℕ) → Result Added RevFault
added log r standing = added_at log r standing (place_of log.entries (next_entry log.entries r).node.0)

-- a chunk is given exactly where an entry stands, and is no longer than that says
abbrev pub IsChunkOf : Option Entry → Option (List ℕ) → Type 0
IsChunkOf None None = Unit {0}
IsChunkOf None (Some chunk) = ⊥
IsChunkOf (Some e) None = ⊥
IsChunkOf (Some e) (Some chunk) = length chunk ≤ e.stored

-- the entry that has this node
abbrev pub entry_with : List Entry → List ℕ → Option Entry
entry_with entries node = option_and_then (slice_get entries) (place_of entries node)
