-- The text that a chunk stands for, or its first fault.
use Rattle.std.specs.Prelude.{ℕ, suc, ◌+◌, ◌*◌, Bool, true, false, ◌==◌, not, nat_lt, List, length, Option, Some, None, Result, Ok, Err, slice_get, if◌then◌else◌}
use Rattle.hgs_bytes.specs.Bytes.{same}
use Rattle.hgs_index.specs.declared.entry.Entry.{Entry}
use Rattle.hgs_index.specs.declared.kinds.Span.{Span}
use Rattle.hgs_index.specs.Node.{node_hash}
use Rattle.hgs_index.specs.Revision.{parent_node}
use Rattle.hgs_index.specs.Revlog.{chunk_text}
use Rattle.hgs_revlog.specs.declared.fault.RevFault.{RevFault}
use Rattle.hgs_revlog.specs.declared.fault.RevFault.TheVariants.{Compressed, Delta, Flagged, Short, Length, Hash, Missing}
use Rattle.hgs_revlog.specs.Log.{nodes_of}

-- where the chunk of an entry stands in the data file
abbrev pub span_of : Entry → Span
span_of e = record { from = e.offset; len = e.stored }

-- the same in either form: in an inline index it stands behind its entry, and so behind one more than come before it
abbrev pub span_in : Bool → ℕ → Entry → Span
span_in false rev e = span_of e
span_in true rev e = record { from = e.offset + 64 * suc rev; len = e.stored }

-- the node of a text with the parents of an entry
abbrev pub node_with : List Entry → Entry → List ℕ → List ℕ
node_with entries e text = node_hash (parent_node (nodes_of entries) e.p1) (parent_node (nodes_of entries) e.p2) text

abbrev pub fitting_text : List Entry → ℕ → Entry → Option (List ℕ) → Result (List ℕ) RevFault
fitting_text entries rev e None = Err (Compressed rev)
fitting_text entries rev e (Some text) =
    if not (length text == e.size) then Err (Length rev)
    else if not (same (node_with entries e text) e.node.0) then Err (Hash rev)
    else Ok text

abbrev pub entry_text : List Entry → ℕ → List ℕ → Entry → Result (List ℕ) RevFault
entry_text entries rev chunk e =
    if not (e.flags == 0) then Err (Flagged rev)
    else if not (e.base == rev) then Err (Delta rev)
    else if nat_lt (length chunk) e.stored then Err (Short rev)
    else fitting_text entries rev e (chunk_text chunk)

abbrev pub text_at : List Entry → ℕ → List ℕ → Option Entry → Result (List ℕ) RevFault
text_at entries rev chunk None = Err Missing
text_at entries rev chunk (Some e) = entry_text entries rev chunk e

-- the text of a revision whose chunk these bytes are, or the first fault
abbrev pub text_of : List Entry → ℕ → List ℕ → Result (List ℕ) RevFault
text_of entries rev chunk = text_at entries rev chunk (slice_get entries rev)
