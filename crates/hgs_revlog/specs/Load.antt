-- The entries of an index, or its first fault.
use Rattle.std.specs.Prelude.{ℕ, zero, suc, ◌+◌, ◌-◌, ◌/◌, ◌^◌, Bool, false, ◌&&◌, ◌||◌, ◌==◌, not, nat_le, nat_lt, is_some, List, [], length, take, drop, Option, Some, None, Result, Ok, Err, if◌then◌else◌}
use Rattle.hgs_bytes.specs.Bytes.{same}
use Rattle.hgs_index.specs.declared.entry.Entry as index_entry
use Rattle.hgs_index.specs.declared.entry.EntryFault.{EntryFault}
use Rattle.hgs_index.specs.declared.kinds.Which.TheVariants.{Changesets, Text, Data}
use Rattle.hgs_index.specs.declared.entry.EntryFault.TheVariants.{HeaderFlags}
use Rattle.hgs_index.specs.Entry.{entry_at, header_at}
use Rattle.hgs_index.specs.Inline.{is_inline, says_inline, without_inline, index_apart}
use Rattle.hgs_index.specs.Node.{null_node}
use Rattle.hgs_revlog.specs.declared.fault.RevFault.{RevFault}
use Rattle.hgs_revlog.specs.declared.fault.RevFault.TheVariants.{Entry, Offset, Parent, Twice, Limit, Tail, Missing}
use Rattle.hgs_revlog.specs.declared.fault.Tail.TheVariants.{Ignore, Refuse, Until}
use Rattle.hgs_revlog.specs.declared.fault.Tail as tails
use Rattle.hgs_revlog.specs.Log.{Log, with_entry, place_of, stored_sum}

-- the numbers above which a revlog is refused: revisions, the bytes of a text, the end of the data
abbrev pub most_revisions : ℕ
most_revisions = 1000000

abbrev pub most_text : ℕ
most_text = 33554432

abbrev pub most_data : ℕ
most_data = 2 ^ 48 - 1

-- no revision has the null node, so it counts as taken
abbrev pub is_taken : List index_entry.Entry → List ℕ → Bool
is_taken before node = same null_node node || is_some (place_of before node)

abbrev pub is_above : ℕ → Option ℕ → Bool
is_above rev None = false
is_above rev (Some p) = nat_le rev p

-- the first fault of an entry behind these
abbrev pub fault_of : List index_entry.Entry → index_entry.Entry → Option RevFault
fault_of before e =
    if not (e.offset == stored_sum before) then Some (Offset (length before))
    else if is_above (length before) e.p1 || is_above (length before) e.p2 then Some (Parent (length before))
    else if is_taken before e.node.0 then Some (Twice (length before))
    else if nat_lt most_text e.size then Some (Limit Text)
    else if nat_lt most_data (e.offset + e.stored) then Some (Limit Data)
    else None

abbrev pub unless : {A : Type 0} → Option RevFault → A → Result A RevFault
unless None x = Ok x
unless (Some f) x = Err f

abbrev pub checked : List index_entry.Entry → Result index_entry.Entry EntryFault → Result index_entry.Entry RevFault
checked before (Err f) = Err (Entry (length before) f)
checked before (Ok e) = unless (fault_of before e) e

-- the entry of a separate index, whose header has no bit 16
abbrev pub separate_at : List ℕ → ℕ → Result index_entry.Entry EntryFault
separate_at bytes rev = if rev == 0 && says_inline (header_at bytes) then Err HeaderFlags else entry_at bytes rev

-- the entry that 64 bytes are behind these, or their first fault
abbrev pub entry_behind : List index_entry.Entry → List ℕ → Result index_entry.Entry RevFault
entry_behind before bytes = if nat_le most_revisions (length before) then Err (Limit Changesets) else checked before (separate_at bytes (length before))

-- whether nothing behind this entry is looked at
abbrev pub ends_at : tails.Tail → index_entry.Entry → Bool
ends_at Ignore e = false
ends_at Refuse e = false
ends_at (Until node) e = same e.node.0 node.0

-- what is answered where no whole entry is left of the bytes
abbrev pub at_end : tails.Tail → Log → List ℕ → Result Log RevFault
at_end Ignore log rest = Ok log
at_end Refuse log rest = if length rest == 0 then Ok log else Err (Tail (length log.entries))
at_end (Until node) log rest = Err Missing

abbrev pub after : Result index_entry.Entry RevFault → (index_entry.Entry → Result Log RevFault) → Result Log RevFault
after (Err f) more = Err f
after (Ok e) more = more e

-- n entries behind those of the log
abbrev pub load_from : tails.Tail → ℕ → Log → List ℕ → Result Log RevFault
load_from tail zero log bytes = at_end tail log bytes
load_from tail (suc n) log bytes =
    after (entry_behind log.entries (take 64 bytes)) (λ e.
    if ends_at tail e then Ok (with_entry log e) else load_from tail n (with_entry log e) (drop 64 bytes))

-- the revlog that a separate index is, or its first fault
abbrev pub loaded : tails.Tail → List ℕ → Result Log RevFault
loaded tail index = load_from tail (length index / 64) (record { inline = false; entries = [] }) index

abbrev pub in_form : Bool → Result Log RevFault → Result Log RevFault
in_form inline (Err f) = Err f
in_form inline (Ok log) = Ok (record { inline = inline; entries = log.entries })

-- The revlog that an index of either form is, or its first fault. An inline one has the entries of the separate index that
-- it is taken apart into: one whose chunk is cut is no whole entry, but its header is looked at.
abbrev pub loaded_either : tails.Tail → List ℕ → Result Log RevFault
loaded_either tail index = in_form (is_inline index) (loaded tail (index_apart index))

-- an entry of an inline index as the next one of a separate index: the first one without the flag of its header
abbrev pub cell_of : List index_entry.Entry → List ℕ → List ℕ
cell_of before bytes = if length before == 0 then without_inline bytes else bytes

-- the revlog with the entry that these 64 bytes are
abbrev pub pushed : Log → List ℕ → Result Log RevFault
pushed log bytes = after (entry_behind log.entries bytes) (λ e. Ok (with_entry log e))
