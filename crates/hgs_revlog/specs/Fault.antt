-- The faults of a revlog, their numbers and their places.
use Rattle.std.specs.Prelude.{ℕ, Bool, true, false}
use Rattle.hgs_revlog.specs.declared.fault.RevFault.{RevFault}
use Rattle.hgs_revlog.specs.declared.fault.RevFault.TheVariants.{Entry, Compressed, Delta, Flagged, Short, Length, Hash, Parent, Collision, Limit, Memory, Offset, Twice, Tail, Missing}

-- want of memory, which may come at any time
abbrev pub is_memory : RevFault → Bool
is_memory Memory = true
is_memory (Entry rev f) = false
is_memory (Compressed rev) = false
is_memory (Delta rev) = false
is_memory (Flagged rev) = false
is_memory (Short rev) = false
is_memory (Length rev) = false
is_memory (Hash rev) = false
is_memory (Parent rev) = false
is_memory (Collision rev) = false
is_memory (Limit which) = false
is_memory (Offset rev) = false
is_memory (Twice rev) = false
is_memory (Tail rev) = false
is_memory Missing = false

-- the number that refusals print
abbrev pub fault_number : RevFault → ℕ
fault_number (Entry rev f) = 1
fault_number (Compressed rev) = 2
fault_number (Delta rev) = 3
fault_number (Flagged rev) = 4
fault_number (Short rev) = 5
fault_number (Length rev) = 6
fault_number (Hash rev) = 7
fault_number (Parent rev) = 8
fault_number (Collision rev) = 9
fault_number (Limit which) = 10
fault_number Memory = 11
fault_number (Offset rev) = 12
fault_number (Twice rev) = 13
fault_number (Tail rev) = 14
fault_number Missing = 15

-- the revision, or 0 where the fault names none
abbrev pub fault_place : RevFault → ℕ
fault_place (Entry rev f) = rev
fault_place (Compressed rev) = rev
fault_place (Delta rev) = rev
fault_place (Flagged rev) = rev
fault_place (Short rev) = rev
fault_place (Length rev) = rev
fault_place (Hash rev) = rev
fault_place (Parent rev) = rev
fault_place (Collision rev) = rev
fault_place (Limit which) = 0
fault_place Memory = 0
fault_place (Offset rev) = rev
fault_place (Twice rev) = rev
fault_place (Tail rev) = rev
fault_place Missing = 0
