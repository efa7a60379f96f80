-- The text of the phase roots: a line for each, its phase's digit, a space, and the node in hex.
use Rattle.std.specs.Prelude.{◌==◌, ◌&&◌, ◌+◌, ℕ, Bool, true, false, List, [], ◌∷◌, take, drop, Option, Some, None, Result, Ok, Err, if◌then◌else◌, flat_map}
use Rattle.std.specs.List.{AllByRecursion}
use Rattle.hgs_bytes.specs.Text.{Line as TextLine, MayLackLastLf, line, lines_of}
use Rattle.hgs_index.specs.Hex.{hex, node_at}
use Rattle.hgs_phases.specs.declared.fault.RootsFault.{RootsFault}
use Rattle.hgs_phases.specs.declared.fault.RootsFault.TheVariants.{Line, Memory}
use Rattle.hgs_model.specs.declared.phase.Phase.{Phase}
use Rattle.hgs_model.specs.declared.phase.Phase.TheVariants.{Public, Draft, Secret}
use Rattle.hgs_phases.specs.declared.roots.Root.{Root}
use Rattle.hgs_index.specs.Node.{IsNode}
use Rattle.hgs_model.specs.Phase.{phase_number}

-- ---- the text that is written

abbrev pub root_text : Root → List ℕ
root_text r = line ((48 + phase_number r.phase) ∷ 32 ∷ hex r.node.0)

abbrev pub roots_text : List Root → List ℕ
roots_text roots = flat_map root_text roots

-- ---- the roots that are read

-- the phase of a digit and a space
abbrev pub phase_from : List ℕ → Option Phase
phase_from [] = None
phase_from (b ∷ []) = None
phase_from (b ∷ c ∷ []) =
    if b == 48 && c == 32 then Some Public else (if b == 49 && c == 32 then Some Draft else (if b == 50 && c == 32 then Some Secret else None))
phase_from (b ∷ c ∷ d ∷ bytes) = None

abbrev pub root_with : Option Phase → Option (List ℕ) → Option Root
root_with None _ = None
root_with (Some phase) None = None
root_with (Some phase) (Some bytes) = Some (record { phase = phase; node = record { 0 = bytes } })

-- the root of a line, without its LF
abbrev pub root_of : List ℕ → Option Root
root_of text = root_with (phase_from (take 2 text)) (node_at (drop 2 text))

abbrev pub with_root : Root → Result (List Root) RootsFault → Result (List Root) RootsFault
with_root r (Ok roots) = Ok (r ∷ roots)
with_root r (Err f) = Err f

abbrev pub root_then : ℕ → Option Root → Result (List Root) RootsFault → Result (List Root) RootsFault
root_then n None behind = Err (Line n)
root_then n (Some r) behind = with_root r behind

-- a root for each line, or the first line that is none, n lines standing before; the last line may lack its LF
abbrev pub roots_from : ℕ → List TextLine → Result (List Root) RootsFault
roots_from n [] = Ok []
roots_from n (l ∷ ls) = root_then (n + 1) (root_of l.0) (roots_from (n + 1) ls)

-- the roots of a text, or its first fault
abbrev pub read_roots : List ℕ → Result (List Root) RootsFault
read_roots text = roots_from 0 (lines_of text)

-- the fault that stands for want of memory
abbrev pub is_memory : RootsFault → Bool
is_memory Memory = true
is_memory (Line n) = false

-- ---- the texts that are read

abbrev pub HasNode : Root → Type 0
HasNode r = IsNode r.node.0

-- a line for each root, the last of which may lack its LF
abbrev pub IsTextOf : List Root → List ℕ → Type 0
IsTextOf roots text = AllByRecursion HasNode roots × MayLackLastLf (roots_text roots) text
