-- What a reader finds of files and of what is to be written to them.
use Rattle.std.specs.Prelude.{◌≡◌, ◌-◌, ◌≤◌, ℕ, List, ◌++◌, length, take, drop, Bool, true, false, Option, Some, None}
use Rattle.hgs_files.specs.declared.op.Op.{Op}

-- the list of the files, where nobody else writes, with these operations behind it
abbrev pub seen_over : Bool → Option (List Op) → List Op → Option (List Op)
seen_over false seen ops = None
seen_over true None ops = None
seen_over true (Some log) ops = Some (log ++ ops)

-- at most so many bytes are added
abbrev pub AddsMost : ℕ → List ℕ → List ℕ → Type 0
AddsMost most old new = (more : List ℕ) × (new ≡ old ++ more) × (length more ≤ most)

-- the part of a file is added, and what is put behind the file goes on from this place
abbrev pub AddsPart : List ℕ → ℕ → ℕ → List ℕ → List ℕ → ℕ → Type 0
AddsPart file from most old new place = (new ≡ old ++ take most (drop from file)) × (place ≡ from - length file)

-- The same of a file with a layer, up to the bytes of the layer: of these so many are left, from a place. Where they take the file's place, that is the whole part.
abbrev pub AddsUnder : Bool → List ℕ → ℕ → ℕ → List ℕ → List ℕ → ℕ → ℕ → Type 0
AddsUnder true file from most old new place left = (new ≡ old) × (place ≡ from) × (left ≡ most)
AddsUnder false file from most old new place left = AddsPart file from most old new place × (left ≡ most - length (take most (drop from file)))

-- how many bytes a file with a layer has before the layer's
abbrev pub length_under : Bool → List ℕ → ℕ
length_under true file = 0
length_under false file = length file

-- the part of a file that stands is added
abbrev pub AddsStanding : Option (List ℕ) → ℕ → ℕ → List ℕ → List ℕ → Bool → Type 0
AddsStanding file from most old new false = file ≡ None
AddsStanding file from most old new true = (bytes : List ℕ) × (file ≡ Some bytes) × (new ≡ old ++ take most (drop from bytes))
