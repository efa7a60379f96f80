-- The text of a manifest: a line for each file, in the order of their paths.
use Rattle.std.specs.Prelude.{◌≡◌, ◌==◌, ℕ, ◌+◌, Bool, true, false, List, [], ◌∷◌, ◌++◌, length, take, drop, Option, Some, None, Result, Ok, Err, if◌then◌else◌, flat_map}
use Rattle.hex.specs.Hex.{IsBytes}
use Rattle.hgs_bytes.specs.Bytes.{is_below}
use Rattle.hgs_bytes.specs.Text.{Line as TextLine, line, lines_of, split, Lacks}
use Rattle.hgs_index.specs.Hex.{hex, node_at}
use Rattle.hgs_index.specs.declared.kinds.Flag.{Flag}
use Rattle.hgs_index.specs.declared.kinds.Flag.TheVariants.{Plain, Exec, Link}
use Rattle.hgs_index.specs.declared.texts.ManifestFault.{ManifestFault}
use Rattle.hgs_index.specs.declared.texts.ManifestFault.TheVariants.{Line, Order, Memory}

-- a file of a manifest
pub record Row : Type 0 where
  pub path : List ℕ
  pub node : List ℕ
  pub flag : Flag

-- ---- the text that is written

abbrev pub flag_text : Flag → List ℕ
flag_text Plain = []
flag_text Exec = 120 ∷ []
flag_text Link = 108 ∷ []

-- path, NUL, node in hex, flag, LF
abbrev pub row_text : Row → List ℕ
row_text r = line (r.path ++ 0 ∷ (hex r.node ++ flag_text r.flag))

abbrev pub manifest_text : List Row → List ℕ
manifest_text rows = flat_map row_text rows

-- a row that a line can hold
pub record IsRow (r : Row) : Type 0 where
  pub some_path : (length r.path == 0) ≡ false
  pub no_nul : Lacks 0 r.path
  pub no_lf : Lacks 10 r.path
  pub node : length r.node ≡ 20
  pub bytes : IsBytes r.node

-- rows whose paths ascend strictly, the first above this path
abbrev pub AscendFrom : List ℕ → List Row → Type 0
AscendFrom last [] = Unit {0}
AscendFrom last (r ∷ rows) = IsRow r × (is_below last r.path ≡ true) × AscendFrom r.path rows

-- rows that have a text
abbrev pub AreRows : List Row → Type 0
AreRows rows = AscendFrom [] rows

-- ---- the rows that are read

abbrev pub flag_at : List ℕ → Option Flag
flag_at [] = Some Plain
flag_at (b ∷ []) = if b == 120 then Some Exec else (if b == 108 then Some Link else None)
flag_at (b ∷ c ∷ bytes) = None

abbrev pub row_with : List ℕ → Option (List ℕ) → Option Flag → Option Row
row_with path None flag = None
row_with path (Some node) None = None
row_with path (Some node) (Some flag) = Some (record { path = path; node = node; flag = flag })

-- the row of what stands before and behind the first NUL
abbrev pub row_of_parts : Option (List ℕ × List ℕ) → Option Row
row_of_parts None = None
row_of_parts (Some p) = if length p.0 == 0 then None else row_with p.0 (node_at (take 40 p.1)) (flag_at (drop 40 p.1))

-- the row of a line, which an LF has to end
abbrev pub row_at : TextLine → Option Row
row_at l = if l.1 then row_of_parts (split 0 l.0) else None

abbrev pub with_row : Row → Result (List Row) ManifestFault → Result (List Row) ManifestFault
with_row r (Ok rows) = Ok (r ∷ rows)
with_row r (Err e) = Err e

-- a row and what the lines behind it give, or the fault of its line
abbrev pub row_then : ℕ → List ℕ → Option Row → (ℕ → List ℕ → Result (List Row) ManifestFault) → Result (List Row) ManifestFault
row_then n last None behind = Err (Line (n + 1))
row_then n last (Some r) behind = if is_below last r.path then with_row r (behind (n + 1) r.path) else Err (Order (n + 1))

-- the rows of the lines, or the first fault: n lines stood before, and the last of their paths is this, the empty one where there is none
abbrev pub rows_from : ℕ → List ℕ → List TextLine → Result (List Row) ManifestFault
rows_from n last [] = Ok []
rows_from n last (l ∷ ls) = row_then n last (row_at l) (λ k path. rows_from k path ls)

-- the rows of a manifest's text, or its first fault
abbrev pub read_manifest : List ℕ → Result (List Row) ManifestFault
read_manifest text = rows_from 0 [] (lines_of text)

-- the path of the last row, the empty one where there is none
abbrev pub last_path : List Row → List ℕ
last_path [] = []
last_path (r ∷ []) = r.path
last_path (r ∷ s ∷ rows) = last_path (s ∷ rows)

-- the fault that stands for want of memory
abbrev pub is_memory : ManifestFault → Bool
is_memory Memory = true
is_memory (Line n) = false
is_memory (Order n) = false
