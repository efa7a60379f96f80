-- The text of a changeset.
use Rattle.std.specs.Prelude.{◌≡◌, ◌==◌, ◌≤◌, ◌^◌, ℕ, Bool, true, false, ◌&&◌, nat_le, List, [], ◌∷◌, ◌++◌, length, ℤ, unsigned_abs, Option, Some, None, Result, Ok, Err, if◌then◌else◌}
use Rattle.std.specs.List.{AllByRecursion, slice_split}
use Rattle.std.specs.Fmt.{signed_decimal}
use Rattle.std.specs.Str.{is_utf8}
use Rattle.std.specs.Str.Parse.{signed_digits_value}
use Rattle.hex.specs.Hex.{IsBytes}
use Rattle.hgs_bytes.specs.Bytes.{same}
use Rattle.hgs_bytes.specs.Text.{line, lines, split, split_at_two, Lacks, ascends}
use Rattle.hgs_index.specs.Hex.{hex, node_at}
use Rattle.hgs_index.specs.declared.texts.ChangeFault.{ChangeFault}
use Rattle.hgs_index.specs.declared.texts.ChangeFault.TheVariants.{Shape, Node, Date, Files, Utf8, Memory}

-- what a changeset says: its manifest's node, who made it, when, extras, the changed files, and the description
pub record Change : Type 0 where
  pub manifest : List ℕ
  pub user : List ℕ
  pub seconds : ℤ
  pub offset : ℤ
  pub extras : List ℕ
  pub files : List (List ℕ)
  pub description : List ℕ

-- ---- the text that is written

-- a space before extras that are there
abbrev pub extras_text : List ℕ → List ℕ
extras_text [] = []
extras_text (b ∷ extras) = 32 ∷ b ∷ extras

abbrev pub date_text : ℤ → ℤ → List ℕ → List ℕ
date_text seconds offset extras = signed_decimal seconds ++ 32 ∷ (signed_decimal offset ++ extras_text extras)

-- the lines of the manifest's node, the user, the date and the changed files, an empty line, and the description
abbrev pub change_text : Change → List ℕ
change_text c = line (hex c.manifest) ++ (line c.user ++ (line (date_text c.seconds c.offset c.extras) ++ (lines c.files ++ 10 ∷ c.description)))

-- a text that can stand in a line of its own
pub record IsLineText (text : List ℕ) : Type 0 where
  pub some_byte : (length text == 0) ≡ false
  pub no_lf : Lacks 10 text

-- the greatest seconds and the greatest offset, either side of 0
abbrev pub most_seconds : ℕ
most_seconds = 2 ^ 40

abbrev pub most_offset : ℕ
most_offset = 50400

-- a changeset that has a text
pub record IsChange (c : Change) : Type 0 where
  pub node : length c.manifest ≡ 20
  pub node_bytes : IsBytes c.manifest
  pub user : IsLineText c.user
  pub seconds : unsigned_abs c.seconds ≤ most_seconds
  pub offset : unsigned_abs c.offset ≤ most_offset
  pub extras : Lacks 10 c.extras
  pub files : AllByRecursion IsLineText c.files
  pub ordered : ascends c.files ≡ true
  pub texts : (is_utf8 c.user && is_utf8 c.description) ≡ true

-- ---- the changeset that is read

-- the number, where this is how it is written and it is within the bound
abbrev pub number_if : ℕ → List ℕ → ℤ → Option ℤ
number_if most text z = if same (signed_decimal z) text && nat_le (unsigned_abs z) most then Some z else None

-- the number of decimal digits, with a minus before them or without, and with no needless zero
unfoldable pub number_within : ℕ → List ℕ → Option ℤ
number_within most text = number_if most text (signed_digits_value 10 text)

-- when a changeset was made: seconds since 1970 began, the seconds by which its time zone is west of UTC, and extras
pub record When : Type 0 where
  pub seconds : ℤ
  pub offset : ℤ
  pub extras : List ℕ

abbrev pub when_of : Option ℤ → Option ℤ → List ℕ → Option When
when_of None offset extras = None
when_of (Some seconds) None extras = None
when_of (Some seconds) (Some offset) extras = Some (record { seconds = seconds; offset = offset; extras = extras })

-- the offset and the extras, of what stands behind the seconds: where there is a space, extras of at least one byte come after it
abbrev pub offset_and_extras : List ℕ → Option (List ℕ × List ℕ) → Option (List ℕ × List ℕ)
offset_and_extras rest None = Some (rest, [])
offset_and_extras rest (Some p) = if length p.1 == 0 then None else Some p

abbrev pub when_behind : Option ℤ → Option (List ℕ × List ℕ) → Option When
when_behind seconds None = None
when_behind seconds (Some p) = when_of seconds (number_within most_offset p.0) p.1

abbrev pub when_parts : Option (List ℕ × List ℕ) → Option When
when_parts None = None
when_parts (Some p) = when_behind (number_within most_seconds p.0) (offset_and_extras p.1 (split 32 p.1))

-- the date of a line
unfoldable pub when_at : List ℕ → Option When
when_at text = when_parts (split 32 text)

-- what stands before the first empty line and behind it
unfoldable pub split_at_blank : List ℕ → Option (List ℕ × List ℕ)
split_at_blank text = split_at_two 10 10 text

-- the lines between line feeds
unfoldable pub header_lines : List ℕ → List (List ℕ)
header_lines header = slice_split (λ b. b == 10) header

-- the lines of a header
pub record Header : Type 0 where
  pub node : List ℕ
  pub user : List ℕ
  pub date : List ℕ
  pub files : List (List ℕ)

abbrev pub header_of : List (List ℕ) → Option Header
header_of [] = None
header_of (a ∷ []) = None
header_of (a ∷ b ∷ []) = None
header_of (node ∷ user ∷ date ∷ files) = Some (record { node = node; user = user; date = date; files = files })

-- the changeset, or the first of its faults: the node, the date, the order of the files, what is no UTF-8
abbrev pub change_with : Option (List ℕ) → Option When → List ℕ → List (List ℕ) → List ℕ → Result Change ChangeFault
change_with None when user files description = Err Node
change_with (Some node) None user files description = Err Date
change_with (Some node) (Some when) user files description =
    if ascends files then (if is_utf8 user && is_utf8 description then Ok (record { manifest = node; user = user; seconds = when.seconds; offset = when.offset; extras = when.extras; files = files; description = description }) else Err Utf8)
    else Err Files

abbrev pub change_of : Option Header → List ℕ → Result Change ChangeFault
change_of None description = Err Shape
change_of (Some h) description = change_with (node_at h.node) (when_at h.date) h.user h.files description

abbrev pub change_parts : Option (List ℕ × List ℕ) → Result Change ChangeFault
change_parts None = Err Shape
change_parts (Some p) = change_of (header_of (header_lines p.0)) p.1

-- the changeset of a text, or its first fault
abbrev pub read_change : List ℕ → Result Change ChangeFault
read_change text = change_parts (split_at_blank text)

-- the fault that stands for want of memory
abbrev pub is_memory : ChangeFault → Bool
is_memory Memory = true
is_memory Shape = false
is_memory Node = false
is_memory Date = false
is_memory Files = false
is_memory Utf8 = false
