-- What the texts of the journal and of the list of backups say, or their first fault by lines, from 1.
use Rattle.std.specs.Prelude.{◌+◌, ◌^◌, ◌&&◌, ◌==◌, ℕ, nat_lt, Bool, true, false, List, [], ◌∷◌, drop, decimal, Option, Some, None, Result, Ok, Err, if◌then◌else◌}
use Rattle.std.specs.List.{slice_split}
use Rattle.std.specs.Str.Parse.{digits_value}
use Rattle.hgs_bytes.specs.Bytes.{same, begins_with}
use Rattle.hgs_bytes.specs.Text.{Line as TextLine, lines_of, split}
use Rattle.hgs_files.specs.Path.{is_store_path}
use Rattle.hgs_journal.specs.declared.fault.JournalFault.{JournalFault}
use Rattle.hgs_journal.specs.declared.fault.JournalFault.TheVariants.{Line, Version, Memory}
use Rattle.hgs_journal.specs.declared.journal.JournalLine.{JournalLine}
use Rattle.hgs_journal.specs.declared.backups.BackupLine.{BackupLine}
use Rattle.hgs_journal.specs.Names.{in_store, place, new_name}
use Rattle.hgs_journal.specs.Texts.{location, version_line, is_backup}

-- one more line before those that are read
abbrev pub line_then : {L : Type 0} → ℕ → Option L → Result (List L) JournalFault → Result (List L) JournalFault
line_then n None behind = Err (Line n)
line_then n (Some l) (Ok lines) = Ok (l ∷ lines)
line_then n (Some l) (Err f) = Err f

-- the fault that stands for want of memory
abbrev pub is_memory : JournalFault → Bool
is_memory Memory = true
is_memory Version = false
is_memory (Line n) = false

-- ---- the journal

abbrev pub offset_if : List ℕ → ℕ → Option ℕ
offset_if text n = if same (decimal n) text && nat_lt n (2 ^ 64) then Some n else None

-- the number below 2^64 whose decimal digits these are, without a needless zero
unfoldable pub offset_of : List ℕ → Option ℕ
offset_of text = offset_if text (digits_value 10 text)

abbrev pub named_line : List ℕ → Option ℕ → Option JournalLine
named_line name None = None
named_line name (Some offset) = if is_store_path (in_store name) then Some (record { name = name; offset = offset }) else None

abbrev pub line_of_parts : Option (List ℕ × List ℕ) → Option JournalLine
line_of_parts None = None
line_of_parts (Some p) = named_line p.0 (offset_of p.1)

-- the line of a text without its LF: what stands before the first NUL, and the offset behind it
abbrev pub journal_line_of : List ℕ → Option JournalLine
journal_line_of text = line_of_parts (split 0 text)

-- a line for each that has its LF, or the first fault, n lines standing before
abbrev pub journal_from : ℕ → List TextLine → Result (List JournalLine) JournalFault
journal_from n [] = Ok []
journal_from n (l ∷ ls) = if l.1 then line_then (n + 1) (journal_line_of l.0) (journal_from (n + 1) ls) else Ok []

abbrev pub read_journal : List ℕ → Result (List JournalLine) JournalFault
read_journal text = journal_from 0 (lines_of text)

-- ---- the list of backups

-- whether a location is plain, of the two that there are
abbrev pub plain_of : List ℕ → Option Bool
plain_of text = if same text (location false) then Some false else (if same text (location true) then Some true else None)

abbrev pub is_backup_line : Bool → List ℕ → List ℕ → Bool
is_backup_line plain file backup =
    is_store_path (place plain file) && is_store_path (place plain (new_name file)) && is_backup plain backup

abbrev pub placed_line : Option Bool → List ℕ → List ℕ → Option BackupLine
placed_line None file backup = None
placed_line (Some plain) file backup =
    if is_backup_line plain file backup then Some (record { plain = plain; file = file; backup = backup }) else None

-- the fields of a line, between its NULs
abbrev pub fields : List ℕ → List (List ℕ)
fields text = slice_split (λ b. b == 0) text

-- the location, the file and the backup, of just four fields; the last may be any
abbrev pub three_of_four : List (List ℕ) → Option (List ℕ × List ℕ × List ℕ)
three_of_four (first ∷ second ∷ third ∷ fourth ∷ []) = Some (first, second, third)
three_of_four _ = None

abbrev pub line_of_three : Option (List ℕ × List ℕ × List ℕ) → Option BackupLine
line_of_three None = None
line_of_three (Some f) = placed_line (plain_of f.0) f.1 f.2

-- the line of a text without its LF
abbrev pub backup_line_of : List ℕ → Option BackupLine
backup_line_of text = line_of_three (three_of_four (fields text))

abbrev pub whole_line : TextLine → Option BackupLine
whole_line l = if l.1 then backup_line_of l.0 else None

-- a line for each, which has its LF, or the first fault, n lines standing before
abbrev pub backups_from : ℕ → List TextLine → Result (List BackupLine) JournalFault
backups_from n [] = Ok []
backups_from n (l ∷ ls) = line_then (n + 1) (whole_line l) (backups_from (n + 1) ls)

-- the version is line 1
abbrev pub read_backups : List ℕ → Result (List BackupLine) JournalFault
read_backups text = if begins_with text version_line then backups_from 1 (lines_of (drop 2 text)) else Err Version
