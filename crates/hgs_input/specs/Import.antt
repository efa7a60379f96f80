-- The records of several changesets, one after another, and what an input of them is read as.
use Rattle.std.specs.Prelude.{◌≡◌, ◌≤◌, ℕ, zero, suc, ◌&&◌, ◌==◌, not, nat_lt, List, [], ◌∷◌, ◌++◌, length, Option, Some, None, Result, Ok, Err, codes, map, if◌then◌else◌, ⊤}
use Rattle.std.specs.List.{concat}
use Rattle.hgs_bytes.specs.Bytes.{same}
use Rattle.hgs_bytes.specs.Text.{line}
use Rattle.hgs_model.specs.Valid.{IsNewChange}
use Rattle.hgs_model.specs.declared.command.NewChange.{NewChange}
use Rattle.hgs_input.specs.Read.{Rest, Reading, ◌>>=◌, bad_at, more, next_line, nothing_behind, place, record_from, start_of}
use Rattle.hgs_input.specs.Record.{Wording, most_input, record_text}
use Rattle.hgs_input.specs.declared.fault.InputFault.{InputFault}

-- the most records of an import
abbrev pub most_records : ℕ
most_records = 10000

abbrev pub end_line : List ℕ
end_line = codes "end import"

-- ---- the grammar

-- the text is a record of the changeset
pub record IsRecordText (text : List ℕ) (c : NewChange) : Type 0 where
  pub says : Wording
  pub is : text ≡ record_text says c
  pub valid : IsNewChange c

-- each text is a record of one changeset, in order
abbrev pub AreRecordTexts : List (List ℕ) → List NewChange → Type 0
AreRecordTexts [] [] = ⊤
AreRecordTexts [] (c ∷ changes) = ⊥
AreRecordTexts (text ∷ texts) [] = ⊥
AreRecordTexts (text ∷ texts) (c ∷ changes) = IsRecordText text c × AreRecordTexts texts changes

-- the text is records of 1 to 10,000 changesets and the last line
pub record IsImportText (text : List ℕ) (changes : List NewChange) : Type 0 where
  pub texts : List (List ℕ)
  pub is : text ≡ concat texts ++ line end_line
  pub records : AreRecordTexts texts changes
  pub least : 1 ≤ length changes
  pub most : length changes ≤ most_records

-- the bytes are such a text, and no more than an input may have
pub record IsImport (bytes : List ℕ) (changes : List NewChange) : Type 0 where
  pub text : IsImportText bytes changes
  pub size : length bytes ≤ most_input

-- records that are worded alike
abbrev pub import_text : Wording → List NewChange → List ℕ
import_text says changes = concat (map (record_text says) changes) ++ line end_line

-- ---- what an input is read as

-- behind so many records: at the last line no record, which comes behind one at the earliest; else a record, where one more may come
abbrev pub record_at : ℕ → Rest → List ℕ → Rest → Reading (Option NewChange)
record_at count r said behind =
    if same said end_line && not (count == 0) then Ok (None, behind)
    else if nat_lt count most_records then (record_from r >>= λ c. Ok (Some c.0, c.1))
    else Err (bad_at (place r))

abbrev pub next_record : ℕ → Rest → Reading (Option NewChange)
next_record count r = next_line r >>= λ l. record_at count r l.0 l.1

-- these changesets and those behind them; n is no less than the number of bytes that are left
abbrev pub records_from : ℕ → List NewChange → Rest → Reading (List NewChange)
records_from zero changes r = Err (bad_at r.whole)
records_from (suc n) changes r = next_record (length changes) r >>= λ c. more changes c.0 c.1 (λ all rest. records_from n all rest)

-- the changesets up to the last line, and what is left behind it
abbrev pub import_from : Rest → Reading (List NewChange)
import_from r = records_from (length r.bytes) [] r

-- the changesets with nothing behind them, or the first fault of the input
abbrev pub read_import : List ℕ → Result (List NewChange) InputFault
read_import bytes = do
  changes ← import_from (start_of bytes)
  end ← nothing_behind changes.1
  Ok changes.0
