-- The line that `log` writes of a changeset.
use Rattle.std.specs.Prelude.{ℕ, Bool, true, false, List, [], ◌∷◌, ◌++◌, codes, decimal, Option, Some, None, Result, Ok, Err, slice_get, unwrap_or}
use Rattle.std.specs.Fmt.{signed_decimal}
use Rattle.std.specs.Option.{option_map}
use Rattle.hgs_bytes.specs.Text.{split}
use Rattle.hgs_index.specs.declared.entry.Entry.{Entry}
use Rattle.hgs_index.specs.declared.kinds.Span.{Span}
use Rattle.hgs_index.specs.declared.texts.ChangeFault.{ChangeFault}
use Rattle.hgs_index.specs.declared.texts.ChangeFault.TheVariants as change_faults
use Rattle.hgs_index.specs.ChangeText.{Change, read_change}
use Rattle.hgs_index.specs.Hex.{hex}
use Rattle.hgs_plan.specs.declared.damage.Part.TheVariants as parts
use Rattle.hgs_revlog.specs.declared.fault.RevFault.{RevFault}
use Rattle.hgs_revlog.specs.Text.{span_in, text_of}
use Rattle.hgs_load.specs.declared.answer.ReadAnswer.{ReadAnswer}
use Rattle.hgs_load.specs.declared.answer.ReadAnswer.TheVariants.{Memory}
use Rattle.hgs_load.specs.Asks.{Asks, answer, read}
use Rattle.hgs_load.specs.View.{View, changelog_index, changelog_data, damaged, revlog_refusal}

-- a tab before the next field
abbrev pub field : List ℕ → List ℕ
field text = 9 ∷ text

abbrev pub parent_text : Option ℕ → List ℕ
parent_text None = codes "-1"
parent_text (Some rev) = decimal rev

abbrev pub before_lf : List ℕ → Option (List ℕ × List ℕ) → List ℕ
before_lf text None = text
before_lf text (Some p) = p.0

-- what stands before the first LF, or all
abbrev pub first_line : List ℕ → List ℕ
first_line text = before_lf text (split 10 text)

-- what the index says of a changeset
abbrev pub revision_fields : ℕ → Entry → List ℕ
revision_fields rev e = decimal rev ++ field (hex e.node.0) ++ field (parent_text e.p1) ++ field (parent_text e.p2)

-- what its text says
abbrev pub change_fields : Change → List ℕ
change_fields c = field (signed_decimal c.seconds) ++ field (signed_decimal c.offset) ++ field c.user ++ field (first_line c.description)

-- revision, node, parents, seconds, offset, user and the description's first line, with tabs between
abbrev pub line_text : ℕ → Entry → Change → List ℕ
line_text rev e c = revision_fields rev e ++ change_fields c ++ 10 ∷ []

-- the refusal of a changeset's text
abbrev pub change_refusal : ℕ → ChangeFault → ReadAnswer
change_refusal rev change_faults.Memory = Memory
change_refusal rev change_faults.Shape = damaged changelog_index parts.Change 1 rev
change_refusal rev change_faults.Node = damaged changelog_index parts.Change 2 rev
change_refusal rev change_faults.Date = damaged changelog_index parts.Change 3 rev
change_refusal rev change_faults.Files = damaged changelog_index parts.Change 4 rev
change_refusal rev change_faults.Utf8 = damaged changelog_index parts.Change 5 rev

abbrev pub change_of_text : ℕ → Result Change ChangeFault → Result Change ReadAnswer
change_of_text rev (Ok c) = Ok c
change_of_text rev (Err f) = Err (change_refusal rev f)

abbrev pub change_of_chunk : ℕ → Result (List ℕ) RevFault → Result Change ReadAnswer
change_of_chunk rev (Err f) = Err (revlog_refusal changelog_index f)
change_of_chunk rev (Ok text) = change_of_text rev (read_change text)

-- the changeset of a revision whose chunk was read
abbrev pub change_at : View → ℕ → List ℕ → Result Change ReadAnswer
change_at view rev chunk = change_of_chunk rev (text_of view.changelog.entries rev chunk)

abbrev pub line_of_change : ℕ → Entry → Result Change ReadAnswer → Result (List ℕ) ReadAnswer
line_of_change rev e (Err refusal) = Err refusal
line_of_change rev e (Ok c) = Ok (line_text rev e c)

abbrev pub line_of_entry : View → ℕ → List ℕ → Option Entry → Result (List ℕ) ReadAnswer
line_of_entry view rev chunk None = Ok []
line_of_entry view rev chunk (Some e) = line_of_change rev e (change_at view rev chunk)

-- the line of a revision whose chunk was read
abbrev pub line_at : View → ℕ → List ℕ → Result (List ℕ) ReadAnswer
line_at view rev chunk = line_of_entry view rev chunk (slice_get view.changelog.entries rev)

-- one read of the chunk of an entry in a data file
abbrev pub chunk_asks : {A : Type 0} → List ℕ → Option Entry → (List ℕ → Result A ReadAnswer) → Asks (Result A ReadAnswer)
chunk_asks path None given = answer (given [])
chunk_asks path (Some e) given = read path e.offset e.stored (λ chunk. answer (given (unwrap_or chunk [])))

-- the file in which the chunks of a changelog stand
abbrev pub chunks_path : Bool → List ℕ
chunks_path false = changelog_data
chunks_path true = changelog_index

-- one read of these bytes of a file
abbrev pub span_asks : {A : Type 0} → List ℕ → Option Span → (List ℕ → Result A ReadAnswer) → Asks (Result A ReadAnswer)
span_asks path None given = answer (given [])
span_asks path (Some span) given = read path span.from span.len (λ chunk. answer (given (unwrap_or chunk [])))

-- One read of the chunk of a changeset's entry: in the data file, or in the index behind the entry, where the changelog is inline.
abbrev pub changeset_asks : {A : Type 0} → Bool → ℕ → Option Entry → (List ℕ → Result A ReadAnswer) → Asks (Result A ReadAnswer)
changeset_asks false rev entry given = chunk_asks changelog_data entry given
changeset_asks true rev entry given = span_asks changelog_index (option_map (span_in true rev) entry) given

-- what the line of a revision asks
abbrev pub line_asks : View → ℕ → Asks (Result (List ℕ) ReadAnswer)
line_asks view rev = changeset_asks view.changelog.inline rev (slice_get view.changelog.entries rev) (line_at view rev)

-- what the changeset of a revision asks
abbrev pub change_asks : View → ℕ → Asks (Result Change ReadAnswer)
change_asks view rev = changeset_asks view.changelog.inline rev (slice_get view.changelog.entries rev) (change_at view rev)
