-- A revlog as it is loaded before more is appended to it, and its texts.
use Rattle.std.specs.Prelude.{◌≡◌, ℕ, ◌*◌, ◌==◌, ◌&&◌, nat_le, Bool, true, false, List, length, take, Result, Ok, Err, slice_get, if◌then◌else◌}
use Rattle.hgs_bytes.specs.Bytes.{IsPrefixOf}
use Rattle.hgs_files.specs.Tree.{Tree, bytes_at}
use Rattle.std.specs.Option.{option_map}
use Rattle.hgs_index.specs.Inline.{is_inline}
use Rattle.hgs_revlog.specs.declared.fault.RevFault.TheVariants as faults
use Rattle.hgs_revlog.specs.declared.fault.Tail.TheVariants.{Refuse}
use Rattle.hgs_revlog.specs.Load.{loaded_either}
use Rattle.hgs_revlog.specs.Log.{Log, stored_sum}
use Rattle.hgs_revlog.specs.Text.{span_in, text_of}
use Rattle.hgs_load.specs.declared.answer.ReadAnswer.{ReadAnswer}
use Rattle.hgs_reader.specs.Find.{chunk_placed, text_answer}
use Rattle.hgs_load.specs.View.{most_pieces, piece_length, revlog_refusal, log_answer}
use Rattle.hgs_loading.specs.Found.{and_then}

-- as much of an index is read; it holds more entries than a revlog may have
abbrev pub most_index : ℕ
most_index = most_pieces * piece_length

abbrev pub index_in : List ℕ → Tree → List ℕ
index_in index t = take most_index (bytes_at t index)

-- whether an index may have more bytes than these, which are as many as one of entries may have: its header says so
abbrev pub has_more : List ℕ → Bool
has_more bytes = nat_le most_index (length bytes) && is_inline bytes

-- an index of either form, an inline one with all its chunks
abbrev pub either_index_in : List ℕ → Tree → List ℕ
either_index_in index t = if has_more (index_in index t) then bytes_at t index else index_in index t

-- the revlog of an index in the form that it says; a rest that is no whole entry with its chunk is damage
abbrev pub either_log_in : List ℕ → Tree → Result Log ReadAnswer
either_log_in index t = log_answer index (loaded_either Refuse (either_index_in index t))

-- the data file ends where the last chunk does
abbrev pub data_in : List ℕ → List ℕ → Log → Tree → Result Unit ReadAnswer
data_in index chunks log t = if length (bytes_at t chunks) == stored_sum log.entries then Ok tt else Err (revlog_refusal index (faults.Tail (length log.entries)))

-- beside an inline index no data file is looked at
abbrev pub either_data_in : List ℕ → List ℕ → Log → Tree → Result Unit ReadAnswer
either_data_in index chunks log t = if log.inline then Ok tt else data_in index chunks log t

-- the revlog of both files
abbrev pub whole_log_in : List ℕ → List ℕ → Tree → Result Log ReadAnswer
whole_log_in index chunks t = and_then (either_log_in index t) (λ log. and_then (either_data_in index chunks log t) (λ x. Ok log))

-- An index was loaded as this revlog, and nothing was done to it since but that bytes were appended.
abbrev pub HasGrown : List ℕ → Log → Tree → Type 0
HasGrown index log t = (front : List ℕ) × IsPrefixOf front (bytes_at t index) × (loaded_either Refuse front ≡ Ok log)

-- ---- texts

-- the file that the chunks of a revlog in this form stand in
abbrev pub chunk_file : Bool → List ℕ → List ℕ → List ℕ
chunk_file true index chunks = index
chunk_file false index chunks = chunks

-- the chunk of a revision where the form has it
abbrev pub chunk_in_form : List ℕ → List ℕ → Log → ℕ → Tree → List ℕ
chunk_in_form index chunks log rev t = chunk_placed (bytes_at t (chunk_file log.inline index chunks)) (option_map (span_in log.inline rev) (slice_get log.entries rev))

-- the text of a revision
abbrev pub text_in_form : List ℕ → List ℕ → Log → ℕ → Tree → Result (List ℕ) ReadAnswer
text_in_form index chunks log rev t = text_answer index (text_of log.entries rev (chunk_in_form index chunks log rev t))
