-- What recovering finds in a tree: nothing to do, damage, or the operations that undo the open transaction.
use Rattle.std.specs.Prelude.{ℕ, Bool, List, [], ◌∷◌, length, nat_lt, Option, Some, None, Result, Ok, Err, if◌then◌else◌}
use Rattle.std.specs.Result.{result_map_both}
use Rattle.hgs_files.specs.declared.op.Op.{Op}
use Rattle.hgs_files.specs.Tree.{Tree, bytes_at}
use Rattle.hgs_journal.specs.declared.backups.BackupLine.{BackupLine}
use Rattle.hgs_journal.specs.declared.fault.JournalFault.{JournalFault}
use Rattle.hgs_journal.specs.declared.fault.JournalFault.TheVariants as faults
use Rattle.hgs_journal.specs.declared.journal.JournalLine.{JournalLine}
use Rattle.hgs_journal.specs.Names.{backups_path, in_store, journal_path, place}
use Rattle.hgs_journal.specs.Read.{read_backups, read_journal}
use Rattle.hgs_journal.specs.Undo.{undo_list}
use Rattle.hgs_loading.specs.Found.{and_then}
use Rattle.hgs_plan.specs.declared.damage.Part.TheVariants as parts
use Rattle.hgs_load.specs.declared.answer.ReadAnswer.{ReadAnswer}
use Rattle.hgs_load.specs.declared.answer.ReadAnswer.TheVariants.{Memory}
use Rattle.hgs_load.specs.View.{damaged}
use Rattle.hgs_recover.specs.declared.answer.RecoverAnswer.{RecoverAnswer}
use Rattle.hgs_recover.specs.declared.answer.RecoverAnswer.TheVariants.{Restored, NothingToDo}
use Rattle.hgs_recover.specs.Answer.{outcome_of_read}

-- ---- the files of the journal

-- a line out of form, or a list of another version
abbrev pub text_refusal : List ℕ → JournalFault → ReadAnswer
text_refusal path (faults.Line n) = damaged path parts.Journal 1 n
text_refusal path faults.Version = damaged path parts.Journal 2 0
text_refusal path faults.Memory = Memory

-- a file that is shorter than its line says that it was
abbrev pub short_refusal : List ℕ → ℕ → ReadAnswer
short_refusal path offset = damaged path parts.Journal 4 offset

-- a list or a backup that is not there
abbrev pub absent_refusal : List ℕ → ReadAnswer
absent_refusal path = damaged path parts.Journal 5 0

abbrev pub journal_said : List ℕ → Result (List JournalLine) ReadAnswer
journal_said text = result_map_both (λ lines. lines) (text_refusal journal_path) (read_journal text)

abbrev pub backups_said : List ℕ → Result (List BackupLine) ReadAnswer
backups_said text = result_map_both (λ lines. lines) (text_refusal backups_path) (read_backups text)

-- the bytes of a file that is to stand
abbrev pub standing : List ℕ → Option (List ℕ) → Result (List ℕ) ReadAnswer
standing path None = Err (absent_refusal path)
standing path (Some bytes) = Ok bytes

abbrev pub standing_in : List ℕ → Tree → Result (List ℕ) ReadAnswer
standing_in path t = standing path (t path)

abbrev pub backups_in : Tree → Result (List BackupLine) ReadAnswer
backups_in t = and_then (standing_in backups_path t) backups_said

-- ---- what the lines name

-- the bytes of a backup, none where the line names none
abbrev pub kept_at : Bool → List ℕ → Tree → Result (List ℕ) ReadAnswer
kept_at plain [] t = Ok []
kept_at plain (b ∷ backup) t = standing_in (place plain (b ∷ backup)) t

abbrev pub kept_in : BackupLine → Tree → Result (List ℕ) ReadAnswer
kept_in l t = kept_at l.plain l.backup t

-- those of all lines, or the first that is not there
abbrev pub all_kept_in : List BackupLine → Tree → Result (List (List ℕ)) ReadAnswer
all_kept_in [] t = Ok []
all_kept_in (l ∷ lines) t = and_then (kept_in l t) (λ bytes. and_then (all_kept_in lines t) (λ rest. Ok (bytes ∷ rest)))

-- the file is as long as before or longer; an absent one counts as an empty one
abbrev pub length_in : JournalLine → Tree → Result Unit ReadAnswer
length_in l t = if nat_lt (length (bytes_at t (in_store l.name))) l.offset then Err (short_refusal (in_store l.name) l.offset) else Ok tt

-- so are all, or this is the first that is shorter
abbrev pub lengths_in : List JournalLine → Tree → Result Unit ReadAnswer
lengths_in [] t = Ok tt
lengths_in (l ∷ lines) t = and_then (length_in l t) (λ x. lengths_in lines t)

-- ---- the whole

-- what a journal with this text comes to: the journal, the list, the backups and the lengths, in this order
abbrev pub undo_in : List ℕ → Tree → Result (List Op) ReadAnswer
undo_in text t =
    and_then (journal_said text) (λ journal.
    and_then (backups_in t) (λ backups.
    and_then (all_kept_in backups t) (λ kept.
    and_then (lengths_in journal t) (λ x.
    Ok (undo_list journal backups kept)))))

abbrev pub found_of : Option (List ℕ) → Tree → Result (Option (List Op)) ReadAnswer
found_of None t = Ok None
found_of (Some text) t = and_then (undo_in text t) (λ ops. Ok (Some ops))

-- none where no journal stands
abbrev pub found_in : Tree → Result (Option (List Op)) ReadAnswer
found_in t = found_of (t journal_path) t

abbrev pub answer_of : Result (Option (List Op)) ReadAnswer → RecoverAnswer
answer_of (Ok None) = NothingToDo
answer_of (Ok (Some ops)) = Restored
answer_of (Err e) = outcome_of_read e

-- what recovering comes to where no call fails and there is memory
abbrev pub answer_in : Tree → RecoverAnswer
answer_in t = answer_of (found_in t)
