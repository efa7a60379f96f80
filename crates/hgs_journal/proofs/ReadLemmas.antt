-- Lines that are read one after another.
use Rattle.std.proofs.Common.{◌≡◌, ℕ, ◌+◌, Bool, List, [], ◌∷◌, ◌++◌, length, arith, Some, None, Result, Ok, Err, refl, sym, ◌∙◌, ap, append_assoc, append-nil}
use Rattle.hgs_bytes.specs.Text.{lines_of, split}
use Rattle.hgs_bytes.specs.Theorems.TextLemmas.{lines_split, lines_last}
use Rattle.hgs_journal.specs.declared.fault.JournalFault.{JournalFault}
use Rattle.hgs_journal.specs.declared.fault.JournalFault.TheVariants.{Line}
use Rattle.hgs_journal.specs.declared.journal.JournalLine.{JournalLine}
use Rattle.hgs_journal.specs.declared.backups.BackupLine.{BackupLine}
use Rattle.hgs_journal.specs.Read.{line_then, journal_line_of, journal_from, whole_line, backups_from}

-- lines that stand before
abbrev pub with_front : {L : Type 0} → List L → Result (List L) JournalFault → Result (List L) JournalFault
with_front front (Ok lines) = Ok (front ++ lines)
with_front front (Err e) = Err e

front_more : {L : Type 0} (front : List L) (n : ℕ) (l : L) (x : Result (List L) JournalFault) → with_front front (line_then n (Some l) x) ≡ with_front (front ++ l ∷ []) x
front_more front n l (Ok lines) = ap (λ ls. Ok ls) (sym (append_assoc front (l ∷ []) lines))
front_more front n l (Err e) = refl

-- ---- the journal

-- what the lines so far and those behind them give
abbrev pub all_of : List JournalLine → ℕ → List ℕ → Result (List JournalLine) JournalFault
all_of lines n rest = with_front lines (journal_from n (lines_of rest))

all-split : (lines : List JournalLine) (n : ℕ) (rest line behind : List ℕ) → split 10 rest ≡ Some (line, behind)
    → all_of lines n rest ≡ with_front lines (line_then (n + 1) (journal_line_of line) (journal_from (n + 1) (lines_of behind)))
all-split lines n rest line behind e = ap (λ ls. with_front lines (journal_from n ls)) (lines_split rest (line, behind) e)

pub one_line : (lines new : List JournalLine) (l : JournalLine) (n k : ℕ) (rest line behind : List ℕ) (all : Result (List JournalLine) JournalFault) → all_of lines n rest ≡ all → split 10 rest ≡ Some (line, behind) → k ≡ n + 1
    → Some l ≡ journal_line_of line → new ≡ lines ++ l ∷ [] → all_of new k behind ≡ all
one_line lines new l n k rest line behind all inv cut count read is =
    ap (λ ls. all_of ls k behind) is ∙ sym (front_more lines k l (journal_from k (lines_of behind)))
    ∙ ap (λ o. with_front lines (line_then k o (journal_from k (lines_of behind)))) read
    ∙ ap (λ j. with_front lines (line_then j (journal_line_of line) (journal_from j (lines_of behind)))) count
    ∙ sym (all-split lines n rest line behind cut) ∙ inv

pub line_refused : (lines : List JournalLine) (n k : ℕ) (rest line behind : List ℕ) (all : Result (List JournalLine) JournalFault) → all_of lines n rest ≡ all → split 10 rest ≡ Some (line, behind) → k ≡ n + 1
    → None ≡ journal_line_of line → all ≡ Err (Line k)
line_refused lines n k rest line behind all inv cut count read =
    sym inv ∙ all-split lines n rest line behind cut
    ∙ ap (λ j. with_front lines (line_then j (journal_line_of line) (journal_from j (lines_of behind)))) (sym count)
    ∙ ap (λ o. with_front lines (line_then k o (journal_from k (lines_of behind)))) (sym read)

-- a rest without an LF is no line
rest-left : (n : ℕ) (rest : List ℕ) → split 10 rest ≡ None → journal_from n (lines_of rest) ≡ Ok []
rest-left n [] e = refl
rest-left n (b ∷ rest) e = ap (journal_from n) (lines_last b rest e)

pub rest_passed : (lines : List JournalLine) (n : ℕ) (rest : List ℕ) (all : Result (List JournalLine) JournalFault) → all_of lines n rest ≡ all → split 10 rest ≡ None → all ≡ Ok lines
rest_passed lines n rest all inv e = sym inv ∙ ap (with_front lines) (rest-left n rest e) ∙ ap (λ ls. Ok ls) (append-nil lines)

-- ---- the list of backups

abbrev pub backups_so_far : List BackupLine → ℕ → List ℕ → Result (List BackupLine) JournalFault
backups_so_far lines n rest = with_front lines (backups_from n (lines_of rest))

pub one_backup : (lines new : List BackupLine) (l : BackupLine) (n k : ℕ) (rest line behind : List ℕ) (whole : Bool) (all : Result (List BackupLine) JournalFault) → backups_so_far lines n rest ≡ all
    → lines_of rest ≡ (line, whole) ∷ lines_of behind → k ≡ n + 1 → Some l ≡ whole_line (line, whole) → new ≡ lines ++ l ∷ [] → backups_so_far new k behind ≡ all
one_backup lines new l n k rest line behind whole all inv cut count read is =
    ap (λ ls. backups_so_far ls k behind) is ∙ sym (front_more lines k l (backups_from k (lines_of behind)))
    ∙ ap (λ o. with_front lines (line_then k o (backups_from k (lines_of behind)))) read
    ∙ ap (λ j. with_front lines (line_then j (whole_line (line, whole)) (backups_from j (lines_of behind)))) count
    ∙ ap (λ ls. with_front lines (backups_from n ls)) (sym cut) ∙ inv

pub backup_refused : (lines : List BackupLine) (n k : ℕ) (rest line behind : List ℕ) (whole : Bool) (all : Result (List BackupLine) JournalFault) → backups_so_far lines n rest ≡ all
    → lines_of rest ≡ (line, whole) ∷ lines_of behind → k ≡ n + 1 → None ≡ whole_line (line, whole) → all ≡ Err (Line k)
backup_refused lines n k rest line behind whole all inv cut count read =
    sym inv ∙ ap (λ ls. with_front lines (backups_from n ls)) cut
    ∙ ap (λ j. with_front lines (line_then j (whole_line (line, whole)) (backups_from j (lines_of behind)))) (sym count)
    ∙ ap (λ o. with_front lines (line_then k o (backups_from k (lines_of behind)))) (sym read)

pub backups_end : (lines : List BackupLine) (n : ℕ) (rest : List ℕ) (all : Result (List BackupLine) JournalFault) → backups_so_far lines n rest ≡ all → length rest ≡ 0 → all ≡ Ok lines
backups_end lines n [] all inv e = sym inv ∙ ap (λ ls. Ok ls) (append-nil lines)
backups_end lines n (b ∷ rest) all inv e = absurd (omega (arith, e))
