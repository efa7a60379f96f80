-- Each line that is read has its paths.
use Rattle.std.proofs.Common.{◌≡◌, ℕ, zero, suc, ◌<◌, List, [], ◌∷◌, length, get_or, arith}
use Rattle.std.specs.Prelude.{Ok}
use Rattle.std.specs.List.{All, AllByRecursion}
use Rattle.hgs_journal.specs.declared.backups.BackupLine.{BackupLine}
use Rattle.hgs_journal.specs.declared.journal.JournalLine.{JournalLine}
use Rattle.hgs_journal.specs.Read.{read_backups, read_journal}
use Rattle.hgs_journal.specs.Texts.{AreBackupLines, HasPath, IsBackupLine, IsJournalLine}
use Rattle.hgs_journal.specs.Theorems.BackupText.{backups-found}
use Rattle.hgs_journal.specs.Theorems.JournalText.{journal-found}

both : {A : Type 0} (P Q : A → Type 0) (x : A) (xs : List A) → Q x → All Q xs → All Q (x ∷ xs)
both {A} P Q x xs here rest = at
  where
    at : (k : ℕ) (d : A) → k < length (x ∷ xs) → Q (get_or (x ∷ xs) k d)
    at zero d lt = here
    at (suc k) d lt = rest k d (omega (arith, lt))

all-of : {A : Type 0} (P Q : A → Type 0) (xs : List A) → ((x : A) → P x → Q x) → AllByRecursion P xs → All Q xs
all-of P Q [] f all = λ k d lt. absurd (omega (arith, lt))
all-of P Q (x ∷ xs) f all = both P Q x xs (f x all.0) (all-of P Q xs f all.1)

pub paths-read : (text : List ℕ) (lines : List JournalLine) → read_journal text ≡ Ok lines → All HasPath lines
paths-read text lines e = all-of IsJournalLine HasPath lines (λ l good. good.path) (journal-found text lines e).each

each-line : (text : List ℕ) (lines : List BackupLine) → AreBackupLines text lines → AllByRecursion IsBackupLine lines
each-line text [] a = tt
each-line text (l ∷ lines) a = (a.0, each-line a.4 lines a.6)

pub backups-read : (text : List ℕ) (lines : List BackupLine) → read_backups text ≡ Ok lines → All IsBackupLine lines
backups-read text lines e = let t = backups-found text lines e in all-of IsBackupLine IsBackupLine lines (λ l good. good) (each-line t.0 lines t.2)
