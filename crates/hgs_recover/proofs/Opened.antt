-- What is found in a tree whose journal leads back.
use Rattle.std.proofs.Common.{◌≡◌, ℕ, ◌≤◌, List, [], ◌∷◌, length, Bool, true, false, refl, sym, ◌∙◌, ap, subst, inl, inr, arith}
use Rattle.std.specs.Prelude.{Option, Some, Result, Ok, Err, nat_lt, unwrap_or, if◌then◌else◌}
use Rattle.std.specs.List.{AllByRecursion}
use Rattle.std.specs.Result.{result_map_both}
use Rattle.std.proofs.lemmas.Bool.Decides.{nat_tests}
use Rattle.hgs_files.specs.declared.op.Op.{Op}
use Rattle.hgs_files.specs.Tree.{Tree, bytes_at}
use Rattle.hgs_journal.specs.declared.backups.BackupLine.{BackupLine}
use Rattle.hgs_journal.specs.declared.journal.JournalLine.{JournalLine}
use Rattle.hgs_journal.specs.Begun.{LeadsBack}
use Rattle.hgs_journal.specs.Covers.{Covers, KeepsBackup, KeepsFront, bytes_of_backup, kept_bytes, undo_ops}
use Rattle.hgs_journal.specs.Names.{backups_path, in_store, journal_path, place}
use Rattle.hgs_journal.specs.Read.{read_backups, read_journal}
use Rattle.hgs_journal.specs.Undo.{undo_list}
use Rattle.hgs_loading.specs.Found.{and_then}
use Rattle.hgs_load.specs.declared.answer.ReadAnswer.{ReadAnswer}
use Rattle.hgs_ops.specs.Operations.{strays}
use Rattle.hgs_recover.specs.Found.{all_kept_in, backups_in, backups_said, found_in, found_of, journal_said, kept_at, kept_in, length_in, lengths_in, short_refusal, standing, text_refusal, undo_in}
use Rattle.hgs_recover.proofs.Below.{Below}

-- one answer, and the next with it
then-is : {A B : Type 0} (given : Result A ReadAnswer) (x : A) (more : A → Result B ReadAnswer) → given ≡ Ok x → and_then given more ≡ more x
then-is given x more e = ap (λ r. and_then r more) e

-- ---- backups

kept-named : (t : Tree) (l : BackupLine) (backup bytes : List ℕ) → t (place l.plain backup) ≡ Some bytes → kept_at l.plain backup t ≡ Ok (bytes_of_backup t l backup)
kept-named t l [] bytes e = refl
kept-named t l (b ∷ backup) bytes e = ap (standing (place l.plain (b ∷ backup))) e ∙ sym (ap (λ (f : Option (List ℕ)). Ok (unwrap_or f [])) e)

kept-one : (t q : Tree) (l : BackupLine) → KeepsBackup t q l → kept_in l t ≡ Ok (bytes_of_backup t l l.backup)
kept-one t q l (inl h) = kept-named t l l.backup h.1 h.2
kept-one t q l (inr h) = subst (λ (b : List ℕ). kept_at l.plain b t ≡ Ok (bytes_of_backup t l b)) (sym h.0) refl

all-kept : (t q : Tree) (lines : List BackupLine) → AllByRecursion (KeepsBackup t q) lines → all_kept_in lines t ≡ Ok (kept_bytes t lines)
all-kept t q [] h = refl
all-kept t q (l ∷ lines) h =
    let one = bytes_of_backup t l l.backup in
    then-is (kept_in l t) one (λ bytes. and_then (all_kept_in lines t) (λ rest. Ok (bytes ∷ rest))) (kept-one t q l h.0)
    ∙ then-is (all_kept_in lines t) (kept_bytes t lines) (λ rest. Ok (one ∷ rest)) (all-kept t q lines h.1)

-- ---- lengths

long : (path : List ℕ) (length offset : ℕ) → offset ≤ length → (if nat_lt length offset then Err (short_refusal path offset) else (let ok : Result Unit ReadAnswer = Ok tt in ok)) ≡ Ok tt
long path length offset h = by (nat_lt length offset) refl
  where
    by : (b : Bool) → nat_lt length offset ≡ b → (if b then Err (short_refusal path offset) else (let ok : Result Unit ReadAnswer = Ok tt in ok)) ≡ Ok tt
    by true e = absurd (grind (arith, nat_tests, e, h))
    by false e = refl

length-one : (t q : Tree) (l : JournalLine) → KeepsFront t q l → length_in l t ≡ Ok tt
length-one t q l (inl h) = long (in_store l.name) (length (bytes_at t (in_store l.name))) l.offset h.0
length-one t q l (inr h) = let e = h.0 in long (in_store l.name) (length (bytes_at t (in_store l.name))) l.offset (omega (arith, e))

all-long : (t q : Tree) (lines : List JournalLine) → AllByRecursion (KeepsFront t q) lines → lengths_in lines t ≡ Ok tt
all-long t q [] h = refl
all-long t q (l ∷ lines) h = then-is (length_in l t) tt (λ x. lengths_in lines t) (length-one t q l h.0) ∙ all-long t q lines h.1

-- ---- the whole

module _ (b : Below) (t q : Tree) (c : Covers strays t q) where
  abbrev ops : List Op
  ops = undo_ops t c.journal c.backups

  journal-read : read_journal c.journal_bytes ≡ Ok c.journal
  journal-read = b.journal_reads c.journal_bytes c.journal c.journal_text

  backups-read : read_backups c.backups_bytes ≡ Ok c.backups
  backups-read = b.backups_read c.backups_bytes c.backups c.backups_text

  journal-is : journal_said c.journal_bytes ≡ Ok c.journal
  journal-is = ap (result_map_both (λ lines. lines) (text_refusal journal_path)) journal-read

  backups-are : backups_in t ≡ Ok c.backups
  backups-are =
      ap (λ f. and_then (standing backups_path f) backups_said) c.backups_stand
      ∙ ap (result_map_both (λ lines. lines) (text_refusal backups_path)) backups-read

  undo-is : undo_in c.journal_bytes t ≡ Ok ops
  undo-is =
      let kept = kept_bytes t c.backups in
      then-is (journal_said c.journal_bytes) c.journal _ journal-is
      ∙ then-is (backups_in t) c.backups _ backups-are
      ∙ then-is (all_kept_in c.backups t) kept (λ k. and_then (lengths_in c.journal t) (λ x. Ok (undo_list c.journal c.backups k))) (all-kept t q c.backups c.kept)
      ∙ then-is (lengths_in c.journal t) tt (λ x. Ok (undo_list c.journal c.backups kept)) (all-long t q c.journal c.fronts)

  pub found-open : found_in t ≡ Ok (Some ops)
  found-open = ap (λ f. found_of f t) c.journal_stands ∙ then-is (undo_in c.journal_bytes t) ops (λ o. Ok (Some o)) undo-is

  -- the journal and the list are read so
  pub leads-back : LeadsBack strays c.journal c.backups t q
  leads-back = record {
    covers = c;
    reads = record {
      journal_read = ap (λ (f : Option (List ℕ)). read_journal (unwrap_or f [])) c.journal_stands ∙ journal-read;
      backups_read = ap (λ (f : Option (List ℕ)). read_backups (unwrap_or f [])) c.backups_stand ∙ backups-read;
    };
  }
