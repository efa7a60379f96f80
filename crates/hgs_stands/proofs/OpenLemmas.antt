-- What is restored stands, and an open tree is open for one repository.
use Rattle.std.proofs.Common.{◌≡◌, ℕ, List, [], refl, sym, ◌∙◌, ap, subst, inl, inr}
use Rattle.std.specs.Prelude.{Option, None, unwrap_or}
use Rattle.std.specs.List.{list_all}
use Rattle.hgs_bytes.specs.Bytes.{among}
use Rattle.hgs_files.specs.declared.op.Op.{Op}
use Rattle.hgs_files.specs.Tree.{Tree, after_all}
use Rattle.hgs_journal.specs.declared.backups.BackupLine.{BackupLine}
use Rattle.hgs_journal.specs.declared.journal.JournalLine.{JournalLine}
use Rattle.hgs_journal.specs.Covers.{Covers, HasOwnStrays, IsRestored, ReadsAs, Restores, undo_ops}
use Rattle.hgs_journal.specs.Names.{journal_path}
use Rattle.hgs_journal.specs.Theorems.UndoStops.{reads-of, read-covers, undo-leads}
use Rattle.hgs_model.specs.Repo.{Repo}
use Rattle.hgs_stands.specs.Open.{IsOpen}
use Rattle.hgs_stands.specs.Places.{requires_path}
use Rattle.hgs_stands.specs.Requires.{IsInProfile, needed, words_of}
use Rattle.hgs_stands.specs.Same.{AreStrays}
use Rattle.hgs_stands.specs.Stands.{Stands}
use Rattle.hgs_stands.specs.Theorems.Below.{HistoryLaws, NameLaws, TextLaws}
use Rattle.hgs_stands.specs.Theorems.LooseLemmas.{not-loose, same-beside}
use Rattle.hgs_stands.specs.Theorems.Lower as lower
use Rattle.hgs_stands.proofs.SameLemmas.{stands-once}
use Rattle.hgs_stands.specs.Theorems.StayLemmas.{stands-on}
use Rattle.hgs_stands.specs.Theorems.Basics.{never, none-some, some-same}

restored-bytes : (now before : Option (List ℕ)) → IsRestored now before → unwrap_or now [] ≡ unwrap_or before []
restored-bytes now before (inl e) = ap (λ o. unwrap_or o []) e
restored-bytes now before (inr e) = ap (λ o. unwrap_or o []) e.0 ∙ sym (ap (λ o. unwrap_or o []) e.1)

-- an empty file requires nothing, so it is not the one that stands
required : (q : Tree) (now : Option (List ℕ)) → IsInProfile q → IsRestored now (q requires_path) → now ≡ q requires_path
required q now p (inl e) = e
required q now p (inr e) = never (sym (ap (λ text. list_all (λ word. among word (words_of text)) needed) (sym (some-same [] p.text [] (sym p.there ∙ e.1))) ∙ p.whole))

none-restored : (now before : Option (List ℕ)) → before ≡ None → IsRestored now before → now ≡ None
none-restored now before none (inl e) = e ∙ none
none-restored now before none (inr e) = none-some [] (sym none ∙ e.1)

pub restored-is : (names : NameLaws) (strays : List (List ℕ)) (u q : Tree) (r : Repo) → AreStrays strays → Restores strays u q → Stands q r → Stands u r
restored-is names strays u q r are restored s =
    stands-on names q u r (same-beside names strays q u r are (required q (u requires_path) s.requires (restored requires_path (not-loose strays requires_path are refl refl))) (λ path free. restored-bytes (u path) (q path) (restored path free))
    (none-restored (u journal_path) (q journal_path) s.no_journal (restored journal_path (not-loose strays journal_path are refl refl)))) s

leads : (strays : List (List ℕ)) (t q : Tree) (journal : List JournalLine) (backups : List BackupLine) → HasOwnStrays strays → Covers strays t q → ReadsAs t journal backups → Restores strays (after_all (undo_ops t journal backups) t) q
leads strays t q journal backups own covers reads =
    subst (λ (ops : List Op). Restores strays (after_all ops t) q) (read-covers strays t q covers journal backups reads) (undo-leads strays own t q covers)

-- the operations that undo the transaction lead to a tree that stands
pub undone-is : (names : NameLaws) (strays : List (List ℕ)) (t : Tree) (r : Repo) (journal : List JournalLine) (backups : List BackupLine) → HasOwnStrays strays → AreStrays strays → IsOpen strays t r → ReadsAs t journal backups → Stands (after_all (undo_ops t journal backups) t) r
undone-is names strays t r journal backups own are is_open reads = restored-is names strays (after_all (undo_ops t journal backups) t) is_open.0 r are (leads strays t is_open.0 journal backups own is_open.1 reads) is_open.2

pub open-same : (texts : TextLaws) (laws : HistoryLaws) (names : NameLaws) (strays : List (List ℕ)) (t : Tree) (r s : Repo) → HasOwnStrays strays → AreStrays strays → IsOpen strays t r → IsOpen strays t s → r ≡ s
open-same texts laws names strays t r s own are a b =
    let reads = reads-of strays t a.0 a.1 in
    stands-once texts laws (after_all (undo_ops t a.1.journal a.1.backups) t) r s (undone-is names strays t r a.1.journal a.1.backups own are a reads) (undone-is names strays t s a.1.journal a.1.backups own are b reads)

-- ---- the same, over the proofs of the crates below

pub restored-stands : (strays : List (List ℕ)) (u q : Tree) (r : Repo) → AreStrays strays → Restores strays u q → Stands q r → Stands u r
restored-stands = restored-is lower.file_names

pub undone-stands : (strays : List (List ℕ)) (t : Tree) (r : Repo) (journal : List JournalLine) (backups : List BackupLine) → HasOwnStrays strays → AreStrays strays → IsOpen strays t r → ReadsAs t journal backups → Stands (after_all (undo_ops t journal backups) t) r
undone-stands = undone-is lower.file_names
