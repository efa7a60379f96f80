-- The names of a transaction differ, and its own strays are loose.
use Rattle.std.proofs.Common.{◌≡◌, ◌⊎◌, ℕ, List, [], ◌∷◌, Bool, true, false, ◌||◌, refl, sym, ◌∙◌, ap, subst, inl, inr}
use Rattle.std.specs.Prelude.{codes}
use Rattle.std.specs.List.{AllByRecursion, list_all}
use Rattle.hgs_bytes.specs.Bytes.{same, among}
use Rattle.hgs_bytes.specs.Theorems.ByteLemmas.{same-eq}
use Rattle.hgs_journal.specs.declared.backups.BackupLine.{BackupLine}
use Rattle.hgs_journal.specs.Names.{place, new_name, backup_name, journal_path, new_journal_path, backups_path, is_replaced, locks}
use Rattle.hgs_journal.specs.Covers.{own_strays, HasOwnStrays, is_loose}
use Rattle.hgs_journal.specs.Theorems.LackLemmas.{both-true}
use Rattle.hgs_journal.specs.Theorems.Undoing.{NewNamesLoose}

-- one of the files that are replaced
pub data IsOne : Bool → List ℕ → Type 0 where
  phaseroots : IsOne false (codes "phaseroots")
  dirstate : IsOne true (codes "dirstate")
  bookmarks : IsOne true (codes "bookmarks")

pub or-true : (a b : Bool) → (a || b) ≡ true → (a ≡ true) ⊎ (b ≡ true)
or-true true b h = inl refl
or-true false b h = inr h

pub is-one : (plain : Bool) (file : List ℕ) → is_replaced plain file ≡ true → IsOne plain file
is-one true file h = elim (or-true (same file (codes "dirstate")) (same file (codes "bookmarks")) h) [
  | inl e ↦ subst (IsOne true) (sym (same-eq file (codes "dirstate") e)) dirstate
  | inr e ↦ subst (IsOne true) (sym (same-eq file (codes "bookmarks") e)) bookmarks
]
is-one false file h = subst (IsOne false) (sym (same-eq file (codes "phaseroots") h)) phaseroots

pub new-backup : (p q : Bool) (x y : List ℕ) → IsOne p x → IsOne q y → same (place p (new_name x)) (place q (backup_name y)) ≡ false
new-backup p q x y phaseroots phaseroots = refl
new-backup p q x y phaseroots dirstate = refl
new-backup p q x y phaseroots bookmarks = refl
new-backup p q x y dirstate phaseroots = refl
new-backup p q x y dirstate dirstate = refl
new-backup p q x y dirstate bookmarks = refl
new-backup p q x y bookmarks phaseroots = refl
new-backup p q x y bookmarks dirstate = refl
new-backup p q x y bookmarks bookmarks = refl

pub file-backup : (p q : Bool) (x y : List ℕ) → IsOne p x → IsOne q y → same (place p x) (place q (backup_name y)) ≡ false
file-backup p q x y phaseroots phaseroots = refl
file-backup p q x y phaseroots dirstate = refl
file-backup p q x y phaseroots bookmarks = refl
file-backup p q x y dirstate phaseroots = refl
file-backup p q x y dirstate dirstate = refl
file-backup p q x y dirstate bookmarks = refl
file-backup p q x y bookmarks phaseroots = refl
file-backup p q x y bookmarks dirstate = refl
file-backup p q x y bookmarks bookmarks = refl

-- a new name, a file: neither the journal nor the list
pub record IsFree (p : List ℕ) : Type 0 where
  pub journal : same p journal_path ≡ false
  pub list : same p backups_path ≡ false

pub new-free : (p : Bool) (x : List ℕ) → IsOne p x → IsFree (place p (new_name x))
new-free p x phaseroots = record { journal = refl; list = refl }
new-free p x dirstate = record { journal = refl; list = refl }
new-free p x bookmarks = record { journal = refl; list = refl }

pub file-free : (p : Bool) (x : List ℕ) → IsOne p x → IsFree (place p x)
file-free p x phaseroots = record { journal = refl; list = refl }
file-free p x dirstate = record { journal = refl; list = refl }
file-free p x bookmarks = record { journal = refl; list = refl }

-- ---- the transaction's own strays are loose

pub or-right : (a b : Bool) → b ≡ true → (a || b) ≡ true
or-right true b h = refl
or-right false b h = h

stray-loose : (strays : List (List ℕ)) (p : List ℕ) → among p strays ≡ true → is_loose strays p ≡ true
stray-loose strays p h = or-right (among p locks) (among p strays) h

all-among : (strays own : List (List ℕ)) (p : List ℕ) → list_all (λ x. among x strays) own ≡ true → among p own ≡ true → among p strays ≡ true
all-among strays [] p h m = cc
all-among strays (x ∷ own) p h m =
    let both = both-true (among x strays) (list_all (λ y. among y strays) own) h in
    elim (or-true (same p x) (among p own) m) [
      | inl e ↦ ap (λ y. among y strays) (same-eq p x e) ∙ both.0
      | inr e ↦ all-among strays own p both.1 e
    ]

pub own-loose : (strays : List (List ℕ)) (p : List ℕ) → HasOwnStrays strays → among p own_strays ≡ true → is_loose strays p ≡ true
own-loose strays p h m = stray-loose strays p (all-among strays (new_journal_path ∷ own_strays) p h (or-right (same p new_journal_path) (among p own_strays) m))

pub new-journal-loose : (strays : List (List ℕ)) → HasOwnStrays strays → is_loose strays new_journal_path ≡ true
new-journal-loose strays h = stray-loose strays new_journal_path (all-among strays (new_journal_path ∷ own_strays) new_journal_path h refl)

pub new-own : (p : Bool) (x : List ℕ) → IsOne p x → among (place p (new_name x)) own_strays ≡ true
new-own p x phaseroots = refl
new-own p x dirstate = refl
new-own p x bookmarks = refl

pub backup-own : (p : Bool) (x : List ℕ) → IsOne p x → among (place p (backup_name x)) own_strays ≡ true
backup-own p x phaseroots = refl
backup-own p x dirstate = refl
backup-own p x bookmarks = refl

abbrev pub AllOnes : List BackupLine → Type 0
AllOnes backups = AllByRecursion (λ (l : BackupLine). IsOne l.plain l.file) backups

pub all-ones : (backups : List BackupLine) → list_all (λ (l : BackupLine). is_replaced l.plain l.file) backups ≡ true → AllOnes backups
all-ones [] h = tt
all-ones (l ∷ backups) h =
    let both = both-true (is_replaced l.plain l.file) (list_all (λ (m : BackupLine). is_replaced m.plain m.file) backups) h in
    (is-one l.plain l.file both.0, all-ones backups both.1)

pub new-names-loose : (strays : List (List ℕ)) (backups : List BackupLine) → HasOwnStrays strays → AllOnes backups → NewNamesLoose strays backups
new-names-loose strays [] h ones = tt
new-names-loose strays (l ∷ backups) h ones = (own-loose strays (place l.plain (new_name l.file)) h (new-own l.plain l.file ones.0), new-names-loose strays backups h ones.1)
