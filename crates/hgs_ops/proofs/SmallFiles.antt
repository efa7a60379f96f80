-- The three files that a transaction may replace, and the names beside them.
use Rattle.std.proofs.Common.{◌≡◌, ◌⊎◌, ℕ, List, Bool, true, false, ◌||◌, refl, sym, ◌∙◌, ap, subst, inl, inr}
use Rattle.std.specs.Prelude.{codes}
use Rattle.hgs_bytes.specs.Bytes.{same}
use Rattle.hgs_bytes.specs.Theorems.ByteLemmas.{same-eq}
use Rattle.hgs_journal.specs.Covers.{is_loose}
use Rattle.hgs_journal.specs.Names.{backup_name, backups_path, is_replaced, new_name, place}
use Rattle.hgs_ops.specs.Operations.{strays}
use Rattle.hgs_ops.specs.Theorems.Touch.{bool, never}

-- two paths that a test tells apart
pub apart : (test : List ℕ → Bool) (p q : List ℕ) → test p ≡ true → test q ≡ false → same p q ≡ false
apart test p q a b = elim (bool (same p q)) [
  | inl e ↦ never (sym a ∙ ap test (same-eq p q e) ∙ b)
  | inr e ↦ e
]

-- one of the files that are replaced
pub data IsOne : Bool → List ℕ → Type 0 where
  phaseroots : IsOne false (codes "phaseroots")
  dirstate : IsOne true (codes "dirstate")
  bookmarks : IsOne true (codes "bookmarks")

or-true : (a b : Bool) → (a || b) ≡ true → (a ≡ true) ⊎ (b ≡ true)
or-true true b h = inl refl
or-true false b h = inr h

pub is-one : (plain : Bool) (file : List ℕ) → is_replaced plain file ≡ true → IsOne plain file
is-one true file h = elim (or-true (same file (codes "dirstate")) (same file (codes "bookmarks")) h) [
  | inl e ↦ subst (IsOne true) (sym (same-eq file (codes "dirstate") e)) dirstate
  | inr e ↦ subst (IsOne true) (sym (same-eq file (codes "bookmarks") e)) bookmarks
]
is-one false file h = subst (IsOne false) (sym (same-eq file (codes "phaseroots") h)) phaseroots

pub new-backup : (p q : Bool) (x y : List ℕ) → IsOne p x → IsOne q y → same (place p (new_name x)) (place q (backup_name y)) ≡ false
new-backup p q x y phaseroots phaseroots = refl
new-backup p q x y phaseroots dirstate = refl
new-backup p q x y phaseroots bookmarks = refl
new-backup p q x y dirstate phaseroots = refl
new-backup p q x y dirstate dirstate = refl
new-backup p q x y dirstate bookmarks = refl
new-backup p q x y bookmarks phaseroots = refl
new-backup p q x y bookmarks dirstate = refl
new-backup p q x y bookmarks bookmarks = refl

pub backups-apart : (p q : Bool) (x y : List ℕ) → IsOne p x → IsOne q y → same (place p (backup_name x)) (place q (backup_name y)) ≡ same (place p x) (place q y)
backups-apart p q x y phaseroots phaseroots = refl
backups-apart p q x y phaseroots dirstate = refl
backups-apart p q x y phaseroots bookmarks = refl
backups-apart p q x y dirstate phaseroots = refl
backups-apart p q x y dirstate dirstate = refl
backups-apart p q x y dirstate bookmarks = refl
backups-apart p q x y bookmarks phaseroots = refl
backups-apart p q x y bookmarks dirstate = refl
backups-apart p q x y bookmarks bookmarks = refl

-- the names beside them are strays
pub names-loose : (p : Bool) (x : List ℕ) → IsOne p x → (is_loose strays (place p (backup_name x)) ≡ true) × (is_loose strays (place p (new_name x)) ≡ true)
names-loose p x phaseroots = (refl, refl)
names-loose p x dirstate = (refl, refl)
names-loose p x bookmarks = (refl, refl)

pub list-apart : (p : Bool) (x : List ℕ) → IsOne p x → same backups_path (place p (backup_name x)) ≡ false
list-apart p x phaseroots = refl
list-apart p x dirstate = refl
list-apart p x bookmarks = refl
