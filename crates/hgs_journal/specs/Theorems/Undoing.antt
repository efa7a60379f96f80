-- What undoing leaves of each file.
use Rattle.std.proofs.Common.{◌≡◌, ◌⊎◌, ℕ, zero, suc, ◌≤◌, List, [], ◌∷◌, ◌++◌, Bool, true, false, cond, ◌||◌, length, take, map, reverse, refl, sym, ◌∙◌, ap, subst, inl, inr, arith, Option, Some, None, unwrap_or}
use Rattle.std.specs.Prelude.{◌==◌}
use Rattle.std.specs.List.{AllByRecursion}
use Rattle.std.proofs.lemmas.Bool.Decides.{nat_tests}
use Rattle.std.proofs.lemmas.List.{reverse-append}
use Rattle.hgs_bytes.specs.Bytes.{same, among}
use Rattle.hgs_bytes.specs.Theorems.ByteLemmas.{same-eq}
use Rattle.hgs_files.specs.declared.op.Op.TheVariants.{Cut, Rename, Remove, Create}
use Rattle.hgs_files.specs.Tree.{Tree, bytes_at, with_file, shortened, renamed, apply, after_all}
use Rattle.hgs_files.specs.Theorems.TreeLemmas.{with_file-same, after_all-append, bytes_at-is}
use Rattle.hgs_journal.specs.declared.journal.JournalLine.{JournalLine}
use Rattle.hgs_journal.specs.declared.backups.BackupLine.{BackupLine}
use Rattle.hgs_journal.specs.Names.{in_store, place, new_name, backup_name, journal_path}
use Rattle.hgs_journal.specs.Undo.{undo_line, undo_with, undo_backup, undo_backups, undo_list}
use Rattle.hgs_journal.specs.Covers.{is_loose, journal_paths, backup_places, KeepsFront, KeepsBackup, Covers, IsRestored, Restores, bytes_of_backup, kept_bytes}
use Rattle.hgs_journal.specs.Theorems.TreeFacts.{bool, never, same-sym, at, away, apart, bytes-same}

-- ---- a line of the journal

shortened-other : (t : Tree) (p q : List ℕ) (n : ℕ) (f : Option (List ℕ)) → same p q ≡ false → shortened t p n f q ≡ t q
shortened-other t p q n None e = refl
shortened-other t p q n (Some b) e = away t p q (Some (take n b)) e

line_op-other : (z : Bool) (t : Tree) (p q : List ℕ) (n : ℕ) → same p q ≡ false → apply (cond z (Remove p) (Cut p n)) t q ≡ t q
line_op-other true t p q n e = away t p q None e
line_op-other false t p q n e = shortened-other t p q n (t p) e

-- a line leaves each other file
pub line-other : (t : Tree) (l : JournalLine) (q : List ℕ) → same (in_store l.name) q ≡ false → apply (undo_line l) t q ≡ t q
line-other t l q e = line_op-other (l.offset == 0) t (in_store l.name) q l.offset e

zero_of : (n : ℕ) → (n == 0) ≡ true → n ≡ 0
zero_of n h = grind (arith, nat_tests)

take-zero : (n : ℕ) (xs : List ℕ) → n ≡ 0 → ◌≡◌ {A = List ℕ} (take n xs) []
take-zero n xs e = ap (λ k. take k xs) e

shortened-is : (t q : Tree) (p : List ℕ) (n : ℕ) (f : Option (List ℕ)) → t p ≡ f → (n == 0) ≡ false → n ≤ length (bytes_at t p) → q p ≡ Some (take n (bytes_at t p)) → shortened t p n f p ≡ q p
shortened-is t q p n None e z le is = absurd (positive n z (omega (arith, le, ap (λ x. length (unwrap_or x [])) e)))
  where
    positive : (m : ℕ) → (m == 0) ≡ false → m ≤ 0 → ⊥
    positive m h l = grind (arith, nat_tests)
shortened-is t q p n (Some b) e z le is = with_file-same t p (Some (take n b)) ∙ ap (λ x. Some (take n (unwrap_or x []))) (sym e) ∙ sym is

line_op-restores : (z : Bool) (t q : Tree) (l : JournalLine) → (l.offset == 0) ≡ z → KeepsFront t q l
    → IsRestored (apply (cond z (Remove (in_store l.name)) (Cut (in_store l.name) l.offset)) t (in_store l.name)) (q (in_store l.name))
line_op-restores true t q l e (inl front) = inr (with_file-same t (in_store l.name) None, front.1 ∙ ap Some (take-zero l.offset (bytes_at t (in_store l.name)) (zero_of l.offset e)))
line_op-restores true t q l e (inr lacks) = inl (with_file-same t (in_store l.name) None ∙ sym lacks.1)
line_op-restores false t q l e (inl front) = inl (shortened-is t q (in_store l.name) l.offset (t (in_store l.name)) refl e front.0 front.1)
line_op-restores false t q l e (inr lacks) = never (sym (ap (λ n. n == 0) lacks.0) ∙ e)

-- a line restores its file
pub line-restores : (t q : Tree) (l : JournalLine) → KeepsFront t q l → IsRestored (apply (undo_line l) t (in_store l.name)) (q (in_store l.name))
line-restores t q l k = line_op-restores (l.offset == 0) t q l refl k

-- and leaves what is restored
line-keeps : (t q : Tree) (l : JournalLine) (p : List ℕ) → KeepsFront t q l → IsRestored (t p) (q p) → IsRestored (apply (undo_line l) t p) (q p)
line-keeps t q l p k restored = elim (bool (same (in_store l.name) p)) [
  | inl e ↦ subst (λ x. IsRestored (apply (undo_line l) t x) (q x)) (same-eq (in_store l.name) p e) (line-restores t q l k)
  | inr e ↦ subst (λ f. IsRestored f (q p)) (sym (line-other t l p e)) restored
]

pub restored-bytes : (u q : Tree) (p : List ℕ) → IsRestored (u p) (q p) → bytes_at u p ≡ bytes_at q p
restored-bytes u q p (inl e) = ap (λ f. unwrap_or f []) e
restored-bytes u q p (inr e) = ap (λ f. unwrap_or f []) e.0 ∙ sym (ap (λ f. unwrap_or f []) e.1)

-- a front that is kept stays kept where the file keeps its bytes
pub front-same : (t u q : Tree) (l : JournalLine) → bytes_at u (in_store l.name) ≡ bytes_at t (in_store l.name) → KeepsFront t q l → KeepsFront u q l
front-same t u q l e (inl f) = inl (omega (arith, f.0, ap length e), f.1 ∙ ap (λ b. Some (take l.offset b)) (sym e))
front-same t u q l e (inr f) = inr f

length-take_le : (n : ℕ) (xs : List ℕ) → n ≤ length xs → length (take n xs) ≡ n
length-take_le zero xs le = refl
length-take_le (suc n) [] le = absurd (omega arith)
length-take_le (suc n) (x ∷ xs) le = ap suc (length-take_le n xs (omega arith))

take-take : (n : ℕ) (xs : List ℕ) → take n (take n xs) ≡ take n xs
take-take zero xs = refl
take-take (suc n) [] = refl
take-take (suc n) (x ∷ xs) = ap (λ l. x ∷ l) (take-take n xs)

-- and where it has all of its bytes before
pub front-right : (t u q : Tree) (l : JournalLine) → bytes_at u (in_store l.name) ≡ bytes_at q (in_store l.name) → KeepsFront t q l → KeepsFront u q l
front-right t u q l right (inl f) =
    let whole : bytes_at u (in_store l.name) ≡ take l.offset (bytes_at t (in_store l.name)) = right ∙ bytes_at-is q (in_store l.name) _ f.1 in
    let size : length (take l.offset (bytes_at t (in_store l.name))) ≡ l.offset = length-take_le l.offset (bytes_at t (in_store l.name)) f.0 in
    inl (omega (arith, ap length whole, size), f.1 ∙ ap Some (sym (ap (take l.offset) whole ∙ take-take l.offset (bytes_at t (in_store l.name)))))
front-right t u q l right (inr f) = inr f

-- an undone line keeps every line's front
front-kept : (t q : Tree) (l m : JournalLine) → KeepsFront t q l → KeepsFront t q m → KeepsFront (apply (undo_line l) t) q m
front-kept t q l m k km = elim (bool (same (in_store l.name) (in_store m.name))) [
  | inl e ↦ front-right t (apply (undo_line l) t) q m
      (subst (λ x. bytes_at (apply (undo_line l) t) x ≡ bytes_at q x) (same-eq (in_store l.name) (in_store m.name) e) (restored-bytes (apply (undo_line l) t) q (in_store l.name) (line-restores t q l k))) km
  | inr e ↦ front-same t (apply (undo_line l) t) q m (bytes-same t (apply (undo_line l) t) (in_store m.name) (line-other t l (in_store m.name) e)) km
]

pub fronts-kept : (t q : Tree) (l : JournalLine) (ls : List JournalLine) → KeepsFront t q l → AllByRecursion (KeepsFront t q) ls → AllByRecursion (KeepsFront (apply (undo_line l) t) q) ls
fronts-kept t q l [] k all = tt
fronts-kept t q l (m ∷ ls) k all = (front-kept t q l m k all.0, fronts-kept t q l ls k all.1)

-- ---- the journal's part

lines-keep : (t q : Tree) (ls : List JournalLine) (p : List ℕ) → AllByRecursion (KeepsFront t q) ls → IsRestored (t p) (q p) → IsRestored (after_all (map undo_line ls) t p) (q p)
lines-keep t q [] p all restored = restored
lines-keep t q (l ∷ ls) p all restored = lines-keep (apply (undo_line l) t) q ls p (fronts-kept t q l ls all.0 all.1) (line-keeps t q l p all.0 restored)

or-true : (a b : Bool) → (a || b) ≡ true → (a ≡ true) ⊎ (b ≡ true)
or-true true b h = inl refl
or-true false b h = inr h

or-false : (a b : Bool) → (a || b) ≡ false → (a ≡ false) × (b ≡ false)
or-false true b h = cc
or-false false b h = (refl, h)

lines-restore : (t q : Tree) (ls : List JournalLine) (p : List ℕ) → AllByRecursion (KeepsFront t q) ls → among p (journal_paths ls) ≡ true → IsRestored (after_all (map undo_line ls) t p) (q p)
lines-restore t q [] p all named = cc
lines-restore t q (l ∷ ls) p all named = elim (or-true (same p (in_store l.name)) (among p (journal_paths ls)) named) [
  | inl here ↦ lines-keep (apply (undo_line l) t) q ls p (fronts-kept t q l ls all.0 all.1)
      (subst (λ x. IsRestored (apply (undo_line l) t x) (q x)) (sym (same-eq p (in_store l.name) here)) (line-restores t q l all.0))
  | inr later ↦ lines-restore (apply (undo_line l) t) q ls p (fronts-kept t q l ls all.0 all.1) later
]

lines-other : (t : Tree) (ls : List JournalLine) (p : List ℕ) → among p (journal_paths ls) ≡ false → after_all (map undo_line ls) t p ≡ t p
lines-other t [] p e = refl
lines-other t (l ∷ ls) p e =
    let both = or-false (same p (in_store l.name)) (among p (journal_paths ls)) e in
    lines-other (apply (undo_line l) t) ls p both.1 ∙ line-other t l p (same-sym p (in_store l.name) both.0)

-- ---- the backups' part

-- the bytes that are kept for a line are those of its file before
abbrev pub IsKept : Tree → BackupLine → List ℕ → Type 0
IsKept q l kept = ((l.backup ≡ []) × (q (place l.plain l.file) ≡ None)) ⊎ ((l.backup ≡ backup_name l.file) × (q (place l.plain l.file) ≡ Some kept))

abbrev pub AreKept : Tree → List BackupLine → List (List ℕ) → Type 0
AreKept q [] [] = Unit {0}
AreKept q [] (k ∷ kept) = ⊥
AreKept q (l ∷ backups) [] = ⊥
AreKept q (l ∷ backups) (k ∷ kept) = IsKept q l k × AreKept q backups kept

is-kept : (t q : Tree) (l : BackupLine) → KeepsBackup t q l → IsKept q l (bytes_of_backup t l l.backup)
is-kept t q l (inl some) = inr (some.0, some.3 ∙ ap Some (sym (ap (bytes_of_backup t l) some.0 ∙ bytes_at-is t (place l.plain (backup_name l.file)) some.1 (ap (λ b. t (place l.plain b)) (sym some.0) ∙ some.2))))
is-kept t q l (inr none) = inl none

pub are-kept : (t q : Tree) (backups : List BackupLine) → AllByRecursion (KeepsBackup t q) backups → AreKept q backups (kept_bytes t backups)
are-kept t q [] all = tt
are-kept t q (l ∷ backups) all = (is-kept t q l all.0, are-kept t q backups all.1)

pub put-at : (t : Tree) (new file k : List ℕ) → after_all (Create new k ∷ Rename new file ∷ []) t file ≡ Some k
put-at t new file k =
    ap (λ f. renamed (with_file t new (Some k)) new file f file) (with_file-same t new (Some k))
    ∙ with_file-same (with_file (with_file t new (Some k)) new None) file (Some k)

pub put-other : (t : Tree) (new file k p : List ℕ) → same new p ≡ false → same file p ≡ false → after_all (Create new k ∷ Rename new file ∷ []) t p ≡ t p
put-other t new file k p n f =
    ap (λ x. renamed (with_file t new (Some k)) new file x p) (with_file-same t new (Some k))
    ∙ away (with_file (with_file t new (Some k)) new None) file p (Some k) f
    ∙ away (with_file t new (Some k)) new p None n
    ∙ away t new p (Some k) n

backup-at : (t q : Tree) (l : BackupLine) (k : List ℕ) → IsKept q l k → after_all (undo_backup l k) t (place l.plain l.file) ≡ q (place l.plain l.file)
backup-at t q l k (inl none) =
    ap (λ b. after_all (undo_with l b k) t (place l.plain l.file)) none.0 ∙ with_file-same t (place l.plain l.file) None ∙ sym none.1
backup-at t q l k (inr some) =
    ap (λ b. after_all (undo_with l b k) t (place l.plain l.file)) some.0 ∙ put-at t (place l.plain (new_name l.file)) (place l.plain l.file) k ∙ sym some.1

backup-other : (t q : Tree) (l : BackupLine) (k p : List ℕ) → IsKept q l k → same (place l.plain (new_name l.file)) p ≡ false → same (place l.plain l.file) p ≡ false → after_all (undo_backup l k) t p ≡ t p
backup-other t q l k p (inl none) n f = ap (λ b. after_all (undo_with l b k) t p) none.0 ∙ away t (place l.plain l.file) p None f
backup-other t q l k p (inr some) n f = ap (λ b. after_all (undo_with l b k) t p) some.0 ∙ put-other t (place l.plain (new_name l.file)) (place l.plain l.file) k p n f

-- the new names are loose
abbrev pub NewNamesLoose : List (List ℕ) → List BackupLine → Type 0
NewNamesLoose strays backups = AllByRecursion (λ (l : BackupLine). is_loose strays (place l.plain (new_name l.file)) ≡ true) backups

backup-keeps : (strays : List (List ℕ)) (t q : Tree) (l : BackupLine) (k p : List ℕ) → IsKept q l k → is_loose strays (place l.plain (new_name l.file)) ≡ true → is_loose strays p ≡ false
    → IsRestored (t p) (q p) → IsRestored (after_all (undo_backup l k) t p) (q p)
backup-keeps strays t q l k p kept new loose restored = elim (bool (same (place l.plain l.file) p)) [
  | inl e ↦ subst (λ x. IsRestored (after_all (undo_backup l k) t x) (q x)) (same-eq (place l.plain l.file) p e) (inl (backup-at t q l k kept))
  | inr e ↦ subst (λ f. IsRestored f (q p)) (sym (backup-other t q l k p kept (apart (is_loose strays) (place l.plain (new_name l.file)) p new loose) e)) restored
]

backups-keep : (strays : List (List ℕ)) (t q : Tree) (backups : List BackupLine) (kept : List (List ℕ)) (p : List ℕ) → AreKept q backups kept → NewNamesLoose strays backups → is_loose strays p ≡ false
    → IsRestored (t p) (q p) → IsRestored (after_all (undo_backups backups kept) t p) (q p)
backups-keep strays t q [] kept p are new loose restored = restored
backups-keep strays t q (l ∷ backups) [] p are new loose restored = elim are [ ]
backups-keep strays t q (l ∷ backups) (k ∷ kept) p are new loose restored =
    subst (λ (u : Tree). IsRestored (u p) (q p)) (sym (after_all-append (undo_backup l k) (undo_backups backups kept) t))
    (backups-keep strays (after_all (undo_backup l k) t) q backups kept p are.1 new.1 loose (backup-keeps strays t q l k p are.0 new.0 loose restored))

backups-restore : (strays : List (List ℕ)) (t q : Tree) (backups : List BackupLine) (kept : List (List ℕ)) (p : List ℕ) → AreKept q backups kept → NewNamesLoose strays backups → is_loose strays p ≡ false
    → among p (backup_places backups) ≡ true → IsRestored (after_all (undo_backups backups kept) t p) (q p)
backups-restore strays t q [] kept p are new loose named = cc
backups-restore strays t q (l ∷ backups) [] p are new loose named = elim are [ ]
backups-restore strays t q (l ∷ backups) (k ∷ kept) p are new loose named =
    subst (λ (u : Tree). IsRestored (u p) (q p)) (sym (after_all-append (undo_backup l k) (undo_backups backups kept) t))
    (elim (or-true (same p (place l.plain l.file)) (among p (backup_places backups)) named) [
      | inl here ↦ backups-keep strays (after_all (undo_backup l k) t) q backups kept p are.1 new.1 loose
          (subst (λ x. IsRestored (after_all (undo_backup l k) t x) (q x)) (sym (same-eq p (place l.plain l.file) here)) (inl (backup-at t q l k are.0)))
      | inr later ↦ backups-restore strays (after_all (undo_backup l k) t) q backups kept p are.1 new.1 loose later
    ])

backups-other : (strays : List (List ℕ)) (t q : Tree) (backups : List BackupLine) (kept : List (List ℕ)) (p : List ℕ) → AreKept q backups kept → NewNamesLoose strays backups → is_loose strays p ≡ false
    → among p (backup_places backups) ≡ false → after_all (undo_backups backups kept) t p ≡ t p
backups-other strays t q [] kept p are new loose e = refl
backups-other strays t q (l ∷ backups) [] p are new loose e = refl
backups-other strays t q (l ∷ backups) (k ∷ kept) p are new loose e =
    let both = or-false (same p (place l.plain l.file)) (among p (backup_places backups)) e in
    ap (λ u. u p) (after_all-append (undo_backup l k) (undo_backups backups kept) t)
    ∙ backups-other strays (after_all (undo_backup l k) t) q backups kept p are.1 new.1 loose both.1
    ∙ backup-other t q l k p are.0 (apart (is_loose strays) (place l.plain (new_name l.file)) p new.0 loose) (same-sym p (place l.plain l.file) both.0)

-- ---- the whole list

all-append : {A : Type 0} (P : A → Type 0) (xs ys : List A) → AllByRecursion P xs → AllByRecursion P ys → AllByRecursion P (xs ++ ys)
all-append P [] ys a b = b
all-append P (x ∷ xs) ys a b = (a.0, all-append P xs ys a.1 b)

pub all-reverse : {A : Type 0} (P : A → Type 0) (xs : List A) → AllByRecursion P xs → AllByRecursion P (reverse xs)
all-reverse P [] a = tt
all-reverse P (x ∷ xs) a = subst (AllByRecursion P) (sym (reverse-append (x ∷ []) xs)) (all-append P (reverse xs) (x ∷ []) (all-reverse P xs a.1) (a.0, tt))

among-append : (p : List ℕ) (xs ys : List JournalLine) → among p (journal_paths (xs ++ ys)) ≡ (among p (journal_paths xs) || among p (journal_paths ys))
among-append p [] ys = refl
among-append p (x ∷ xs) ys = ap (λ b. same p (in_store x.name) || b) (among-append p xs ys) ∙ or-assoc (same p (in_store x.name)) (among p (journal_paths xs)) (among p (journal_paths ys))
  where
    or-assoc : (a b c : Bool) → (a || (b || c)) ≡ ((a || b) || c)
    or-assoc true b c = refl
    or-assoc false b c = refl

or-turned : (a b : Bool) → (a || (b || false)) ≡ (b || a)
or-turned true true = refl
or-turned true false = refl
or-turned false true = refl
or-turned false false = refl

pub among-reverse : (p : List ℕ) (xs : List JournalLine) → among p (journal_paths (reverse xs)) ≡ among p (journal_paths xs)
among-reverse p [] = refl
among-reverse p (x ∷ xs) =
    ap (λ l. among p (journal_paths l)) (reverse-append (x ∷ []) xs) ∙ among-append p (reverse xs) (x ∷ [])
    ∙ ap (λ b. b || (same p (in_store x.name) || false)) (among-reverse p xs) ∙ or-turned (among p (journal_paths xs)) (same p (in_store x.name))

four : (a b c d : Bool) → a ≡ false → b ≡ false → c ≡ false → d ≡ false → (a || b || c || d) ≡ false
four a b c d ea eb ec ed = ap (λ x. x || b || c || d) ea ∙ ap (λ x. x || c || d) eb ∙ ap (λ x. x || d) ec ∙ ed

pub undo-restores : (strays : List (List ℕ)) (t q : Tree) (c : Covers strays t q) (kept : List (List ℕ)) → AreKept q c.backups kept → NewNamesLoose strays c.backups
    → Restores strays (after_all (undo_list c.journal c.backups kept) t) q
undo-restores strays t q c kept are new p loose =
    let lines = map undo_line (reverse c.journal) in
    let t1 = after_all lines t in
    let t2 = after_all (undo_backups c.backups kept) t1 in
    let whole : after_all (undo_list c.journal c.backups kept) t ≡ with_file t2 journal_path None =
    after_all-append (lines ++ undo_backups c.backups kept) (Remove journal_path ∷ []) t
    ∙ ap (λ u. with_file u journal_path None) (after_all-append lines (undo_backups c.backups kept) t) in
    subst (λ (u : Tree). IsRestored (u p) (q p)) (sym whole) (elim (bool (same journal_path p)) [
      | inl j ↦ inl (at t2 journal_path p None j ∙ sym (ap q (sym (same-eq journal_path p j)) ∙ c.undone))
      | inr j ↦ subst (λ f. IsRestored f (q p)) (sym (away t2 journal_path p None j)) (elim (bool (among p (backup_places c.backups))) [
        | inl b ↦ backups-restore strays t1 q c.backups kept p are new loose b
        | inr b ↦ elim (bool (among p (journal_paths c.journal))) [
          | inl n ↦ backups-keep strays t1 q c.backups kept p are new loose (lines-restore t q (reverse c.journal) p (all-reverse (KeepsFront t q) c.journal c.fronts) (among-reverse p c.journal ∙ n))
          | inr n ↦ inl (backups-other strays t1 q c.backups kept p are new loose b ∙ lines-other t (reverse c.journal) p (among-reverse p c.journal ∙ n)
              ∙ c.others p (four (is_loose strays p) (same p journal_path) (among p (journal_paths c.journal)) (among p (backup_places c.backups)) loose (same-sym journal_path p j) n b))
        ]
      ])
    ])
