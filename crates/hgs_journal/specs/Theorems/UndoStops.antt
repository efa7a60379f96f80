-- A tree stays covered all along the undo list.
use Rattle.std.proofs.Common.{◌≡◌, ◌⊎◌, ℕ, List, [], ◌∷◌, ◌++◌, Bool, true, false, cond, ◌||◌, length, take, map, reverse, refl, sym, ◌∙◌, ap, subst, inl, inr, append_assoc, append-nil, length-append, arith, Option, Some, None, unwrap_or, Result, Ok}
use Rattle.std.specs.Prelude.{◌==◌}
use Rattle.std.specs.List.{AllByRecursion, list_any}
use Rattle.std.proofs.lemmas.List.{take-append-le}
use Rattle.hgs_bytes.specs.Bytes.{same, among}
use Rattle.hgs_bytes.specs.Theorems.ByteLemmas.{same-eq, same-refl}
use Rattle.hgs_files.specs.declared.op.Op.{Op}
use Rattle.hgs_files.specs.declared.op.Op.TheVariants.{Append, Cut, Rename, Remove, Create, Sync, Settle}
use Rattle.hgs_files.specs.Log.{append_of_rest, IsPiece, Does, IsDone}
use Rattle.hgs_files.specs.Stop.{StopLeaves}
use Rattle.hgs_files.specs.Tree.{Tree, bytes_at, with_file, renamed, apply, after_all}
use Rattle.hgs_files.specs.Theorems.LogLemmas.{after-piece, stop-leaves-done}
use Rattle.hgs_files.specs.Theorems.TreeLemmas.{with_file-same, after_all-append, bytes_at-is}
use Rattle.hgs_journal.specs.declared.fault.JournalFault.{JournalFault}
use Rattle.hgs_journal.specs.declared.journal.JournalLine.{JournalLine}
use Rattle.hgs_journal.specs.declared.backups.BackupLine.{BackupLine}
use Rattle.hgs_journal.specs.Names.{in_store, place, new_name, backup_name, journal_path, backups_path, is_replaced}
use Rattle.hgs_journal.specs.Begun.{LeadsBack}
use Rattle.hgs_journal.specs.Undo.{undo_line, undo_with, undo_backup, undo_backups}
use Rattle.hgs_journal.specs.Covers.{HasOwnStrays, is_loose, journal_paths, backup_places, KeepsFront, KeepsBackup, Covers, ReadsAs, Restores, kept_bytes, undo_ops}
use Rattle.hgs_journal.specs.Read.{read_journal, read_backups}
use Rattle.hgs_journal.specs.Theorems.BackupText.{backups-back}
use Rattle.hgs_journal.specs.Theorems.JournalText.{journal-back}
use Rattle.hgs_journal.specs.Theorems.OwnNames.{IsOne, or-true, is-one, new-backup, file-backup, new-free, file-free, or-right, own-loose, new-own, backup-own, AllOnes, all-ones, new-names-loose}
use Rattle.hgs_journal.specs.Theorems.TreeFacts.{bool, never, same-sym, at, away, apart, bytes-same}
use Rattle.hgs_journal.specs.Theorems.Undoing.{line-other, front-same, front-right, fronts-kept, IsKept, AreKept, are-kept, put-at, put-other, all-reverse, undo-restores}

-- ---- what of a tree covers another, by this journal and this list

abbrev pub is_listed : List (List ℕ) → List JournalLine → List BackupLine → List ℕ → Bool
is_listed strays journal backups path = is_loose strays path || same path journal_path || among path (journal_paths journal) || among path (backup_places backups)

pub record CoversBy (strays : List (List ℕ)) (journal : List JournalLine) (backups : List BackupLine) (journal_bytes backups_bytes : List ℕ) (q u : Tree) : Type 0 where
  pub journal_stands : u journal_path ≡ Some journal_bytes
  pub backups_stand : u backups_path ≡ Some backups_bytes
  pub fronts : AllByRecursion (KeepsFront u q) journal
  pub kept : AllByRecursion (KeepsBackup u q) backups
  pub others : (path : List ℕ) → is_listed strays journal backups path ≡ false → u path ≡ q path

or-false : (a b : Bool) → (a || b) ≡ false → (a ≡ false) × (b ≡ false)
or-false true b h = cc
or-false false b h = (refl, h)

-- what is said of an unlisted path
pub record IsUnlisted (strays : List (List ℕ)) (journal : List JournalLine) (backups : List BackupLine) (path : List ℕ) : Type 0 where
  pub loose : is_loose strays path ≡ false
  pub named : among path (journal_paths journal) ≡ false
  pub replaced : among path (backup_places backups) ≡ false

unlisted : (strays : List (List ℕ)) (journal : List JournalLine) (backups : List BackupLine) (path : List ℕ) → is_listed strays journal backups path ≡ false → IsUnlisted strays journal backups path
unlisted strays journal backups path h =
    let last = or-false (is_loose strays path || same path journal_path || among path (journal_paths journal)) (among path (backup_places backups)) h in
    let third = or-false (is_loose strays path || same path journal_path) (among path (journal_paths journal)) last.0 in
    record { loose = (or-false (is_loose strays path) (same path journal_path) third.0).0; named = third.1; replaced = last.1 }

-- a name of the journal is neither loose nor the journal
named-apart : (strays : List (List ℕ)) (ls : List JournalLine) (p : List ℕ) → list_any (λ path. is_loose strays path || same path journal_path) (journal_paths ls) ≡ false → among p (journal_paths ls) ≡ true
    → (is_loose strays p ≡ false) × (same p journal_path ≡ false)
named-apart strays [] p e named = cc
named-apart strays (l ∷ ls) p e named =
    let both = or-false (is_loose strays (in_store l.name) || same (in_store l.name) journal_path) (list_any (λ path. is_loose strays path || same path journal_path) (journal_paths ls)) e in
    elim (or-true (same p (in_store l.name)) (among p (journal_paths ls)) named) [
      | inl here ↦
          let two = or-false (is_loose strays (in_store l.name)) (same (in_store l.name) journal_path) both.0 in
          let is = same-eq p (in_store l.name) here in
          (ap (is_loose strays) is ∙ two.0, ap (λ x. same x journal_path) is ∙ two.1)
      | inr later ↦ named-apart strays ls p both.1 later
    ]

module _ (strays : List (List ℕ)) (own : HasOwnStrays strays) (journal : List JournalLine) (backups : List BackupLine) (journal_bytes backups_bytes : List ℕ) (q : Tree)
    (away_from : list_any (λ path. is_loose strays path || same path journal_path) (journal_paths journal) ≡ false) (ones : AllOnes backups) where
  abbrev By : Tree → Type 0
  By u = CoversBy strays journal backups journal_bytes backups_bytes q u

  -- ---- a front, a backup, where files change

  fronts-off : (t u : Tree) (ls : List JournalLine) → ((l : JournalLine) → among (in_store l.name) (journal_paths ls) ≡ true → (u (in_store l.name) ≡ t (in_store l.name)) ⊎ (u (in_store l.name) ≡ q (in_store l.name)))
      → AllByRecursion (KeepsFront t q) ls → AllByRecursion (KeepsFront u q) ls
  fronts-off t u [] h all = tt
  fronts-off t u (l ∷ ls) h all = (
    one (h l (ap (λ b. b || among (in_store l.name) (journal_paths ls)) (same-refl (in_store l.name)))) all.0,
    fronts-off t u ls (λ m n. h m (or-right (same (in_store m.name) (in_store l.name)) (among (in_store m.name) (journal_paths ls)) n)) all.1,
  )
    where
      one : (u (in_store l.name) ≡ t (in_store l.name)) ⊎ (u (in_store l.name) ≡ q (in_store l.name)) → KeepsFront t q l → KeepsFront u q l
      one (inl e) k = front-same t u q l (bytes-same t u (in_store l.name) e) k
      one (inr e) k = front-right t u q l (bytes-same q u (in_store l.name) e) k

  kept-off : (t u : Tree) (bs : List BackupLine) → AllOnes bs → ((p : Bool) (x : List ℕ) → IsOne p x → u (place p (backup_name x)) ≡ t (place p (backup_name x))) → AllByRecursion (KeepsBackup t q) bs → AllByRecursion (KeepsBackup u q) bs
  kept-off t u [] os h all = tt
  kept-off t u (l ∷ bs) os h all = (one all.0, kept-off t u bs os.1 h all.1)
    where
      one : KeepsBackup t q l → KeepsBackup u q l
      one (inr none) = inr none
      one (inl some) =
          let there : u (place l.plain l.backup) ≡ t (place l.plain l.backup) = subst (λ b. u (place l.plain b) ≡ t (place l.plain b)) (sym some.0) (h l.plain l.file os.0) in
          inl (some.0, some.1, there ∙ some.2, some.3)

  -- ---- one operation

  by-line : (t : Tree) (l : JournalLine) → among (in_store l.name) (journal_paths journal) ≡ true → KeepsFront t q l → By t → By (apply (undo_line l) t)
  by-line t l named k c =
      let u = apply (undo_line l) t in
      let off = named-apart strays journal (in_store l.name) away_from named in
      let tight : (p : List ℕ) → is_loose strays p ≡ true → same (in_store l.name) p ≡ false = λ p e. same-sym p (in_store l.name) (apart (is_loose strays) p (in_store l.name) e off.0) in
      record {
        journal_stands = line-other t l journal_path off.1 ∙ c.journal_stands;
        backups_stand = line-other t l backups_path (tight backups_path (own-loose strays backups_path own refl)) ∙ c.backups_stand;
        fronts = fronts-kept t q l journal k c.fronts;
        kept = kept-off t u backups ones (λ p x one. line-other t l (place p (backup_name x)) (tight (place p (backup_name x)) (own-loose strays (place p (backup_name x)) own (backup-own p x one)))) c.kept;
        others = λ p e. line-other t l p (apart (λ x. among x (journal_paths journal)) (in_store l.name) p named (unlisted strays journal backups p e).named) ∙ c.others p e;
      }

  -- a new name may change
  by-new : (t u : Tree) (p : Bool) (x : List ℕ) → IsOne p x → ((path : List ℕ) → same (place p (new_name x)) path ≡ false → u path ≡ t path) → By t → By u
  by-new t u p x one h c =
      let new = place p (new_name x) in
      let free = new-free p x one in
      let loose = own-loose strays new own (new-own p x one) in
      record {
        journal_stands = h journal_path free.journal ∙ c.journal_stands;
        backups_stand = h backups_path free.list ∙ c.backups_stand;
        fronts = fronts-off t u journal (λ l named. inl (h (in_store l.name) (apart (is_loose strays) new (in_store l.name) loose (named-apart strays journal (in_store l.name) away_from named).0))) c.fronts;
        kept = kept-off t u backups ones (λ r y other. h (place r (backup_name y)) (new-backup p r x y one other)) c.kept;
        others = λ path e. h path (apart (is_loose strays) new path loose (unlisted strays journal backups path e).loose) ∙ c.others path e;
      }

  -- a replaced file may change, where it becomes as it was or the journal does not name it
  by-file : (t u : Tree) (p : Bool) (x : List ℕ) → IsOne p x → among (place p x) (backup_places backups) ≡ true
      → ((l : JournalLine) → among (in_store l.name) (journal_paths journal) ≡ true → same (place p x) (in_store l.name) ≡ true → u (in_store l.name) ≡ q (in_store l.name))
      → ((path : List ℕ) → same (place p (new_name x)) path ≡ false → same (place p x) path ≡ false → u path ≡ t path) → By t → By u
  by-file t u p x one placed right h c =
      let new = place p (new_name x) in
      let file = place p x in
      let free = new-free p x one in
      let free_file = file-free p x one in
      let loose = own-loose strays new own (new-own p x one) in
      record {
        journal_stands = h journal_path free.journal free_file.journal ∙ c.journal_stands;
        backups_stand = h backups_path free.list free_file.list ∙ c.backups_stand;
        fronts = fronts-off t u journal (λ l named. elim (bool (same file (in_store l.name))) [
          | inl e ↦ inr (right l named e)
          | inr e ↦ inl (h (in_store l.name) (apart (is_loose strays) new (in_store l.name) loose (named-apart strays journal (in_store l.name) away_from named).0) e)
        ]) c.fronts;
        kept = kept-off t u backups ones (λ r y other. h (place r (backup_name y)) (new-backup p r x y one other) (file-backup p r x y one other)) c.kept;
        others = λ path e. let un = unlisted strays journal backups path e in
            h path (apart (is_loose strays) new path loose un.loose) (apart (λ z. among z (backup_places backups)) file path placed un.replaced) ∙ c.others path e;
      }

  as-before : (u : Tree) (file : List ℕ) → u file ≡ q file → (l : JournalLine) → among (in_store l.name) (journal_paths journal) ≡ true → same file (in_store l.name) ≡ true → u (in_store l.name) ≡ q (in_store l.name)
  as-before u file here l named e = subst (λ y. u y ≡ q y) (same-eq file (in_store l.name) e) here

  -- ---- what a transaction does

  front-append : (t : Tree) (path bytes : List ℕ) (l : JournalLine) → KeepsFront t q l → KeepsFront (apply (Append path bytes) t) q l
  front-append t path bytes l (inr lacks) = inr lacks
  front-append t path bytes l (inl front) = elim (bool (same path (in_store l.name))) [
    | inl e ↦
        let u = apply (Append path bytes) t in
        let grown : bytes_at u (in_store l.name) ≡ bytes_at t (in_store l.name) ++ bytes =
        ap (λ f. unwrap_or f []) (at t path (in_store l.name) (Some (bytes_at t path ++ bytes)) e) ∙ ap (λ x. bytes_at t x ++ bytes) (same-eq path (in_store l.name) e) in
        inl (
          omega (arith, front.0, ap length grown, length-append (bytes_at t (in_store l.name)) bytes),
          front.1 ∙ ap Some (sym (ap (take l.offset) grown ∙ take-append-le l.offset (bytes_at t (in_store l.name)) bytes front.0)),
        )
    | inr e ↦ front-same t (apply (Append path bytes) t) q l (bytes-same t (apply (Append path bytes) t) (in_store l.name) (away t path (in_store l.name) _ e)) (inl front)
  ]

  fronts-append : (t : Tree) (path bytes : List ℕ) (ls : List JournalLine) → AllByRecursion (KeepsFront t q) ls → AllByRecursion (KeepsFront (apply (Append path bytes) t) q) ls
  fronts-append t path bytes [] all = tt
  fronts-append t path bytes (l ∷ ls) all = (front-append t path bytes l all.0, fronts-append t path bytes ls all.1)

  -- an append to a file of the journal
  pub by-append : (t : Tree) (path bytes : List ℕ) → among path (journal_paths journal) ≡ true → By t → By (apply (Append path bytes) t)
  by-append t path bytes named c =
      let off = named-apart strays journal path away_from named in
      let tight : (p : List ℕ) → is_loose strays p ≡ true → same path p ≡ false = λ p e. same-sym p path (apart (is_loose strays) p path e off.0) in
      record {
        journal_stands = away t path journal_path _ off.1 ∙ c.journal_stands;
        backups_stand = away t path backups_path _ (tight backups_path (own-loose strays backups_path own refl)) ∙ c.backups_stand;
        fronts = fronts-append t path bytes journal c.fronts;
        kept = kept-off t (apply (Append path bytes) t) backups ones (λ p x one. away t path (place p (backup_name x)) _ (tight (place p (backup_name x)) (own-loose strays (place p (backup_name x)) own (backup-own p x one)))) c.kept;
        others = λ p e. away t path p _ (apart (λ x. among x (journal_paths journal)) path p named (unlisted strays journal backups p e).named) ∙ c.others p e;
      }

  rename-other : (t : Tree) (from to path : List ℕ) (f : Option (List ℕ)) → same from path ≡ false → same to path ≡ false → renamed t from to f path ≡ t path
  rename-other t from to path None e g = refl
  rename-other t from to path (Some b) e g = away (with_file t from None) to path (Some b) g ∙ away t from path None e

  -- a new text that takes the place of a file of the list
  pub by-rename : (t : Tree) (p : Bool) (x : List ℕ) → IsOne p x → among (place p x) (backup_places backups) ≡ true → among (place p x) (journal_paths journal) ≡ false → By t → By (apply (Rename (place p (new_name x)) (place p x)) t)
  by-rename t p x one placed unnamed c =
      let new = place p (new_name x) in
      by-file t (apply (Rename new (place p x)) t) p x one placed
      (λ l named e. never (sym named ∙ ap (λ y. among y (journal_paths journal)) (sym (same-eq (place p x) (in_store l.name) e)) ∙ unnamed))
      (λ path n f. rename-other t new (place p x) path (t new) n f) c

  -- ---- a list of operations

  -- what is written in parts is a new name
  abbrev Splits : Op → Type 0
  Splits (Append path bytes) = (p : Bool) × (x : List ℕ) × IsOne p x × (path ≡ place p (new_name x))
  Splits (Create path bytes) = (p : Bool) × (x : List ℕ) × IsOne p x × (path ≡ place p (new_name x))
  Splits (Cut path len) = Unit {0}
  Splits (Rename from to) = Unit {0}
  Splits (Remove path) = Unit {0}
  Splits (Sync path) = Unit {0}
  Splits Settle = Unit {0}

  -- before each operation the tree is covered, and after the last it is restored
  abbrev Along : List Op → Tree → Type 0
  Along [] u = Restores strays u q
  Along (op ∷ ops) u = By u × Splits op × Along ops (apply op u)

  new-kept : (t u : Tree) (path : List ℕ) → ((p : Bool) × (x : List ℕ) × IsOne p x × (path ≡ place p (new_name x))) → ((other : List ℕ) → same path other ≡ false → u other ≡ t other) → By t → By u
  new-kept t u path s h c = by-new t u s.0 s.1 s.2 (λ other e. h other (ap (λ y. same y other) s.3 ∙ e)) c

  append-along : (path front : List ℕ) (ops : List Op) (u : Tree) (bytes back : List ℕ) → bytes ≡ front ++ back → Along (Append path bytes ∷ ops) u → Along (append_of_rest path back ++ ops) (apply (Append path front) u)
  append-along path front ops u bytes [] e a = subst (λ (b : List ℕ). Along ops (apply (Append path b) u)) (e ∙ append-nil front) a.2
  append-along path front ops u bytes (b ∷ back) e a = (
    new-kept u (apply (Append path front) u) path a.1 (λ other s. away u path other _ s) a.0,
    a.1,
    subst (Along ops) (sym (after-piece (Append path bytes) (Append path front) (append_of_rest path (b ∷ back)) u (front, b ∷ back, e, refl, refl))) a.2,
  )

  create-along : (path front : List ℕ) (ops : List Op) (u : Tree) (bytes back : List ℕ) → bytes ≡ front ++ back → Along (Create path bytes ∷ ops) u → Along (append_of_rest path back ++ ops) (apply (Create path front) u)
  create-along path front ops u bytes [] e a = subst (λ (b : List ℕ). Along ops (apply (Create path b) u)) (e ∙ append-nil front) a.2
  create-along path front ops u bytes (b ∷ back) e a = (
    new-kept u (apply (Create path front) u) path a.1 (λ other s. away u path other _ s) a.0,
    a.1,
    subst (Along ops) (sym (after-piece (Create path bytes) (Create path front) (append_of_rest path (b ∷ back)) u (front, b ∷ back, e, refl, refl))) a.2,
  )

  whole-along : (op piece : Op) (ops left : List Op) (u : Tree) → piece ≡ op → left ≡ [] → Along ops (apply op u) → Along (left ++ ops) (apply piece u)
  whole-along op piece ops left u p l a = subst (λ (k : List Op). Along (k ++ ops) (apply piece u)) (sym l) (subst (λ (o : Op). Along ops (apply o u)) (sym p) a)

  -- an operation, or a part of it
  piece-along : (op piece : Op) (ops left : List Op) (u : Tree) → IsPiece op piece left → Along (op ∷ ops) u → Along (left ++ ops) (apply piece u)
  piece-along (Append path bytes) piece ops left u h a =
      subst (λ (k : List Op). Along (k ++ ops) (apply piece u)) (sym h.4) (subst (λ (o : Op). Along (append_of_rest path h.1 ++ ops) (apply o u)) (sym h.3) (append-along path h.0 ops u bytes h.1 h.2 a))
  piece-along (Create path bytes) piece ops left u h a =
      subst (λ (k : List Op). Along (k ++ ops) (apply piece u)) (sym h.4) (subst (λ (o : Op). Along (append_of_rest path h.1 ++ ops) (apply o u)) (sym h.3) (create-along path h.0 ops u bytes h.1 h.2 a))
  piece-along (Cut path len) piece ops left u h a = whole-along (Cut path len) piece ops left u h.0 h.1 a.2
  piece-along (Rename from to) piece ops left u h a = whole-along (Rename from to) piece ops left u h.0 h.1 a.2
  piece-along (Remove path) piece ops left u h a = whole-along (Remove path) piece ops left u h.0 h.1 a.2
  piece-along (Sync path) piece ops left u h a = whole-along (Sync path) piece ops left u h.0 h.1 a.2
  piece-along Settle piece ops left u h a = whole-along Settle piece ops left u h.0 h.1 a.2

  does-along : (ops left : List Op) (piece : Op) (u : Tree) → Does ops piece left → Along ops u → Along left (apply piece u)
  does-along [] left piece u d a = elim d [ ]
  does-along (op ∷ ops) left piece u d a = subst (λ (k : List Op). Along k (apply piece u)) (sym d.2) (piece-along op piece ops d.0 u d.1 a)

  done-along : (ops log left : List Op) (u : Tree) → IsDone ops log left → Along ops u → Along left (after_all log u)
  done-along ops [] left u d a = subst (λ (k : List Op). Along k u) d a
  done-along ops (op ∷ log) left u d a = done-along d.0 log left (apply op u) d.2 (does-along ops d.0 op u d.1 a)

  -- ---- the undo list is such a list

  line-splits : (z : Bool) (p : List ℕ) (n : ℕ) → Splits (cond z (Remove p) (Cut p n))
  line-splits true p n = tt
  line-splits false p n = tt

  along-lines : (ls : List JournalLine) (rest : List Op) (t : Tree) → AllByRecursion (λ (l : JournalLine). among (in_store l.name) (journal_paths journal) ≡ true) ls → AllByRecursion (KeepsFront t q) ls → By t
      → (By (after_all (map undo_line ls) t) → Along rest (after_all (map undo_line ls) t)) → Along (map undo_line ls ++ rest) t
  along-lines [] rest t names keeps c behind = behind c
  along-lines (l ∷ ls) rest t names keeps c behind =
      (c, line-splits (l.offset == 0) (in_store l.name) l.offset, along-lines ls rest (apply (undo_line l) t) names.1 (fronts-kept t q l ls keeps.0 keeps.1) (by-line t l names.0 keeps.0 c) behind)

  abbrev IsPlaced : BackupLine → Type 0
  IsPlaced l = among (place l.plain l.file) (backup_places backups) ≡ true

  one-backup : (l : BackupLine) (backup k : List ℕ) (rest : List Op) (t : Tree) → l.backup ≡ backup → IsOne l.plain l.file → IsPlaced l → IsKept q l k → By t
      → (By (after_all (undo_with l backup k) t) → Along rest (after_all (undo_with l backup k) t)) → Along (undo_with l backup k ++ rest) t
  one-backup l [] k rest t e one placed (inl none) c behind =
      let file = place l.plain l.file in
      (c, tt, behind (by-file t (apply (Remove file) t) l.plain l.file one placed (as-before (apply (Remove file) t) file (with_file-same t file None ∙ sym none.1)) (λ path n f. away t file path None f) c))
  one-backup l [] k rest t e one placed (inr some) c behind = no (sym e ∙ some.0)
    where
      no : {A : Type 0} → [] ≡ backup_name l.file → A
      no h = cc
  one-backup l (b ∷ backup) k rest t e one placed (inl none) c behind = no (sym e ∙ none.0)
    where
      no : {A : Type 0} → b ∷ backup ≡ [] → A
      no h = cc
  one-backup l (b ∷ backup) k rest t e one placed (inr some) c behind =
      let file = place l.plain l.file in
      let new = place l.plain (new_name l.file) in (
        c,
        (l.plain, l.file, one, refl),
        (
          by-new t (apply (Create new k) t) l.plain l.file one (λ path n. away t new path (Some k) n) c,
          tt,
          behind (by-file t (after_all (Create new k ∷ Rename new file ∷ []) t) l.plain l.file one placed (as-before (after_all (Create new k ∷ Rename new file ∷ []) t) file (put-at t new file k ∙ sym some.1)) (λ path n f. put-other t new file k path n f) c),
        ),
      )

  along-backups : (bs : List BackupLine) (kept : List (List ℕ)) (rest : List Op) (t : Tree) → AllOnes bs → AllByRecursion IsPlaced bs → AreKept q bs kept → By t
      → (By (after_all (undo_backups bs kept) t) → Along rest (after_all (undo_backups bs kept) t)) → Along (undo_backups bs kept ++ rest) t
  along-backups [] [] rest t os placed are c behind = behind c
  along-backups [] (k ∷ kept) rest t os placed are c behind = elim are [ ]
  along-backups (l ∷ bs) [] rest t os placed are c behind = elim are [ ]
  along-backups (l ∷ bs) (k ∷ kept) rest t os placed are c behind =
      let both = after_all-append (undo_backup l k) (undo_backups bs kept) t in
      subst (λ (ops : List Op). Along ops t) (sym (append_assoc (undo_backup l k) (undo_backups bs kept) rest))
      (one-backup l l.backup k (undo_backups bs kept ++ rest) t refl os.0 placed.0 are.0 c
      (λ d. along-backups bs kept rest (after_all (undo_backup l k) t) os.1 placed.1 are.1 d (λ f. subst (Along rest) both (behind (subst By (sym both) f)))))

all-weaken : {A : Type 0} (P Q : A → Type 0) (xs : List A) → ((x : A) → P x → Q x) → AllByRecursion P xs → AllByRecursion Q xs
all-weaken P Q [] f a = tt
all-weaken P Q (x ∷ xs) f a = (f x a.0, all-weaken P Q xs f a.1)

all-named : (ls : List JournalLine) → AllByRecursion (λ (l : JournalLine). among (in_store l.name) (journal_paths ls) ≡ true) ls
all-named [] = tt
all-named (l ∷ ls) = (
  ap (λ b. b || among (in_store l.name) (journal_paths ls)) (same-refl (in_store l.name)),
  all-weaken (λ (m : JournalLine). among (in_store m.name) (journal_paths ls) ≡ true) (λ (m : JournalLine). among (in_store m.name) (journal_paths (l ∷ ls)) ≡ true) ls (λ m h. or-right (same (in_store m.name) (in_store l.name)) _ h) (all-named ls),
)

all-placed : (bs : List BackupLine) → AllByRecursion (λ (l : BackupLine). among (place l.plain l.file) (backup_places bs) ≡ true) bs
all-placed [] = tt
all-placed (l ∷ bs) = (
  ap (λ b. b || among (place l.plain l.file) (backup_places bs)) (same-refl (place l.plain l.file)),
  all-weaken (λ (m : BackupLine). among (place m.plain m.file) (backup_places bs) ≡ true) (λ (m : BackupLine). among (place m.plain m.file) (backup_places (l ∷ bs)) ≡ true) bs (λ m h. or-right (same (place m.plain m.file) (place l.plain l.file)) _ h) (all-placed bs),
)

-- ---- from a covered tree

covers-of : (strays : List (List ℕ)) (t u q : Tree) (c : Covers strays t q) → CoversBy strays c.journal c.backups c.journal_bytes c.backups_bytes q u → Covers strays u q
covers-of strays t u q c by = record {
  journal = c.journal;
  journal_bytes = c.journal_bytes;
  journal_stands = by.journal_stands;
  journal_text = c.journal_text;
  backups = c.backups;
  backups_bytes = c.backups_bytes;
  backups_stand = by.backups_stand;
  backups_text = c.backups_text;
  apart = c.apart;
  replaced = c.replaced;
  once = c.once;
  fronts = by.fronts;
  kept = by.kept;
  others = by.others;
  undone = c.undone;
}

by-of : (strays : List (List ℕ)) (t q : Tree) (c : Covers strays t q) → CoversBy strays c.journal c.backups c.journal_bytes c.backups_bytes q t
by-of strays t q c = record { journal_stands = c.journal_stands; backups_stand = c.backups_stand; fronts = c.fronts; kept = c.kept; others = c.others }

-- ---- of what is read

ok_is : {L : Type 0} (x y : List L) → (let a : Result (List L) JournalFault = Ok x in a) ≡ Ok y → x ≡ y
ok_is x y e = cc

pub reads-of : (strays : List (List ℕ)) (t q : Tree) (c : Covers strays t q) → ReadsAs t c.journal c.backups
reads-of strays t q c = record {
  journal_read = ap read_journal (bytes_at-is t journal_path c.journal_bytes c.journal_stands) ∙ journal-back c.journal_bytes c.journal c.journal_text;
  backups_read = ap read_backups (bytes_at-is t backups_path c.backups_bytes c.backups_stand) ∙ backups-back c.backups_bytes c.backups c.backups_text;
}

module _ (strays : List (List ℕ)) (own : HasOwnStrays strays) (t q : Tree) (c : Covers strays t q) where
  ones : AllOnes c.backups
  ones = all-ones c.backups c.replaced

  abbrev list : List Op
  list = undo_ops t c.journal c.backups

  pub undo-leads : Restores strays (after_all list t) q
  undo-leads = undo-restores strays t q c (kept_bytes t c.backups) (are-kept t q c.backups c.kept) (new-names-loose strays c.backups own ones)

  abbrev AlongHere : List Op → Tree → Type 0
  AlongHere ops u = Along strays own c.journal c.backups c.journal_bytes c.backups_bytes q c.apart ones ops u

  list-along : AlongHere list t
  list-along =
      let lines = map undo_line (reverse c.journal) in
      let kept = kept_bytes t c.backups in
      let backs = undo_backups c.backups kept in
      let last = Remove journal_path ∷ [] in
      let t1 = after_all lines t in
      let whole : after_all list t ≡ apply (Remove journal_path) (after_all backs t1) = after_all-append (lines ++ backs) last t ∙ ap (apply (Remove journal_path)) (after_all-append lines backs t) in
      subst (λ (ops : List Op). AlongHere ops t) (sym (append_assoc lines backs last))
      (along-lines strays own c.journal c.backups c.journal_bytes c.backups_bytes q c.apart ones (reverse c.journal) (backs ++ last) t
      (all-reverse (λ (l : JournalLine). among (in_store l.name) (journal_paths c.journal) ≡ true) c.journal (all-named c.journal)) (all-reverse (KeepsFront t q) c.journal c.fronts) (by-of strays t q c)
      (λ b. along-backups strays own c.journal c.backups c.journal_bytes c.backups_bytes q c.apart ones c.backups kept last t1 ones (all-placed c.backups) (are-kept t q c.backups c.kept) b
      (λ d. (d, tt, subst (λ (u : Tree). Restores strays u q) whole undo-leads))))

  along-leads : (left : List Op) (u : Tree) → AlongHere left u → LeadsBack strays c.journal c.backups u q ⊎ ((left ≡ []) × Restores strays u q)
  unfolding covers-of
  along-leads [] u a = inr (refl, a)
  along-leads (op ∷ left) u a = inl (record { covers = covers-of strays t u q c a.0; reads = reads-of strays u q (covers-of strays t u q c a.0) })

  pub undo-parts : (done left : List Op) → IsDone list done left → LeadsBack strays c.journal c.backups (after_all done t) q ⊎ ((left ≡ []) × Restores strays (after_all done t) q)
  undo-parts done left d = along-leads left (after_all done t) (done-along strays own c.journal c.backups c.journal_bytes c.backups_bytes q c.apart ones list done left t d list-along)

  pub undo-stops : (u : Tree) → StopLeaves t list u → LeadsBack strays c.journal c.backups u q ⊎ Restores strays u q
  undo-stops u s =
      let d = stop-leaves-done t u list s in
      subst (λ (v : Tree). LeadsBack strays c.journal c.backups v q ⊎ Restores strays v q) (sym d.3) (elim (undo-parts d.0 d.1 d.2) [
        | inl covered ↦ inl covered
        | inr last ↦ inr last.1
      ])

-- what is read is what the tree is covered by
pub read-covers : (strays : List (List ℕ)) (t q : Tree) (c : Covers strays t q) (journal : List JournalLine) (backups : List BackupLine) → ReadsAs t journal backups → undo_ops t c.journal c.backups ≡ undo_ops t journal backups
read-covers strays t q c journal backups r =
    let own = reads-of strays t q c in
    ap (λ ls. undo_ops t ls c.backups) (ok_is c.journal journal (sym own.journal_read ∙ r.journal_read)) ∙ ap (undo_ops t journal) (ok_is c.backups backups (sym own.backups_read ∙ r.backups_read))

-- ---- what a transaction does, from a covered tree

pub named-read : (strays : List (List ℕ)) (t q : Tree) (c : Covers strays t q) (journal : List JournalLine) (backups : List BackupLine) → ReadsAs t journal backups → (c.journal ≡ journal) × (c.backups ≡ backups)
named-read strays t q c journal backups r =
    let own = reads-of strays t q c in
    (ok_is c.journal journal (sym own.journal_read ∙ r.journal_read), ok_is c.backups backups (sym own.backups_read ∙ r.backups_read))

pub covers-append : (strays : List (List ℕ)) → HasOwnStrays strays → (t q : Tree) (c : Covers strays t q) (journal : List JournalLine) (backups : List BackupLine) (path bytes : List ℕ) → ReadsAs t journal backups
    → among path (journal_paths journal) ≡ true → Covers strays (apply (Append path bytes) t) q
covers-append strays own t q c journal backups path bytes r named =
    let is = named-read strays t q c journal backups r in
    covers-of strays t (apply (Append path bytes) t) q c
    (by-append strays own c.journal c.backups c.journal_bytes c.backups_bytes q c.apart (all-ones c.backups c.replaced) t path bytes (ap (λ ls. among path (journal_paths ls)) is.0 ∙ named) (by-of strays t q c))

pub covers-rename : (strays : List (List ℕ)) → HasOwnStrays strays → (t q : Tree) (c : Covers strays t q) (journal : List JournalLine) (backups : List BackupLine) (plain : Bool) (file : List ℕ) → ReadsAs t journal backups
    → is_replaced plain file ≡ true → among (place plain file) (backup_places backups) ≡ true → among (place plain file) (journal_paths journal) ≡ false → Covers strays (apply (Rename (place plain (new_name file)) (place plain file)) t) q
covers-rename strays own t q c journal backups plain file r one placed unnamed =
    let is = named-read strays t q c journal backups r in
    covers-of strays t (apply (Rename (place plain (new_name file)) (place plain file)) t) q c
    (by-rename strays own c.journal c.backups c.journal_bytes c.backups_bytes q c.apart (all-ones c.backups c.replaced) t plain file (is-one plain file one) (ap (λ ls. among (place plain file) (backup_places ls)) is.1 ∙ placed)
    (ap (λ ls. among (place plain file) (journal_paths ls)) is.0 ∙ unnamed) (by-of strays t q c))
