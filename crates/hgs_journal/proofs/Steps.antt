-- What may be done while a journal stands keeps the tree leading back.
use Rattle.std.proofs.Common.{◌≡◌, ◌⊎◌, ℕ, List, [], ◌∷◌, ◌++◌, Bool, true, false, ◌&&◌, ◌||◌, not, refl, sym, ◌∙◌, ap, subst, inl, inr, map}
use Rattle.std.specs.List.{AllByRecursion, list_any}
use Rattle.hgs_bytes.specs.Bytes.{same, among}
use Rattle.hgs_bytes.specs.Theorems.ByteLemmas.{same-eq, same-refl}
use Rattle.hgs_files.specs.declared.op.Op.{Op}
use Rattle.hgs_files.specs.declared.op.Op.TheVariants.{Append, Cut, Rename, Remove, Create, Sync, Settle}
use Rattle.hgs_files.specs.Log.{Does, IsDone, IsPiece, append_of_rest}
use Rattle.hgs_files.specs.Tree.{Tree, after_all, apply}
use Rattle.hgs_journal.specs.declared.backups.BackupLine.{BackupLine}
use Rattle.hgs_journal.specs.declared.journal.JournalLine.{JournalLine}
use Rattle.hgs_journal.specs.Begun.{IsAllowed, LeadsBack, is_free, is_needed}
use Rattle.hgs_journal.specs.Covers.{HasOwnStrays, KeepsBackup, KeepsFront, ReadsAs, backup_places, is_loose, journal_paths}
use Rattle.hgs_journal.specs.Names.{backup_name, locks, backups_path, in_store, is_replaced, journal_path, new_name, place}
use Rattle.hgs_journal.specs.Read.{read_backups, read_journal}
use Rattle.hgs_journal.specs.Theorems.OwnNames.{AllOnes, IsOne, all-ones, file-free, is-one, new-free, or-true, own-loose}
use Rattle.hgs_journal.specs.Theorems.OwnNames.IsOne.{phaseroots, dirstate, bookmarks}
use Rattle.hgs_journal.specs.Theorems.TreeFacts.{apart, bool, bytes-same, never, same-sym}
use Rattle.hgs_journal.specs.Theorems.Touched.{apply-other, or-both, or-left, or-right}
use Rattle.hgs_journal.specs.Theorems.Undoing.{front-same}
use Rattle.hgs_journal.specs.Theorems.UndoStops.{covers-append, covers-rename, named-read}

-- a test that is true of none of these
pub any-none : (test : List ℕ → Bool) (xs : List (List ℕ)) (p : List ℕ) → list_any test xs ≡ false → among p xs ≡ true → test p ≡ false
any-none test [] p e a = never (sym a)
any-none test (x ∷ xs) p e a = by (bool (same p x)) (any-none test xs p (or-right (test x) _ e))
  where
    by : (same p x ≡ true) ⊎ (same p x ≡ false) → (among p xs ≡ true → test p ≡ false) → test p ≡ false
    by (inl h) rec = ap test (same-eq p x h) ∙ or-left _ _ e
    by (inr h) rec = rec (sym (ap (λ b. b || among p xs) h) ∙ a)

pub reads-stay : (u v : Tree) (journal : List JournalLine) (backups : List BackupLine) → v journal_path ≡ u journal_path → v backups_path ≡ u backups_path → ReadsAs u journal backups → ReadsAs v journal backups
reads-stay u v journal backups a b r = record { journal_read = ap read_journal (bytes-same u v journal_path a) ∙ r.journal_read; backups_read = ap read_backups (bytes-same u v backups_path b) ∙ r.backups_read }

module _ (loose : List (List ℕ)) (own : HasOwnStrays loose) (t : Tree) (journal : List JournalLine) (backups : List BackupLine) where
  -- the journal names nothing that is loose, and not itself
  away-from : (u : Tree) → LeadsBack loose journal backups u t → list_any (λ path. is_loose loose path || same path journal_path) (journal_paths journal) ≡ false
  away-from u h = ap (λ ls. list_any (λ path. is_loose loose path || same path journal_path) (journal_paths ls)) (sym (named-read loose u t h.covers journal backups h.reads).0) ∙ h.covers.apart

  pub append-kept : (u : Tree) (path bytes : List ℕ) → among path (journal_paths journal) ≡ true → LeadsBack loose journal backups u t → LeadsBack loose journal backups (apply (Append path bytes) u) t
  append-kept u path bytes a h =
      let free = any-none (λ p. is_loose loose p || same p journal_path) (journal_paths journal) path (away-from u h) a in
      let list : same path backups_path ≡ false = same-sym backups_path path (apart (is_loose loose) backups_path path (own-loose loose backups_path own refl) (or-left _ _ free)) in
      record {
        covers = covers-append loose own u t h.covers journal backups path bytes h.reads a;
        reads = reads-stay u (apply (Append path bytes) u) journal backups (apply-other (Append path bytes) u journal_path (or-right (is_loose loose path) _ free)) (apply-other (Append path bytes) u backups_path list) h.reads;
      }

  pub rename-kept : (u : Tree) (plain : Bool) (file : List ℕ) → is_replaced plain file ≡ true → among (place plain file) (backup_places backups) ≡ true → among (place plain file) (journal_paths journal) ≡ false → LeadsBack loose journal backups u t → LeadsBack loose journal backups (apply (Rename (place plain (new_name file)) (place plain file)) u) t
  rename-kept u plain file one placed unnamed h =
      let is : IsOne plain file = is-one plain file one in
      record {
        covers = covers-rename loose own u t h.covers journal backups plain file h.reads one placed unnamed;
        reads = reads-stay u (apply (Rename (place plain (new_name file)) (place plain file)) u) journal backups
            (apply-other (Rename (place plain (new_name file)) (place plain file)) u journal_path (or-both _ _ (new-free plain file is).journal (file-free plain file is).journal))
            (apply-other (Rename (place plain (new_name file)) (place plain file)) u backups_path (or-both _ _ (new-free plain file is).list (file-free plain file is).list)) h.reads;
      }

  one-kept : (op : Op) (u : Tree) → IsAllowed journal backups op → LeadsBack loose journal backups u t → LeadsBack loose journal backups (apply op u) t
  one-kept (Append path bytes) u a h = append-kept u path bytes a h
  one-kept (Rename from to) u (plain, file, e, f, one, placed, unnamed) h =
      subst (λ op. LeadsBack loose journal backups (apply op u) t) (λ i. Rename (sym e i) (sym f i)) (rename-kept u plain file one placed unnamed h)
  one-kept (Cut path len) u a h = absurd a
  one-kept (Remove path) u a h = absurd a
  one-kept (Create path bytes) u a h = absurd a
  one-kept (Sync path) u a h = absurd a
  one-kept Settle u a h = absurd a

  -- a piece of an allowed operation is one, and so is what is left of it
  rest-allowed : (path bytes : List ℕ) → among path (journal_paths journal) ≡ true → AllByRecursion (IsAllowed journal backups) (append_of_rest path bytes)
  rest-allowed path [] a = tt
  rest-allowed path (b ∷ bytes) a = (a, tt)

  piece-allowed : (op piece : Op) (left : List Op) → IsPiece op piece left → IsAllowed journal backups op → IsAllowed journal backups piece × AllByRecursion (IsAllowed journal backups) left
  piece-allowed (Append path bytes) piece left (front, back, e, f, g) a = (subst (IsAllowed journal backups) (sym f) a, subst (AllByRecursion (IsAllowed journal backups)) (sym g) (rest-allowed path back a))
  piece-allowed (Rename from to) piece left (f, g) a = (subst (IsAllowed journal backups) (sym f) a, subst (AllByRecursion (IsAllowed journal backups)) (sym g) tt)
  piece-allowed (Cut path len) piece left h a = absurd a
  piece-allowed (Remove path) piece left h a = absurd a
  piece-allowed (Create path bytes) piece left h a = absurd a
  piece-allowed (Sync path) piece left h a = absurd a
  piece-allowed Settle piece left h a = absurd a

  all-joined : (xs ys : List Op) → AllByRecursion (IsAllowed journal backups) xs → AllByRecursion (IsAllowed journal backups) ys → AllByRecursion (IsAllowed journal backups) (xs ++ ys)
  all-joined [] ys a b = b
  all-joined (x ∷ xs) ys a b = (a.0, all-joined xs ys a.1 b)

  does-allowed : (ops left : List Op) (piece : Op) → Does ops piece left → AllByRecursion (IsAllowed journal backups) ops → IsAllowed journal backups piece × AllByRecursion (IsAllowed journal backups) left
  does-allowed [] left piece h a = elim h [ ]
  does-allowed (op ∷ ops) left piece (rest, p, e) a =
      let one = piece-allowed op piece rest p a.0 in
      (one.0, subst (AllByRecursion (IsAllowed journal backups)) (sym e) (all-joined rest ops one.1 a.1))

  -- whatever part of allowed operations is done, the tree still leads back
  pub done-kept : (ops done left : List Op) (u : Tree) → IsDone ops done left → AllByRecursion (IsAllowed journal backups) ops → LeadsBack loose journal backups u t → LeadsBack loose journal backups (after_all done u) t
  done-kept ops [] left u d a h = h
  done-kept ops (op ∷ done) left u (j, first, rest) a h =
      let one = does-allowed ops j op first a in
      done-kept j done left (apply op u) rest one.1 (one-kept op u one.0 h)

-- ---- locks, and strays that undoing does not need, may come and go

module _ (loose : List (List ℕ)) (u v q : Tree) (journal : List JournalLine) (backups : List BackupLine) (still : (p : List ℕ) → is_free loose backups p ≡ false → v p ≡ u p) where
  not-free : (p : List ℕ) → is_loose loose p ≡ false → v p ≡ u p
  not-free p e = still p (ap (λ b. b && not (is_needed backups p)) e)

  and-false : (a b : Bool) → b ≡ true → (a && not b) ≡ false
  and-false true b e = ap not e
  and-false false b e = refl

  needed : (p : List ℕ) → is_needed backups p ≡ true → v p ≡ u p
  needed p e = still p (and-false (is_loose loose p) (is_needed backups p) e)

  fronts-free : (ls : List JournalLine) → list_any (λ path. is_loose loose path || same path journal_path) (journal_paths ls) ≡ false → AllByRecursion (KeepsFront u q) ls → AllByRecursion (KeepsFront v q) ls
  fronts-free [] e all = tt
  fronts-free (l ∷ ls) e all = (front-same u v q l (bytes-same u v (in_store l.name) (not-free (in_store l.name) (or-left _ _ (or-left _ _ e)))) all.0, fronts-free ls (or-right (is_loose loose (in_store l.name) || same (in_store l.name) journal_path) _ e) all.1)

  or-true-right : (a b : Bool) → b ≡ true → (a || b) ≡ true
  or-true-right true b e = refl
  or-true-right false b e = e

  backups-free : (ls : List BackupLine) → ((p : List ℕ) → among p (map (λ (l : BackupLine). place l.plain l.backup) ls) ≡ true → v p ≡ u p) → AllByRecursion (KeepsBackup u q) ls → AllByRecursion (KeepsBackup v q) ls
  backups-free [] h all = tt
  backups-free (l ∷ ls) h all = (
    one (h (place l.plain l.backup) (ap (λ b. b || among (place l.plain l.backup) (map (λ (m : BackupLine). place m.plain m.backup) ls)) (same-refl (place l.plain l.backup)))) all.0,
    backups-free ls (λ p e. h p (or-true-right (same p (place l.plain l.backup)) _ e)) all.1,
  )
    where
      one : v (place l.plain l.backup) ≡ u (place l.plain l.backup) → KeepsBackup u q l → KeepsBackup v q l
      one e (inl (b, bytes, stands, before)) = inl (b, bytes, e ∙ stands, before)
      one e (inr none) = inr none

  pub free-kept : LeadsBack loose journal backups u q → LeadsBack loose journal backups v q
  free-kept h =
      let c = h.covers in
      let is = named-read loose u q c journal backups h.reads in
      let list : v backups_path ≡ u backups_path = needed backups_path refl in
      record {
        covers = record {
          journal = c.journal;
          journal_bytes = c.journal_bytes;
          journal_stands = needed journal_path refl ∙ c.journal_stands;
          journal_text = c.journal_text;
          backups = c.backups;
          backups_bytes = c.backups_bytes;
          backups_stand = list ∙ c.backups_stand;
          backups_text = c.backups_text;
          apart = c.apart;
          replaced = c.replaced;
          once = c.once;
          fronts = fronts-free c.journal c.apart c.fronts;
          kept = backups-free c.backups (λ p e. needed p (or-true-right (same p journal_path || same p backups_path) _ (ap (λ (ls : List BackupLine). among p (map (λ (l : BackupLine). place l.plain l.backup) ls)) (sym is.1) ∙ e))) c.kept;
          others = λ p e. not-free p (or-left _ _ (or-left _ _ (or-left _ _ e))) ∙ c.others p e;
          undone = c.undone;
        };
        reads = reads-stay u v journal backups (needed journal_path refl) list h.reads;
      }

-- ---- locks are not needed

named-unlocked : (p : Bool) (x : List ℕ) → IsOne p x → among (place p (backup_name x)) locks ≡ false
named-unlocked p x phaseroots = refl
named-unlocked p x dirstate = refl
named-unlocked p x bookmarks = refl

bare-unlocked : (p : Bool) → among (place p []) locks ≡ false
bare-unlocked true = refl
bare-unlocked false = refl

backups-unlocked : (u q : Tree) (bs : List BackupLine) → AllOnes bs → AllByRecursion (KeepsBackup u q) bs → (p : List ℕ) → among p (map (λ (l : BackupLine). place l.plain l.backup) bs) ≡ true → among p locks ≡ false
backups-unlocked u q [] os all p e = never (sym e)
backups-unlocked u q (l ∷ bs) os all p e = elim (or-true (same p (place l.plain l.backup)) (among p (map (λ (m : BackupLine). place m.plain m.backup) bs)) e) [
  | inl h ↦ ap (λ x. among x locks) (same-eq p (place l.plain l.backup) h) ∙ one all.0
  | inr h ↦ backups-unlocked u q bs os.1 all.1 p h
]
  where
    one : KeepsBackup u q l → among (place l.plain l.backup) locks ≡ false
    one (inl (b, bytes, stands, before)) = ap (λ x. among (place l.plain x) locks) b ∙ named-unlocked l.plain l.file os.0
    one (inr (b, before)) = ap (λ x. among (place l.plain x) locks) b ∙ bare-unlocked l.plain

needed-unlocked : (u q : Tree) (bs : List BackupLine) → AllOnes bs → AllByRecursion (KeepsBackup u q) bs → (p : List ℕ) → is_needed bs p ≡ true → among p locks ≡ false
needed-unlocked u q bs os all p e = elim (or-true (same p journal_path || same p backups_path) (among p (map (λ (l : BackupLine). place l.plain l.backup) bs)) e) [
  | inr h ↦ backups-unlocked u q bs os all p h
  | inl h ↦ elim (or-true (same p journal_path) (same p backups_path) h) [
    | inl k ↦ ap (λ x. among x locks) (same-eq p journal_path k)
    | inr k ↦ ap (λ x. among x locks) (same-eq p backups_path k)
  ]
]

-- so locks come and go while a journal stands
pub locks-kept : (loose : List (List ℕ)) (u v q : Tree) (journal : List JournalLine) (backups : List BackupLine) → ((p : List ℕ) → among p locks ≡ false → v p ≡ u p) → LeadsBack loose journal backups u q → LeadsBack loose journal backups v q
locks-kept loose u v q journal backups others h = free-kept loose u v q journal backups still h
  where
    is : (h.covers.journal ≡ journal) × (h.covers.backups ≡ backups)
    is = named-read loose u q h.covers journal backups h.reads

    unlocked : (p : List ℕ) → is_needed backups p ≡ true → among p locks ≡ false
    unlocked = needed-unlocked u q backups (subst AllOnes is.1 (all-ones h.covers.backups h.covers.replaced)) (subst (AllByRecursion (KeepsBackup u q)) is.1 h.covers.kept)

    and-true : (a b : Bool) → a ≡ true → (a && not b) ≡ false → b ≡ true
    and-true true true e f = refl
    and-true true false e f = sym f
    and-true false b e f = never (sym e)

    still : (p : List ℕ) → is_free loose backups p ≡ false → v p ≡ u p
    still p e = elim (bool (among p locks)) [
      | inr n ↦ others p n
      | inl l ↦ never (sym l ∙ unlocked p (and-true (is_loose loose p) (is_needed backups p) (ap (λ b. b || among p loose) l) e))
    ]
