-- However far undoing is done, each file has the bytes that it had, or those that it is to have.
use Rattle.std.proofs.Common.{◌≡◌, ◌⊎◌, ℕ, List, [], ◌∷◌, ◌++◌, Bool, true, false, cond, map, reverse, refl, sym, ◌∙◌, subst, inl, inr, append_assoc, append-nil}
use Rattle.std.specs.Prelude.{◌==◌, Some, None}
use Rattle.std.specs.List.{AllByRecursion}
use Rattle.hgs_bytes.specs.Bytes.{same}
use Rattle.hgs_bytes.specs.Theorems.ByteLemmas.{same-eq, same-refl}
use Rattle.hgs_files.specs.declared.op.Op.{Op}
use Rattle.hgs_files.specs.declared.op.Op.TheVariants.{Append, Cut, Rename, Remove, Create, Sync, Settle}
use Rattle.hgs_files.specs.Log.{append_of_rest, IsPiece, Does, IsDone}
use Rattle.hgs_files.specs.Tree.{Tree, bytes_at, apply, after_all}
use Rattle.hgs_files.specs.Theorems.LogLemmas.{after-piece}
use Rattle.hgs_files.specs.Theorems.TreeLemmas.{after_all-append}
use Rattle.hgs_journal.specs.declared.journal.JournalLine.{JournalLine}
use Rattle.hgs_journal.specs.declared.backups.BackupLine.{BackupLine}
use Rattle.hgs_journal.specs.Begun.{LeadsBack}
use Rattle.hgs_journal.specs.Covers.{HasOwnStrays, KeepsFront, is_loose, kept_bytes, undo_ops}
use Rattle.hgs_journal.specs.Names.{backup_name, in_store, place, new_name, journal_path}
use Rattle.hgs_journal.specs.Undo.{undo_backup, undo_backups, undo_line, undo_with}
use Rattle.hgs_journal.specs.Theorems.OwnNames.{AllOnes, IsOne, all-ones, new-own, own-loose}
use Rattle.hgs_journal.specs.Theorems.TreeFacts.{apart, at, away, bool, bytes-same, same-sym}
use Rattle.hgs_journal.specs.Theorems.Undoing.{AreKept, IsKept, all-reverse, are-kept, fronts-kept, line-other, line-restores, put-at, put-other, restored-bytes}
use Rattle.hgs_journal.specs.Theorems.UndoStops.{named-read}

module _ (strays : List (List ℕ)) (own : HasOwnStrays strays) (t q : Tree) (p : List ℕ) (free : is_loose strays p ≡ false) (off : same p journal_path ≡ false) where
  -- the file has the bytes of t or those of q
  abbrev pub Either : Tree → Type 0
  Either u = (bytes_at u p ≡ bytes_at t p) ⊎ (bytes_at u p ≡ bytes_at q p)

  still : (u v : Tree) → v p ≡ u p → Either u → Either v
  still u v e (inl h) = inl (bytes-same u v p e ∙ h)
  still u v e (inr h) = inr (bytes-same u v p e ∙ h)

  -- what is written in parts is another file
  abbrev Splits : Op → Type 0
  Splits (Append path bytes) = same path p ≡ false
  Splits (Create path bytes) = same path p ≡ false
  Splits _ = Unit {0}

  abbrev Along : List Op → Tree → Type 0
  Along [] u = Either u
  Along (op ∷ ops) u = Either u × Splits op × Along ops (apply op u)

  append-along : (path front : List ℕ) (ops : List Op) (u : Tree) (bytes back : List ℕ) → bytes ≡ front ++ back → Along (Append path bytes ∷ ops) u → Along (append_of_rest path back ++ ops) (apply (Append path front) u)
  append-along path front ops u bytes [] e a = subst (λ (b : List ℕ). Along ops (apply (Append path b) u)) (e ∙ append-nil front) a.2
  append-along path front ops u bytes (b ∷ back) e a =
      (still u (apply (Append path front) u) (away u path p _ a.1) a.0, a.1, subst (Along ops) (sym (after-piece (Append path bytes) (Append path front) (append_of_rest path (b ∷ back)) u (front, b ∷ back, e, refl, refl))) a.2)

  create-along : (path front : List ℕ) (ops : List Op) (u : Tree) (bytes back : List ℕ) → bytes ≡ front ++ back → Along (Create path bytes ∷ ops) u → Along (append_of_rest path back ++ ops) (apply (Create path front) u)
  create-along path front ops u bytes [] e a = subst (λ (b : List ℕ). Along ops (apply (Create path b) u)) (e ∙ append-nil front) a.2
  create-along path front ops u bytes (b ∷ back) e a =
      (still u (apply (Create path front) u) (away u path p _ a.1) a.0, a.1, subst (Along ops) (sym (after-piece (Create path bytes) (Create path front) (append_of_rest path (b ∷ back)) u (front, b ∷ back, e, refl, refl))) a.2)

  whole-along : (op piece : Op) (ops left : List Op) (u : Tree) → piece ≡ op → left ≡ [] → Along ops (apply op u) → Along (left ++ ops) (apply piece u)
  whole-along op piece ops left u h l a = subst (λ (k : List Op). Along (k ++ ops) (apply piece u)) (sym l) (subst (λ (o : Op). Along ops (apply o u)) (sym h) a)

  piece-along : (op piece : Op) (ops left : List Op) (u : Tree) → IsPiece op piece left → Along (op ∷ ops) u → Along (left ++ ops) (apply piece u)
  piece-along (Append path bytes) piece ops left u h a =
      subst (λ (k : List Op). Along (k ++ ops) (apply piece u)) (sym h.4) (subst (λ (o : Op). Along (append_of_rest path h.1 ++ ops) (apply o u)) (sym h.3) (append-along path h.0 ops u bytes h.1 h.2 a))
  piece-along (Create path bytes) piece ops left u h a =
      subst (λ (k : List Op). Along (k ++ ops) (apply piece u)) (sym h.4) (subst (λ (o : Op). Along (append_of_rest path h.1 ++ ops) (apply o u)) (sym h.3) (create-along path h.0 ops u bytes h.1 h.2 a))
  piece-along (Cut path len) piece ops left u h a = whole-along (Cut path len) piece ops left u h.0 h.1 a.2
  piece-along (Rename from to) piece ops left u h a = whole-along (Rename from to) piece ops left u h.0 h.1 a.2
  piece-along (Remove path) piece ops left u h a = whole-along (Remove path) piece ops left u h.0 h.1 a.2
  piece-along (Sync path) piece ops left u h a = whole-along (Sync path) piece ops left u h.0 h.1 a.2
  piece-along Settle piece ops left u h a = whole-along Settle piece ops left u h.0 h.1 a.2

  does-along : (ops left : List Op) (piece : Op) (u : Tree) → Does ops piece left → Along ops u → Along left (apply piece u)
  does-along [] left piece u d a = elim d [ ]
  does-along (op ∷ ops) left piece u d a = subst (λ (k : List Op). Along k (apply piece u)) (sym d.2) (piece-along op piece ops d.0 u d.1 a)

  done-along : (ops log left : List Op) (u : Tree) → IsDone ops log left → Along ops u → Along left (after_all log u)
  done-along ops [] left u d a = subst (λ (k : List Op). Along k u) d a
  done-along ops (op ∷ log) left u d a = done-along d.0 log left (apply op u) d.2 (does-along ops d.0 op u d.1 a)

  along-now : (ops : List Op) (u : Tree) → Along ops u → Either u
  along-now [] u a = a
  along-now (op ∷ ops) u a = a.0

  -- ---- the undo list

  by-line : (u : Tree) (l : JournalLine) → KeepsFront u q l → Either u → Either (apply (undo_line l) u)
  by-line u l k c = elim (bool (same (in_store l.name) p)) [
    | inl e ↦ inr (subst (λ x. bytes_at (apply (undo_line l) u) x ≡ bytes_at q x) (same-eq (in_store l.name) p e) (restored-bytes (apply (undo_line l) u) q (in_store l.name) (line-restores u q l k)))
    | inr e ↦ still u (apply (undo_line l) u) (line-other u l p e) c
  ]

  line-splits : (z : Bool) (path : List ℕ) (n : ℕ) → Splits (cond z (Remove path) (Cut path n))
  line-splits true path n = tt
  line-splits false path n = tt

  along-lines : (ls : List JournalLine) (rest : List Op) (u : Tree) → AllByRecursion (KeepsFront u q) ls → Either u → (Either (after_all (map undo_line ls) u) → Along rest (after_all (map undo_line ls) u)) → Along (map undo_line ls ++ rest) u
  along-lines [] rest u keeps c behind = behind c
  along-lines (l ∷ ls) rest u keeps c behind =
      (c, line-splits (l.offset == 0) (in_store l.name) l.offset, along-lines ls rest (apply (undo_line l) u) (fronts-kept u q l ls keeps.0 keeps.1) (by-line u l keeps.0 c) behind)

  as-q : (u : Tree) (file : List ℕ) → same file p ≡ true → u file ≡ q file → Either u
  as-q u file e h = inr (subst (λ x. bytes_at u x ≡ bytes_at q x) (same-eq file p e) (bytes-same q u file h))

  one-backup : (l : BackupLine) (backup k : List ℕ) (rest : List Op) (u : Tree) → l.backup ≡ backup → IsOne l.plain l.file → IsKept q l k → Either u → (Either (after_all (undo_with l backup k) u) → Along rest (after_all (undo_with l backup k) u)) → Along (undo_with l backup k ++ rest) u
  one-backup l [] k rest u e one (inl none) c behind =
      let file = place l.plain l.file in (
        c,
        tt,
        behind (elim (bool (same file p)) [
          | inl is ↦ as-q (apply (Remove file) u) file is (at u file file None (same-refl file) ∙ sym none.1)
          | inr is ↦ still u (apply (Remove file) u) (away u file p None is) c
        ]),
      )
  one-backup l [] k rest u e one (inr some) c behind = no (sym e ∙ some.0)
    where
      no : {A : Type 0} → [] ≡ backup_name l.file → A
      no h = cc
  one-backup l (b ∷ backup) k rest u e one (inl none) c behind = no (sym e ∙ none.0)
    where
      no : {A : Type 0} → b ∷ backup ≡ [] → A
      no h = cc
  one-backup l (b ∷ backup) k rest u e one (inr some) c behind =
      let file = place l.plain l.file in
      let new = place l.plain (new_name l.file) in
      let off_new : same new p ≡ false = apart (is_loose strays) new p (own-loose strays new own (new-own l.plain l.file one)) free in
      let made : Either (apply (Create new k) u) = still u (apply (Create new k) u) (away u new p (Some k) off_new) c in (
        c,
        off_new,
        (
          made,
          tt,
          behind (elim (bool (same file p)) [
            | inl is ↦ as-q (after_all (Create new k ∷ Rename new file ∷ []) u) file is (put-at u new file k ∙ sym some.1)
            | inr is ↦ still u (after_all (Create new k ∷ Rename new file ∷ []) u) (put-other u new file k p off_new is) c
          ]),
        ),
      )

  along-backups : (bs : List BackupLine) (kept : List (List ℕ)) (rest : List Op) (u : Tree) → AllOnes bs → AreKept q bs kept → Either u → (Either (after_all (undo_backups bs kept) u) → Along rest (after_all (undo_backups bs kept) u)) → Along (undo_backups bs kept ++ rest) u
  along-backups [] [] rest u os are c behind = behind c
  along-backups [] (k ∷ kept) rest u os are c behind = elim are [ ]
  along-backups (l ∷ bs) [] rest u os are c behind = elim are [ ]
  along-backups (l ∷ bs) (k ∷ kept) rest u os are c behind =
      let both = after_all-append (undo_backup l k) (undo_backups bs kept) u in
      subst (λ (ops : List Op). Along ops u) (sym (append_assoc (undo_backup l k) (undo_backups bs kept) rest))
      (one-backup l l.backup k (undo_backups bs kept ++ rest) u refl os.0 are.0 c
      (λ d. along-backups bs kept rest (after_all (undo_backup l k) u) os.1 are.1 d (λ f. subst (Along rest) both (behind (subst Either (sym both) f)))))

  module _ (journal : List JournalLine) (backups : List BackupLine) (leads : LeadsBack strays journal backups t q) where
    abbrev list : List Op
    list = undo_ops t journal backups

    list-along : Along list t
    list-along =
        let is = named-read strays t q leads.covers journal backups leads.reads in
        let fronts = subst (AllByRecursion (KeepsFront t q)) is.0 leads.covers.fronts in
        let ones = subst AllOnes is.1 (all-ones leads.covers.backups leads.covers.replaced) in
        let kept = subst (λ bs. AreKept q bs (kept_bytes t bs)) is.1 (are-kept t q leads.covers.backups leads.covers.kept) in
        let lines = map undo_line (reverse journal) in
        let backs = undo_backups backups (kept_bytes t backups) in
        let last = Remove journal_path ∷ [] in
        subst (λ (ops : List Op). Along ops t) (sym (append_assoc lines backs last))
        (along-lines (reverse journal) (backs ++ last) t (all-reverse (KeepsFront t q) journal fronts) (inl refl)
        (λ b. along-backups backups (kept_bytes t backups) last (after_all lines t) ones kept b
        (λ d. (d, tt, still (after_all backs (after_all lines t)) (apply (Remove journal_path) (after_all backs (after_all lines t))) (away (after_all backs (after_all lines t)) journal_path p None (same-sym p journal_path off)) d))))

    -- whatever part of the undo list is done
    pub undo-bytes : (done left : List Op) → IsDone list done left → Either (after_all done t)
    undo-bytes done left d = along-now left (after_all done t) (done-along list done left t d list-along)
