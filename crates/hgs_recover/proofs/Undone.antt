-- Lists that undo, as they are done one operation after another.
use Rattle.std.proofs.Common.{◌≡◌, ◌⊎◌, ℕ, ◌+◌, List, [], ◌∷◌, ◌++◌, map, drop, length, ◌<◌, reverse, Bool, true, false, refl, sym, ◌∙◌, ap, subst, inl, inr, append_assoc, append-nil, slice_index_or, arith}
use Rattle.std.specs.Prelude.{Option, Some, None, IsSome, Result, Ok, Err, ◌==◌, if◌then◌else◌}
use Rattle.std.specs.Option.{ForSome}
use Rattle.std.specs.Result.{is_err}
use Rattle.std.proofs.lemmas.List.{drop_more}
use Rattle.hgs_files.specs.declared.files.FileFault.{FileFault}
use Rattle.hgs_files.specs.declared.files.FileFault.TheVariants.{Failed as CallFailed, Memory as NoMemory}
use Rattle.hgs_files.specs.declared.op.Op.{Op}
use Rattle.hgs_files.specs.declared.op.Op.TheVariants.{Cut, Remove}
use Rattle.hgs_files.specs.Files.{GoesOn}
use Rattle.hgs_files.specs.Log.{IsDone}
use Rattle.hgs_files.specs.Reads.{Counts}
use Rattle.hgs_files.specs.Tree.{Tree, after_all, apply, with_file}
use Rattle.hgs_journal.specs.declared.backups.BackupLine.{BackupLine}
use Rattle.hgs_journal.specs.declared.journal.JournalLine.{JournalLine}
use Rattle.hgs_journal.specs.Names.{in_store, journal_path, new_name, place}
use Rattle.hgs_journal.specs.Undo.{undo_backup, undo_backups, undo_line, undo_list, undo_with}
use Rattle.hgs_machine.specs.Carry.{reply_of}
use Rattle.hgs_machine.specs.Locks.{NeverFall}
use Rattle.hgs_machine.specs.Planned.{HasSource, SourcesStand}
use Rattle.hgs_machine.specs.SoFar.{Leaves}
use Rattle.hgs_recover.specs.Undoing.{IsUndoList, Undoes}
use Rattle.hgs_recover.proofs.Basics.{after_all-append, with_file-same}
use Rattle.hgs_recover.proofs.Pieces.{denied-failed, done-all, done-append, done-behind, done-in-part, done-none}

-- ---- the files that are renamed stand

sources-append : (xs ys : List Op) (t : Tree) → SourcesStand xs t → SourcesStand ys (after_all xs t) → SourcesStand (xs ++ ys) t
sources-append [] ys t h k = k
sources-append (x ∷ xs) ys t h k = (h.0, sources-append xs ys (apply x t) h.1 k)

line-stands : (l : JournalLine) (b : Bool) (t : Tree) → HasSource (if b then Remove (in_store l.name) else Cut (in_store l.name) l.offset) t
line-stands l true t = tt
line-stands l false t = tt

lines-stand : (lines : List JournalLine) (t : Tree) → SourcesStand (map undo_line lines) t
lines-stand [] t = tt
lines-stand (l ∷ lines) t = (line-stands l (l.offset == 0) t, lines-stand lines (apply (undo_line l) t))

made : (t : Tree) (path bytes : List ℕ) → IsSome (with_file t path (Some bytes) path)
made t path bytes = subst IsSome (sym (with_file-same t path (Some bytes))) refl

with-stands : (l : BackupLine) (backup kept : List ℕ) (t : Tree) → SourcesStand (undo_with l backup kept) t
with-stands l [] kept t = (tt, tt)
with-stands l (b ∷ backup) kept t = (tt, (made t (place l.plain (new_name l.file)) kept, tt))

backups-stand : (lines : List BackupLine) (kept : List (List ℕ)) (t : Tree) → SourcesStand (undo_backups lines kept) t
backups-stand [] kept t = tt
backups-stand (l ∷ lines) [] t = tt
backups-stand (l ∷ lines) (k ∷ kept) t =
    sources-append (undo_backup l k) (undo_backups lines kept) t (with-stands l l.backup k t) (backups-stand lines kept (after_all (undo_backup l k) t))

list-stands : (journal : List JournalLine) (backups : List BackupLine) (kept : List (List ℕ)) (t : Tree) → SourcesStand (undo_list journal backups kept) t
list-stands journal backups kept t =
    sources-append (map undo_line (reverse journal) ++ undo_backups backups kept) (Remove journal_path ∷ []) t
    (sources-append (map undo_line (reverse journal)) (undo_backups backups kept) t (lines-stand (reverse journal) t) (backups-stand backups kept (after_all (map undo_line (reverse journal)) t)))
    (tt, tt)

pub undo-stands : (ops : List Op) (t : Tree) → IsUndoList ops → SourcesStand ops t
undo-stands ops t h = subst (λ (l : List Op). SourcesStand l t) (sym h.whole) (list-stands h.journal h.backups h.kept t)

pub all-stand : (ops : List Op) (log : Option (List Op)) (start : Tree) → IsUndoList ops → ForSome log (λ l. SourcesStand ops (after_all l start))
all-stand ops log start h = λ l told. undo-stands ops (after_all l start) h

-- ---- the list ends with a removal

-- nothing is left, or something that ends with the removal of the journal
abbrev pub IsEnd : List Op → Type 0
IsEnd ops = (ops ≡ []) ⊎ ((front : List Op) × (ops ≡ front ++ Remove journal_path ∷ []))

pub undo-ends : (ops : List Op) → IsUndoList ops → IsEnd ops
undo-ends ops h = inr (map undo_line (reverse h.journal) ++ undo_backups h.backups h.kept, h.whole)

rest-of : (op : Op) (rest front : List Op) → op ∷ rest ≡ front ++ Remove journal_path ∷ [] → ((op ≡ Remove journal_path) × (rest ≡ [])) ⊎ ((more : List Op) × (rest ≡ more ++ Remove journal_path ∷ []))
rest-of op rest [] e = inl ((let a : op ≡ Remove journal_path = cc in a), (let b : rest ≡ [] = cc in b))
rest-of op rest (x ∷ front) e = inr (front, (let b : rest ≡ front ++ Remove journal_path ∷ [] = cc in b))

none-some : {A : Type 0} (op : Op) (rest : List Op) → op ∷ rest ≡ [] → A
none-some op rest e = absurd (let no : ⊥ = cc in no)

pub ends-behind : (op : Op) (rest : List Op) → IsEnd (op ∷ rest) → IsEnd rest
ends-behind op rest (inl e) = none-some op rest e
ends-behind op rest (inr (front, e)) = elim (rest-of op rest front e) [
  | inl h ↦ inl h.1
  | inr h ↦ inr h
]

-- ---- one operation

some-there : (xs ys : List Op) (o : Op) → (op : Op) × (left : List Op) × (xs ++ o ∷ ys ≡ op ∷ left)
some-there [] ys o = (o, ys, refl)
some-there (x ∷ xs) ys o = (x, xs ++ o ∷ ys, refl)

-- something is left where an operation was refused
left-over : (op : Op) (rest more : List Op) → IsEnd (op ∷ rest) → Leaves op (reply_of (Err CallFailed)) more → (o : Op) × (left : List Op) × IsDone (op ∷ rest) more (o ∷ left)
left-over op rest more (inl e) h = none-some op rest e
left-over op rest more (inr (front, e)) h = elim (rest-of op rest front e) [
  | inl (is, none) ↦ (op, rest, done-none (op ∷ rest) more (subst (λ (o : Op). Leaves o (reply_of (Err CallFailed)) more) is h))
  | inr (behind, is) ↦ (
      let part = done-in-part op more h in
      let some = some-there (part.0 ++ behind) [] (Remove journal_path) in
      let same : part.0 ++ rest ≡ some.0 ∷ some.1 = ap (λ (l : List Op). part.0 ++ l) is ∙ sym (append_assoc part.0 behind (Remove journal_path ∷ [])) ∙ some.2 in
      (some.0, some.1, subst (λ (l : List Op). IsDone (op ∷ rest) more l) same (done-behind (op ∷ []) rest more part.0 part.1))
      )
]

refused : (op : Op) (e : FileFault) (more : List Op) → Leaves op (reply_of (Err e)) more → Leaves op (reply_of (Err CallFailed)) more
refused op CallFailed more h = h
refused op NoMemory more h = denied-failed op more h

-- ---- the loop

goes : (before mid after : Option (List Op)) (P Q R : List Op → Type 0) → ((a b : List Op) → P a → Q b → R (a ++ b)) → GoesOn before mid P → GoesOn mid after Q → GoesOn before after R
goes None mid after P Q R f h k = subst (λ x. GoesOn x after Q) h k
goes (Some log) mid after P Q R f h k =
    let second = subst (λ x. GoesOn x after Q) h.1 k in
    (h.0 ++ second.0, second.1 ∙ ap (λ (l : List Op). Some l) (append_assoc log h.0 second.0), f h.0 second.0 h.2 second.2)

pub one-more : (before mid after : Option (List Op)) (ops rest : List Op) (op : Op) → GoesOn before mid (λ done. IsDone ops done (op ∷ rest)) → GoesOn mid after (Leaves op (reply_of (Ok tt))) → GoesOn before after (λ done. IsDone ops done rest)
one-more before mid after ops rest op h k =
    goes before mid after (λ done. IsDone ops done (op ∷ rest)) (Leaves op (reply_of (Ok tt))) (λ done. IsDone ops done rest)
    (λ a b x y. done-append ops a (op ∷ rest) b rest x (done-behind (op ∷ []) rest b [] (done-all op b y))) h k

pub breaks-off : (before mid after : Option (List Op)) (ops rest : List Op) (op : Op) (e : FileFault) → IsEnd (op ∷ rest) → GoesOn before mid (λ done. IsDone ops done (op ∷ rest)) → GoesOn mid after (Leaves op (reply_of (Err e))) → GoesOn before after (Undoes ops false)
breaks-off before mid after ops rest op e end h k =
    goes before mid after (λ done. IsDone ops done (op ∷ rest)) (Leaves op (reply_of (Err e))) (Undoes ops false)
    (λ a b x y. (let left = left-over op rest b end (refused op e b y) in (left.0, left.1, done-append ops a (op ∷ rest) b (left.0 ∷ left.1) x left.2))) h k

some-is : (a b : List Op) → Some a ≡ Some b → a ≡ b
some-is a b e = cc

-- what was done in pieces, and then what is left, does what the list does
abbrev pub Joins : Type 0
Joins = (ops done left : List Op) (t : Tree) → IsDone ops done left → after_all left (after_all done t) ≡ after_all ops t

pub next-stand : (joins : Joins) (mid after : Option (List Op)) (start start_next : Tree) (op : Op) (rest : List Op) → start_next ≡ start → ForSome mid (λ log. SourcesStand (op ∷ rest) (after_all log start)) → GoesOn mid after (Leaves op (reply_of (Ok tt))) → ForSome after (λ log. SourcesStand rest (after_all log start_next))
next-stand joins None after start start_next op rest same h k = λ log told. absurd (let no : None ≡ Some log = sym k ∙ told in let f : ⊥ = cc in f)
next-stand joins (Some old) after start start_next op rest same h (more, e, l) = λ log told.
    let tree : after_all log start_next ≡ apply op (after_all old start) =
    ap (λ (u : Tree). after_all log u) same ∙ ap (λ (x : List Op). after_all x start) (some-is log (old ++ more) (sym told ∙ e)) ∙ after_all-append old more start
    ∙ joins (op ∷ []) more [] (after_all old start) (done-all op more l) in
    subst (SourcesStand rest) (sym tree) (h old refl).1

-- the operation at a place, and those behind it
pub here : (ops : List Op) (i : ℕ) (op : Op) → i < length ops → op ≡ slice_index_or ops i op → drop i ops ≡ op ∷ drop (i + 1) ops
here ops i op within is = drop_more ops i op within ∙ ap (λ (o : Op). o ∷ drop (i + 1) ops) (sym is)

pub started : (before : Option (List Op)) (ops : List Op) → GoesOn before before (λ done. IsDone ops done ops)
started None ops = refl
started (Some log) ops = ([], ap (λ (l : List Op). Some l) (sym (append-nil log)), refl)

pub never-fall : (f g h d e i : ℕ) (r : Result Unit FileFault) → NeverFall f g d e → Counts g h e i r → NeverFall f h d i
never-fall f g h d e i (Ok x) n c = (let a = n.faults in let b = n.denied in let x = c.0 in let y = c.1 in record { faults = omega (arith, a, x); denied = omega (arith, b, y) })
never-fall f g h d e i (Err CallFailed) n c = (let a = n.faults in let b = n.denied in let x = c.0.1 in let y = c.1 in record { faults = omega (arith, a, x); denied = omega (arith, b, y) })
never-fall f g h d e i (Err NoMemory) n c = (let a = n.faults in let b = n.denied in let x = c.0 in let y = c.1.1 in record { faults = omega (arith, a, x); denied = omega (arith, b, y) })

module _ (ops rest : List Op) (i : ℕ) (op : Op) (at : drop i ops ≡ op ∷ rest) (r : Result Unit FileFault) where
  refused-by : (before mid after : Option (List Op)) (x : Result Unit FileFault) → is_err x ≡ true → IsEnd (op ∷ rest) → GoesOn before mid (λ done. IsDone ops done (op ∷ rest)) → GoesOn mid after (Leaves op (reply_of x)) → GoesOn before after (Undoes ops false)
  refused-by before mid after (Ok x) e end h k = absurd (let no : ⊥ = cc in no)
  refused-by before mid after (Err f) e end h k = breaks-off before mid after ops rest op f end h k

  pub refused-at : (before mid after : Option (List Op)) (b : Bool) → b ≡ true → b ≡ is_err r → IsEnd (drop i ops) → GoesOn before mid (λ done. IsDone ops done (drop i ops)) → GoesOn mid after (Leaves op (reply_of r)) → GoesOn before after (Undoes ops false)
  refused-at before mid after b failed e end h k =
      refused-by before mid after r (sym e ∙ failed) (subst IsEnd at end) (subst (λ (l : List Op). GoesOn before mid (λ done. IsDone ops done l)) at h) k

  done-by : (P : Result Unit FileFault → Type 0) (x : Result Unit FileFault) → is_err x ≡ false → P x → P (Ok tt)
  done-by P (Ok u) e h = h
  done-by P (Err f) e h = absurd (let no : ⊥ = cc in no)

  module _ (b : Bool) (done : b ≡ false) (e : b ≡ is_err r) where
    left : (mid after : Option (List Op)) → GoesOn mid after (Leaves op (reply_of r)) → GoesOn mid after (Leaves op (reply_of (Ok tt)))
    left mid after h = done-by (λ x. GoesOn mid after (Leaves op (reply_of x))) r (sym e ∙ done) h

    pub done-at : (before mid after : Option (List Op)) → GoesOn before mid (λ done. IsDone ops done (drop i ops)) → GoesOn mid after (Leaves op (reply_of r)) → GoesOn before after (λ done. IsDone ops done rest)
    done-at before mid after h k = one-more before mid after ops rest op (subst (λ (l : List Op). GoesOn before mid (λ done. IsDone ops done l)) at h) (left mid after k)

    pub stand-at : Joins → (mid after : Option (List Op)) (start start_next : Tree) → start_next ≡ start → ForSome mid (λ log. SourcesStand (drop i ops) (after_all log start)) → GoesOn mid after (Leaves op (reply_of r)) → ForSome after (λ log. SourcesStand rest (after_all log start_next))
    stand-at joins mid after start start_next same h k =
        next-stand joins mid after start start_next op rest same (subst (λ (l : List Op). ForSome mid (λ log. SourcesStand l (after_all log start))) at h) (left mid after k)

  pub ends-at : IsEnd (drop i ops) → IsEnd rest
  ends-at h = ends-behind op rest (subst IsEnd at h)
