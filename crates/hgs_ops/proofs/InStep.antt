-- Operations done in step on two trees, and the tree once a journal stands.
use Rattle.std.proofs.Common.{◌≡◌, ◌⊎◌, ℕ, List, [], ◌∷◌, ◌++◌, Bool, true, false, cond, not, map, refl, sym, ◌∙◌, ap, inl, inr, Option, Some, None}
use Rattle.std.specs.Prelude.{flat_map, unwrap_or}
use Rattle.std.specs.List.{AllByRecursion}
use Rattle.hgs_bytes.specs.Bytes.{same, among}
use Rattle.hgs_files.specs.declared.op.Op.{Op}
use Rattle.hgs_files.specs.declared.op.Op.TheVariants.{Append, Cut, Rename, Remove, Create, Sync, Settle}
use Rattle.hgs_files.specs.Tree.{Tree, after_all, apply, renamed, same_path}
use Rattle.hgs_files.specs.Theorems.TreeLemmas.{after_all-append, with_file-same}
use Rattle.hgs_journal.specs.Covers.{is_loose, no_repeat}
use Rattle.hgs_journal.specs.Names.{backups_path, journal_path, new_name, place, new_journal_path}
use Rattle.hgs_journal.specs.Texts.{backups_text}
use Rattle.hgs_ops.specs.Operations.{lock_path, strays, preparations, wlock_path}
use Rattle.hgs_ops.specs.Replaced.{Replacement, backup_line_of, backup_put, new_put, standing_file}
use Rattle.hgs_ops.specs.Theorems.Touch.{and-left, and-right, apply-other, at, or-both, or-left, or-right, same-sym, touched, untouched, bool, never}
use Rattle.hgs_ops.proofs.JournalLemmas.{IsOneFile, place_of_file, prep-stays}
use Rattle.hgs_ops.proofs.SmallFiles.{IsOne, is-one}
use Rattle.hgs_ops.proofs.SmallFiles.IsOne.{phaseroots, dirstate, bookmarks}
use Rattle.hgs_bytes.specs.Theorems.ByteLemmas.{same-eq}

-- what an operation reads is the same in both
abbrev pub ReadsAlike : Op → Tree → Tree → Type 0
ReadsAlike (Append path bytes) v w = v path ≡ w path
ReadsAlike (Rename from to) v w = v from ≡ w from
ReadsAlike (Cut path len) v w = ⊥
ReadsAlike (Remove path) v w = Unit {0}
ReadsAlike (Create path bytes) v w = Unit {0}
ReadsAlike (Sync path) v w = Unit {0}
ReadsAlike Settle v w = Unit {0}

renamed-alike : (from to q : List ℕ) (v w : Tree) (o : Option (List ℕ)) → v q ≡ w q → renamed v from to o q ≡ renamed w from to o q
renamed-alike from to q v w None h = h
renamed-alike from to q v w (Some b) h = λ i. cond (same_path to q) (Some b) (cond (same_path from q) None (h i))

pub apply-alike : (op : Op) (v w : Tree) (q : List ℕ) → ReadsAlike op v w → v q ≡ w q → apply op v q ≡ apply op w q
apply-alike (Append path bytes) v w q r h = λ i. cond (same_path path q) (Some (unwrap_or (r i) [] ++ bytes)) (h i)
apply-alike (Rename from to) v w q r h = ap (λ o. renamed v from to o q) r ∙ renamed-alike from to q v w (w from) h
apply-alike (Cut path len) v w q r h = absurd r
apply-alike (Remove path) v w q r h = λ i. cond (same_path path q) None (h i)
apply-alike (Create path bytes) v w q r h = λ i. cond (same_path path q) (Some bytes) (h i)
apply-alike (Sync path) v w q r h = h
apply-alike Settle v w q r h = h

-- what an operation reads is watched
abbrev pub Reads : (List ℕ → Type 0) → Op → Type 0
Reads W (Append path bytes) = W path
Reads W (Rename from to) = W from
Reads W _ = ⊥

abbrev pub Agree : (List ℕ → Type 0) → Tree → Tree → Type 0
Agree W v w = (q : List ℕ) → W q → v q ≡ w q

pub agree-op : (W : List ℕ → Type 0) (op : Op) (v w : Tree) → Reads W op → Agree W v w → Agree W (apply op v) (apply op w)
agree-op W (Append path bytes) v w r a q k = apply-alike (Append path bytes) v w q (a path r) (a q k)
agree-op W (Rename from to) v w r a q k = apply-alike (Rename from to) v w q (a from r) (a q k)
agree-op W (Cut path len) v w r a q k = absurd r
agree-op W (Remove path) v w r a q k = absurd r
agree-op W (Create path bytes) v w r a q k = absurd r
agree-op W (Sync path) v w r a q k = absurd r
agree-op W Settle v w r a q k = absurd r

pub agree-all : (W : List ℕ → Type 0) (ops : List Op) (v w : Tree) → AllByRecursion (Reads W) ops → Agree W v w → Agree W (after_all ops v) (after_all ops w)
agree-all W [] v w r a = a
agree-all W (op ∷ ops) v w r a = agree-all W ops (apply op v) (apply op w) r.1 (agree-op W op v w r.0 a)

-- a file that is made is watched too from then on
abbrev pub OrMade : (List ℕ → Type 0) → List ℕ → List ℕ → Type 0
OrMade W path q = W q ⊎ (same path q ≡ true)

pub agree-made : (W : List ℕ → Type 0) (path bytes : List ℕ) (v w : Tree) → Agree W v w → Agree (OrMade W path) (apply (Create path bytes) v) (apply (Create path bytes) w)
agree-made W path bytes v w a q (inl k) = apply-alike (Create path bytes) v w q tt (a q k)
agree-made W path bytes v w a q (inr e) = at v path q (Some bytes) e ∙ sym (at w path q (Some bytes) e)

pub reads-too : (W : List ℕ → Type 0) (path : List ℕ) (ops : List Op) → AllByRecursion (Reads W) ops → AllByRecursion (Reads (OrMade W path)) ops
reads-too W path [] all = tt
reads-too W path (Append p bytes ∷ ops) all = (inl all.0, reads-too W path ops all.1)
reads-too W path (Rename from to ∷ ops) all = (inl all.0, reads-too W path ops all.1)
reads-too W path (Cut p len ∷ ops) all = absurd all.0
reads-too W path (Remove p ∷ ops) all = absurd all.0
reads-too W path (Create p bytes ∷ ops) all = absurd all.0
reads-too W path (Sync p ∷ ops) all = absurd all.0
reads-too W path (Settle ∷ ops) all = absurd all.0

pub reads-join : (W : List ℕ → Type 0) (xs ys : List Op) → AllByRecursion (Reads W) xs → AllByRecursion (Reads W) ys → AllByRecursion (Reads W) (xs ++ ys)
reads-join W [] ys a b = b
reads-join W (x ∷ xs) ys a b = (a.0, reads-join W xs ys a.1 b)

-- ---- new texts stand

pub news-as : (p q : Bool) (x y : List ℕ) → IsOne p x → IsOne q y → same (place p (new_name x)) (place q (new_name y)) ≡ same (place p x) (place q y)
news-as p q x y phaseroots phaseroots = refl
news-as p q x y phaseroots dirstate = refl
news-as p q x y phaseroots bookmarks = refl
news-as p q x y dirstate phaseroots = refl
news-as p q x y dirstate dirstate = refl
news-as p q x y dirstate bookmarks = refl
news-as p q x y bookmarks phaseroots = refl
news-as p q x y bookmarks dirstate = refl
news-as p q x y bookmarks bookmarks = refl

pub un-not : (b : Bool) → not b ≡ true → b ≡ false
un-not true e = sym e
un-not false e = refl

pub others-off : (x : Replacement) (files : List Replacement) → IsOneFile x → AllByRecursion IsOneFile files → among (place_of_file x) (map place_of_file files) ≡ false → touched (place x.plain (new_name x.file)) (map new_put files) ≡ false
others-off x [] one ones e = refl
others-off x (y ∷ files) one ones e = or-both _ _
    (same-sym (place x.plain (new_name x.file)) (place y.plain (new_name y.file)) (news-as x.plain y.plain x.file y.file (is-one x.plain x.file one) (is-one y.plain y.file ones.0) ∙ or-left _ _ e))
    (others-off x files one ones.1 (or-right (same (place_of_file x) (place_of_file y)) _ e))

abbrev pub StandsNew : Tree → Replacement → Type 0
StandsNew v x = v (place x.plain (new_name x.file)) ≡ Some x.text

pub news-in : (files : List Replacement) (v : Tree) → AllByRecursion IsOneFile files → no_repeat (map place_of_file files) ≡ true → AllByRecursion (StandsNew (after_all (map new_put files) v)) files
news-in [] v ones once = tt
news-in (x ∷ files) v ones once = (
  untouched (map new_put files) (apply (new_put x) v) (place x.plain (new_name x.file)) (others-off x files ones.0 ones.1 (un-not _ (and-left _ _ once))) ∙ with_file-same v (place x.plain (new_name x.file)) (Some x.text),
  news-in files (apply (new_put x) v) ones.1 (and-right _ _ once),
)

pub journal-new : (p : Bool) (x : List ℕ) → IsOne p x → same journal_path (place p (new_name x)) ≡ false
journal-new p x phaseroots = refl
journal-new p x dirstate = refl
journal-new p x bookmarks = refl

first-new : (p : Bool) (x : List ℕ) → IsOne p x → same new_journal_path (place p (new_name x)) ≡ false
first-new p x phaseroots = refl
first-new p x dirstate = refl
first-new p x bookmarks = refl

pub list-new : (p : Bool) (x : List ℕ) → IsOne p x → same backups_path (place p (new_name x)) ≡ false
list-new p x phaseroots = refl
list-new p x dirstate = refl
list-new p x bookmarks = refl

pub all-turned : (P Q : Replacement → Type 0) (xs : List Replacement) → ((x : Replacement) → IsOneFile x → P x → Q x) → AllByRecursion IsOneFile xs → AllByRecursion P xs → AllByRecursion Q xs
all-turned P Q [] f ones all = tt
all-turned P Q (x ∷ xs) f ones all = (f x ones.0 all.0, all-turned P Q xs f ones.1 all.1)

-- ---- the tree once the journal stands

module _ (t : Tree) (who : List ℕ) (files : List Replacement) (ones : AllByRecursion IsOneFile files) (once : no_repeat (map place_of_file files) ≡ true) (text : List ℕ) where
  -- the journal got its name
  abbrev pub created : Tree
  created = apply (Rename new_journal_path journal_path) (after_all (preparations t who files (map (backup_line_of t) files) text) t)

  pub created-stays : (q : List ℕ) → is_loose strays q ≡ false → same q journal_path ≡ false → created q ≡ t q
  created-stays q l j =
      apply-other (Rename new_journal_path journal_path) (after_all (preparations t who files (map (backup_line_of t) files) text) t) q (or-both _ _ (not-new q l) (same-sym q journal_path j))
      ∙ prep-stays t who files ones once text q (or-both _ _ l j)
    where
      not-new : (p : List ℕ) → is_loose strays p ≡ false → same new_journal_path p ≡ false
      not-new p free = elim (bool (same new_journal_path p)) [
        | inl e ↦ never (ap (is_loose strays) (same-eq new_journal_path p e) ∙ free)
        | inr e ↦ e
      ]

  pub created-new : AllByRecursion (StandsNew created) files
  created-new = all-turned (StandsNew (after_all (map new_put files) (after_all lead t))) (StandsNew created) files (λ x one h.
      let path = place x.plain (new_name x.file) in
      apply-other (Rename new_journal_path journal_path) (after_all (preparations t who files (map (backup_line_of t) files) text) t) path (or-both _ _ (first-new x.plain x.file (is-one x.plain x.file one)) (journal-new x.plain x.file (is-one x.plain x.file one)))
      ∙ ap (λ (v : Tree). v path) (after_all-append (lead ++ map new_put files) (Create backups_path (backups_text (map (backup_line_of t) files)) ∷ Create new_journal_path text ∷ []) t)
      ∙ apply-other (Create new_journal_path text) (apply (Create backups_path (backups_text (map (backup_line_of t) files))) (after_all (lead ++ map new_put files) t)) path (first-new x.plain x.file (is-one x.plain x.file one))
      ∙ apply-other (Create backups_path (backups_text (map (backup_line_of t) files))) (after_all (lead ++ map new_put files) t) path (list-new x.plain x.file (is-one x.plain x.file one))
      ∙ ap (λ (v : Tree). v path) (after_all-append lead (map new_put files) t) ∙ h) ones (news-in files (after_all lead t) ones once)
    where
      lead : List Op
      lead = Create wlock_path who ∷ Create lock_path who ∷ flat_map (λ x. backup_put x (standing_file t x)) files
