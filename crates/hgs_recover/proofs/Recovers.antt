-- Recovering leads back, and so does each stop in it.
use Rattle.std.proofs.Common.{◌≡◌, ◌⊎◌, ℕ, List, [], ◌∷◌, Bool, true, false, refl, sym, ◌∙◌, ap, subst, inl, inr}
use Rattle.std.specs.Prelude.{Option, Some, None, Result, Ok, unwrap_or}
use Rattle.hgs_bytes.specs.Bytes.{same}
use Rattle.hgs_files.specs.declared.op.Op.{Op}
use Rattle.hgs_files.specs.Log.{IsDone}
use Rattle.hgs_files.specs.Stop.{IsStopped, StopLeaves}
use Rattle.hgs_files.specs.Tree.{Tree, after_all, bytes_at}
use Rattle.hgs_journal.specs.Covers.{Covers, IsRestored, Restores, is_loose, undo_ops}
use Rattle.hgs_journal.specs.Names.{journal_path}
use Rattle.hgs_model.specs.Repo.{Repo}
use Rattle.hgs_ops.specs.Operations.{strays}
use Rattle.hgs_load.specs.declared.answer.ReadAnswer.{ReadAnswer}
use Rattle.hgs_stands.specs.Open.{IsOpen}
use Rattle.hgs_stands.specs.Stands.{IsClean, Stands}
use Rattle.hgs_recover.specs.declared.answer.RecoverAnswer.{RecoverAnswer}
use Rattle.hgs_recover.specs.declared.answer.RecoverAnswer.TheVariants.{Restored, NothingToDo, Damaged, Fault, Unfinished, Memory}
use Rattle.hgs_recover.specs.Clearing.{Clears, leftover_paths}
use Rattle.hgs_recover.specs.Found.{answer_in, answer_of, found_in, found_of}
use Rattle.hgs_recover.specs.Recovering.{Attempts, not_yet, once_more, RecoversBy}
use Rattle.hgs_recover.proofs.Basics.{after_all-append}
use Rattle.hgs_recover.proofs.Below.{Below}
use Rattle.hgs_recover.proofs.Clears.{all-others-stay, others-stay}
use Rattle.hgs_recover.proofs.Opened.{found-open, leads-back}
use Rattle.hgs_recover.proofs.Stopping.{stopped-done, stopped-none, stopped-split}

abbrev Found : Type 0
Found = Result (Option (List Op)) ReadAnswer

ops-are : (a b : List Op) → (let f : Found = Ok (Some a) in f ≡ Ok (Some b)) → a ≡ b
ops-are a b e = cc

some-none : {A : Type 0} (a : List Op) → (let f : Found = Ok (Some a) in f ≡ Ok None) → A
some-none a e = cc

none-left : {A : Type 0} (op : Op) (left : List Op) → op ∷ left ≡ [] → A
none-left op left e = absurd (let no : ⊥ = cc in no)

-- no lock is left where all was swept
no-locks : (t : Tree) (log : List Op) (r : Repo) → Clears leftover_paths t true log → Stands (after_all log t) r → IsClean (after_all log t) r
no-locks t log r h s = (let gone = (h.gone refl).1.1.1.1.1.1.1.1.1.1 in record { stands = s; no_locks = (gone.1.0, (gone.0, tt)) })

module _ (b : Below) where
  -- what is removed beside a repository does not matter
  cleared-stands : (t : Tree) (r : Repo) (swept : Bool) (log : List Op) → Clears leftover_paths t swept log → Stands t r → Stands (after_all log t) r
  cleared-stands t r swept log h s = b.loose strays t (after_all log t) r refl (λ path e. all-others-stay t swept log path h e) s

  stopped-stands : (t : Tree) (r : Repo) (swept : Bool) (log done : List Op) → Clears leftover_paths t swept log → IsStopped log done → Stands t r → Stands (after_all done t) r
  stopped-stands t r swept log done h d s = b.loose strays t (after_all done t) r refl (λ path e. others-stay t swept log done path h d e) s

  module _ (t : Tree) (r : Repo) (q : Tree) (c : Covers strays t q) (s : Stands q r) where
    same-ops : (ops : List Op) → found_in t ≡ Ok (Some ops) → ops ≡ undo_ops t c.journal c.backups
    same-ops ops e = ops-are ops (undo_ops t c.journal c.backups) (sym e ∙ found-open b t q c)

    -- all is undone
    undone-stands : (ops undone : List Op) → found_in t ≡ Ok (Some ops) → IsDone ops undone [] → Stands (after_all undone t) r
    undone-stands ops undone e d =
        let whole : after_all undone t ≡ after_all (undo_ops t c.journal c.backups) t = b.joins ops undone [] t d ∙ ap (λ (l : List Op). after_all l t) (same-ops ops e) in
        subst (λ u. Stands u r) (sym whole) (b.restored strays _ q r refl (b.leads strays t q c.journal c.backups refl (leads-back b t q c)) s)

    -- a part is undone
    part-open : (ops done left : List Op) → found_in t ≡ Ok (Some ops) → IsDone ops done left → IsOpen strays (after_all done t) r ⊎ ((left ≡ []) × Stands (after_all done t) r)
    part-open ops done left e d =
        elim (b.parts strays t q c.journal c.backups done left refl (leads-back b t q c) (subst (λ (l : List Op). IsDone l done left) (same-ops ops e) d)) [
          | inl more ↦ inl (q, more.covers, s)
          | inr (none, ends) ↦ inr (none, b.restored strays (after_all done t) q r refl ends s)
        ]

    either : (ops done left : List Op) → found_in t ≡ Ok (Some ops) → IsDone ops done left → IsOpen strays (after_all done t) r ⊎ Stands (after_all done t) r
    either ops done left e d = elim (part-open ops done left e d) [
      | inl o ↦ inl o
      | inr (none, stands) ↦ inr stands
    ]

    still-open : (ops done : List Op) (op : Op) (left : List Op) → found_in t ≡ Ok (Some ops) → IsDone ops done (op ∷ left) → IsOpen strays (after_all done t) r
    still-open ops done op left e d = elim (part-open ops done (op ∷ left) e d) [
      | inl o ↦ o
      | inr (none, stands) ↦ none-left op left none
    ]

    is-open : IsOpen strays t r
    is-open = (q, c, s)

    nothing-done : (log : List Op) → log ≡ [] → IsOpen strays (after_all log t) r
    nothing-done log e = subst (λ (l : List Op). IsOpen strays (after_all l t) r) (sym e) is-open

    leads-restored : (swept : Bool) (log : List Op) → RecoversBy t Restored swept log → Stands (after_all log t) r
    leads-restored swept log (ops, e, h) =
        let tree : after_all log t ≡ after_all h.removed (after_all h.undone t) = ap (λ (l : List Op). after_all l t) h.whole ∙ after_all-append h.undone h.removed t in
        subst (λ u. Stands u r) (sym tree) (cleared-stands (after_all h.undone t) r swept h.removed h.clears (undone-stands ops h.undone e h.done))

    leads-clean : (log : List Op) → RecoversBy t Restored true log → IsClean (after_all log t) r
    leads-clean log (ops, e, h) =
        let tree : after_all log t ≡ after_all h.removed (after_all h.undone t) = ap (λ (l : List Op). after_all l t) h.whole ∙ after_all-append h.undone h.removed t in
        subst (λ u. IsClean u r) (sym tree)
        (no-locks (after_all h.undone t) h.removed r h.clears (cleared-stands (after_all h.undone t) r true h.removed h.clears (undone-stands ops h.undone e h.done)))

    leads-stopped : (swept : Bool) (log done : List Op) → RecoversBy t Restored swept log → IsStopped log done → IsOpen strays (after_all done t) r ⊎ Stands (after_all done t) r
    leads-stopped swept log done (ops, e, h) d = elim (stopped-split h.undone h.removed done (subst (λ (l : List Op). IsStopped l done) h.whole d)) [
      | inl first ↦ (let part = stopped-done b.pieces ops h.undone done [] h.done first in either ops done part.0 e part.1)
      | inr (more, behind, is) ↦ (
          let tree : after_all done t ≡ after_all more (after_all h.undone t) = ap (λ (l : List Op). after_all l t) is ∙ after_all-append h.undone more t in
          inr (subst (λ u. Stands u r) (sym tree) (stopped-stands (after_all h.undone t) r swept h.removed more h.clears behind (undone-stands ops h.undone e h.done)))
          )
    ]

    none-stopped : (log done : List Op) → log ≡ [] → IsStopped log done → IsOpen strays (after_all done t) r ⊎ Stands (after_all done t) r
    none-stopped log done e d = inl (nothing-done done (stopped-none log done e d))

    stopped : (answer : RecoverAnswer) (swept : Bool) (log done : List Op) → RecoversBy t answer swept log → IsStopped log done → IsOpen strays (after_all done t) r ⊎ Stands (after_all done t) r
    stopped Restored swept log done h d = leads-stopped swept log done h d
    stopped NothingToDo swept log done h d = some-none (undo_ops t c.journal c.backups) (sym (found-open b t q c) ∙ h.0)
    stopped (Damaged x) swept log done h d = none-stopped log done h.0 d
    stopped Fault swept log done h d = none-stopped log done h.0 d
    stopped Unfinished swept log done (ops, e, h) d = (let part = stopped-done b.pieces ops log done (h.op ∷ h.left) h.done d in either ops done part.0 e part.1)
    stopped Memory swept log done h d = none-stopped log done h.0 d

    left-open : (answer : RecoverAnswer) (swept : Bool) (log : List Op) → RecoversBy t answer swept log → (answer ≡ Restored) ⊎ IsOpen strays (after_all log t) r
    left-open Restored swept log h = inl refl
    left-open NothingToDo swept log h = some-none (undo_ops t c.journal c.backups) (sym (found-open b t q c) ∙ h.0)
    left-open (Damaged x) swept log h = inr (nothing-done log h.0)
    left-open Fault swept log h = inr (nothing-done log h.0)
    left-open Unfinished swept log (ops, e, h) = inr (still-open ops log h.op h.left e h.done)
    left-open Memory swept log h = inr (nothing-done log h.0)

  -- from a tree that covers another, its files are those of that one
  pub covered-restored : (t q : Tree) (swept : Bool) (log : List Op) → Covers strays t q → RecoversBy t Restored swept log → Restores strays (after_all log t) q
  covered-restored t q swept log c (ops, e, h) path free =
      subst (λ (l : List Op). IsRestored (after_all l t path) (q path)) (sym h.whole)
      (subst (λ (f : Option (List ℕ)). IsRestored f (q path)) (sym (ap (λ (u : Tree). u path) (after_all-append h.undone h.removed t) ∙ all-others-stay (after_all h.undone t) swept h.removed path h.clears free))
      (subst (λ (u : Tree). IsRestored (u path) (q path)) (sym undone) (b.leads strays t q c.journal c.backups refl (leads-back b t q c) path free)))
    where
      undone : after_all h.undone t ≡ after_all (undo_ops t c.journal c.backups) t
      undone = b.joins ops h.undone [] t h.done ∙ ap (λ (l : List Op). after_all l t) (ops-are ops (undo_ops t c.journal c.backups) (sym e ∙ found-open b t q c))

  -- ---- each file on the way

  abbrev HasEither : Tree → Tree → Tree → List ℕ → Type 0
  HasEither t q u path = (bytes_at u path ≡ bytes_at t path) ⊎ (bytes_at u path ≡ bytes_at q path)

  files-in-part : (t q : Tree) (ops done left : List Op) (path : List ℕ) → Covers strays t q → found_in t ≡ Ok (Some ops) → IsDone ops done left → is_loose strays path ≡ false → same path journal_path ≡ false → HasEither t q (after_all done t) path
  files-in-part t q ops done left path c e d free apart =
      b.files strays t q c.journal c.backups path done left refl (leads-back b t q c) free apart (subst (λ (l : List Op). IsDone l done left) (ops-are ops (undo_ops t c.journal c.backups) (sym e ∙ found-open b t q c)) d)

  files-before : (t q : Tree) (log done : List Op) (path : List ℕ) → log ≡ [] → IsStopped log done → HasEither t q (after_all done t) path
  files-before t q log done path e d = inl (ap (λ (l : List Op). bytes_at (after_all l t) path) (stopped-none log done e d))

  files-cleared : (t q v u : Tree) (path : List ℕ) → bytes_at u path ≡ bytes_at v path → HasEither t q v path → HasEither t q u path
  files-cleared t q v u path e (inl h) = inl (e ∙ h)
  files-cleared t q v u path e (inr h) = inr (e ∙ h)

  files-restored : (t q : Tree) (swept : Bool) (log done : List Op) (path : List ℕ) → Covers strays t q → RecoversBy t Restored swept log → IsStopped log done → is_loose strays path ≡ false → same path journal_path ≡ false → HasEither t q (after_all done t) path
  files-restored t q swept log done path c (ops, e, h) d free apart = elim (stopped-split h.undone h.removed done (subst (λ (l : List Op). IsStopped l done) h.whole d)) [
    | inl first ↦ (let part = stopped-done b.pieces ops h.undone done [] h.done first in files-in-part t q ops done part.0 path c e part.1 free apart)
    | inr (more, behind, is) ↦ (
        let tree : after_all done t ≡ after_all more (after_all h.undone t) = ap (λ (l : List Op). after_all l t) is ∙ after_all-append h.undone more t in
        let here : bytes_at (after_all done t) path ≡ bytes_at (after_all h.undone t) path =
        ap (λ (u : Tree). bytes_at u path) tree ∙ ap (λ (f : Option (List ℕ)). unwrap_or f []) (others-stay (after_all h.undone t) swept h.removed more path h.clears behind free) in
        files-cleared t q (after_all h.undone t) (after_all done t) path here (files-in-part t q ops h.undone [] path c e h.done free apart)
        )
  ]

  files-stopped : (t q : Tree) (answer : RecoverAnswer) (swept : Bool) (log done : List Op) (path : List ℕ) → Covers strays t q → RecoversBy t answer swept log → IsStopped log done → is_loose strays path ≡ false → same path journal_path ≡ false → HasEither t q (after_all done t) path
  files-stopped t q Restored swept log done path c h d free apart = files-restored t q swept log done path c h d free apart
  files-stopped t q NothingToDo swept log done path c h d free apart = some-none (undo_ops t c.journal c.backups) (sym (found-open b t q c) ∙ h.0)
  files-stopped t q (Damaged x) swept log done path c h d free apart = files-before t q log done path h.0 d
  files-stopped t q Fault swept log done path c h d free apart = files-before t q log done path h.0 d
  files-stopped t q Unfinished swept log done path c (ops, e, h) d free apart =
      let part = stopped-done b.pieces ops log done (h.op ∷ h.left) h.done d in
      files-in-part t q ops done part.0 path c e part.1 free apart
  files-stopped t q Memory swept log done path c h d free apart = files-before t q log done path h.0 d

  pub open-files : (t q u : Tree) (answer : RecoverAnswer) (swept : Bool) (log : List Op) (path : List ℕ) → Covers strays t q → RecoversBy t answer swept log → StopLeaves t log u → is_loose strays path ≡ false → same path journal_path ≡ false → (bytes_at u path ≡ bytes_at t path) ⊎ (bytes_at u path ≡ bytes_at q path)
  open-files t q u answer swept log path c h (done, d, e) free apart = subst (λ v. HasEither t q v path) (sym e) (files-stopped t q answer swept log done path c h d free apart)

  -- ---- from an open tree

  pub open-found : (t : Tree) (r : Repo) → IsOpen strays t r → answer_in t ≡ Restored
  open-found t r (q, c, s) = ap answer_of (found-open b t q c)

  pub open-restored : (t : Tree) (r : Repo) (swept : Bool) (log : List Op) → IsOpen strays t r → RecoversBy t Restored swept log → Stands (after_all log t) r
  open-restored t r swept log (q, c, s) h = leads-restored t r q c s swept log h

  pub open-clean : (t : Tree) (r : Repo) (log : List Op) → IsOpen strays t r → RecoversBy t Restored true log → IsClean (after_all log t) r
  open-clean t r log (q, c, s) h = leads-clean t r q c s log h

  pub open-stopped : (t u : Tree) (r : Repo) (answer : RecoverAnswer) (swept : Bool) (log : List Op) → IsOpen strays t r → RecoversBy t answer swept log → StopLeaves t log u → IsOpen strays u r ⊎ Stands u r
  open-stopped t u r answer swept log (q, c, s) h (done, d, e) = subst (λ v. IsOpen strays v r ⊎ Stands v r) (sym e) (stopped t r q c s answer swept log done h d)

  pub open-left : (t : Tree) (r : Repo) (answer : RecoverAnswer) (swept : Bool) (log : List Op) → IsOpen strays t r → RecoversBy t answer swept log → (answer ≡ Restored) ⊎ IsOpen strays (after_all log t) r
  open-left t r answer swept log (q, c, s) h = left-open t r q c s answer swept log h

  -- ---- from one that stands

  nothing-found : (t : Tree) → t journal_path ≡ None → found_in t ≡ Ok None
  nothing-found t e = ap (λ f. found_of f t) e

  pub standing-found : (t : Tree) (r : Repo) → Stands t r → answer_in t ≡ NothingToDo
  standing-found t r s = ap answer_of (nothing-found t s.no_journal)

  -- nothing but locks and strays is changed
  kept : (t : Tree) (path : List ℕ) (log done : List Op) → log ≡ [] → IsStopped log done → after_all done t path ≡ t path
  kept t path log done e d = ap (λ (l : List Op). after_all l t path) (stopped-none log done e d)

  standing-kept : (t : Tree) (answer : RecoverAnswer) (swept : Bool) (log done : List Op) (path : List ℕ) → t journal_path ≡ None → RecoversBy t answer swept log → IsStopped log done → is_loose strays path ≡ false → after_all done t path ≡ t path
  standing-kept t Restored swept log done path n (ops, e, h) d f = some-none ops (sym e ∙ nothing-found t n)
  standing-kept t NothingToDo swept log done path n h d f = others-stay t swept log done path h.1 d f
  standing-kept t (Damaged x) swept log done path n h d f = kept t path log done h.0 d
  standing-kept t Fault swept log done path n h d f = kept t path log done h.0 d
  standing-kept t Unfinished swept log done path n (ops, e, h) d f = some-none ops (sym e ∙ nothing-found t n)
  standing-kept t Memory swept log done path n h d f = kept t path log done h.0 d

  pub standing-others : (t u : Tree) (answer : RecoverAnswer) (swept : Bool) (log : List Op) (path : List ℕ) → t journal_path ≡ None → RecoversBy t answer swept log → StopLeaves t log u → is_loose strays path ≡ false → u path ≡ t path
  standing-others t u answer swept log path n h (done, d, e) f = ap (λ (v : Tree). v path) e ∙ standing-kept t answer swept log done path n h d f

  pub standing-stopped : (t u : Tree) (r : Repo) (answer : RecoverAnswer) (swept : Bool) (log : List Op) → Stands t r → RecoversBy t answer swept log → StopLeaves t log u → Stands u r
  standing-stopped t u r answer swept log s h d = b.loose strays t u r refl (λ path f. standing-others t u answer swept log path s.no_journal h d f) s

  pub standing-clean : (t : Tree) (r : Repo) (log : List Op) → Stands t r → RecoversBy t NothingToDo true log → IsClean (after_all log t) r
  standing-clean t r log s h = no-locks t log r h.1 (cleared-stands t r true log h.1 s)

  -- ---- any number of times

  pub attempts-lead : (t u : Tree) (r : Repo) → IsOpen strays t r ⊎ Stands t r → Attempts t u → IsOpen strays u r ⊎ Stands u r
  attempts-lead t _ r h not_yet = h
  attempts-lead t _ r h (once_more u v answer swept log before recovers stops) = elim (attempts-lead t u r h before) [
    | inl o ↦ open-stopped u v r answer swept log o recovers stops
    | inr s ↦ inr (standing-stopped u v r answer swept log s recovers stops)
  ]
