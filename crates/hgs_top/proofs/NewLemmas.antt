-- A new repository is an empty one, or not there yet.
use Rattle.std.proofs.Common.{◌≡◌, ◌⊎◌, ℕ, List, [], ◌∷◌, ◌++◌, refl, sym, ◌∙◌, ap, subst, inl, inr}
use Rattle.std.specs.Prelude.{None}
use Rattle.std.specs.List.{AllByRecursion}
use Rattle.hgs_files.specs.declared.op.Op.{Op}
use Rattle.hgs_files.specs.declared.op.Op.TheVariants.{Rename}
use Rattle.hgs_files.specs.Log.{IsDone, append_of_rest}
use Rattle.hgs_files.specs.Stop.{IsStopped}
use Rattle.hgs_files.specs.Theorems.LogLemmas.{after-done, does-piece}
use Rattle.hgs_files.specs.Tree.{Tree, after_all, apply, bytes_at}
use Rattle.hgs_journal.specs.Names.{journal_path}
use Rattle.hgs_legal.specs.ListsPaths.{ListsPaths}
use Rattle.hgs_load.specs.Open.{requires_path}
use Rattle.hgs_model.specs.Repo.{Repo, empty_repo}
use Rattle.hgs_stands.specs.Places.{fncache_path, store_files}
use Rattle.hgs_stands.specs.Requires.{IsInProfile}
use Rattle.hgs_stands.specs.Stands.{Stands}
use Rattle.hgs_top.specs.Histories.{IsBare, IsNew}
use Rattle.hgs_top.specs.Orders.{init_operations, new_requires, new_requires_path}

abbrev named : Op
named = Rename new_requires_path requires_path

-- a stop in what was done of a list is some of that list, done in part
part-done : (ops log done left : List Op) → IsDone ops log left → IsStopped log done → (l : List Op) × IsDone ops done l
part-done ops [] done left h e = (ops, subst (λ (l : List Op). IsDone ops l ops) (sym e) refl)
part-done ops (op ∷ log) done left h (inl e) = (ops, subst (λ (l : List Op). IsDone ops l ops) (sym e) refl)
part-done ops (op ∷ log) done left h (inr (inl s)) =
    let d = does-piece ops h.0 s.1 op s.0 h.1 s.2 in
    (d.0, subst (λ (l : List Op). IsDone ops l d.0) (sym s.3) (d.0, d.1, refl))
part-done ops (op ∷ log) done left h (inr (inr s)) =
    let more = part-done h.0 log s.0 left h.2 s.1 in
    (more.0, subst (λ (l : List Op). IsDone ops l more.0) (sym s.2) (h.0, h.1, more.1))

-- nothing is done of nothing
none-done : (ops done left : List Op) → ops ≡ [] → IsDone ops done left → left ≡ []
none-done ops [] left e h = sym h ∙ e
none-done [] (op ∷ done) left e h = absurd h.1
none-done (x ∷ ops) (op ∷ done) left e h = absurd (let no : ⊥ = cc in no)

-- ---- `requires` is as it was until the rename is done

abbrev HasCome : Tree → List Op → List Op → Type 0
HasCome t done left = (after_all done t requires_path ≡ t requires_path) ⊎ (left ≡ [])

later : (t : Tree) (op : Op) (done left : List Op) → apply op t requires_path ≡ t requires_path → HasCome (apply op t) done left → HasCome t (op ∷ done) left
later t op done left e (inl h) = inl (h ∙ e)
later t op done left e (inr h) = inr h

-- of a rest of the text, and the rename
appended : (t : Tree) (bytes : List ℕ) (done left : List Op) → IsDone (append_of_rest new_requires_path bytes ++ named ∷ []) done left → HasCome t done left
appended t bytes [] left h = inl refl
appended t [] (op ∷ done) left h = inr (none-done h.0 done left (h.1.2 ∙ ap (λ (r : List Op). r ++ []) h.1.1.1) h.2)
appended t (b ∷ bytes) (op ∷ done) left h =
    let p = h.1.1 in
    later t op done left (ap (λ (o : Op). apply o t requires_path) p.3) (appended (apply op t) p.1 done left (subst (λ (m : List Op). IsDone m done left) (h.1.2 ∙ ap (λ (r : List Op). r ++ named ∷ []) p.4) h.2))

created : (t : Tree) (done left : List Op) → IsDone init_operations done left → HasCome t done left
created t [] left h = inl refl
created t (op ∷ done) left h =
    let p = h.1.1 in
    later t op done left (ap (λ (o : Op). apply o t requires_path) p.3) (appended (apply op t) p.1 done left (subst (λ (m : List Op). IsDone m done left) (h.1.2 ∙ ap (λ (r : List Op). r ++ named ∷ []) p.4) h.2))

-- ---- and then the repository is an empty one

module _ (stands : (t : Tree) → IsInProfile t → AllByRecursion (λ path. bytes_at t path ≡ []) store_files → t journal_path ≡ None → Stands t empty_repo) (lists : (t : Tree) (r : Repo) → bytes_at t fncache_path ≡ [] → ListsPaths t r) where
  pub new-made : (t : Tree) (done : List Op) → IsBare t → IsDone init_operations done [] → IsNew (after_all done t)
  new-made t done bare d =
      let u = after_all init_operations t in
      let profile : IsInProfile u = record { text = new_requires; there = refl; known = refl; whole = refl } in
      let new : IsNew u = (stands u profile bare.0 bare.1, λ r is. lists u r bare.0.1.1.1.0) in
      subst IsNew (sym (after-done init_operations done [] t d)) new

  pub new-stops : (t : Tree) (done left d : List Op) → IsBare t → IsDone init_operations done left → IsStopped done d → (after_all d t requires_path ≡ t requires_path) ⊎ IsNew (after_all d t)
  new-stops t done left d bare h s = (let part = part-done init_operations done d left h s in by part.0 part.1 (created t d part.0 part.1))
    where
      by : (l : List Op) → IsDone init_operations d l → HasCome t d l → (after_all d t requires_path ≡ t requires_path) ⊎ IsNew (after_all d t)
      by l k (inl e) = inl e
      by l k (inr e) = inr (new-made t d bare (subst (λ (m : List Op). IsDone init_operations d m) e k))
