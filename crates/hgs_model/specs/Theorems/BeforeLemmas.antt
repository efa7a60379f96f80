-- In each list of revisions parents stand before their children, and phases rise from parents to children.
use Rattle.std.proofs.Common.{◌≡◌, ℕ, suc, ◌+◌, ◌≤◌, List, [], ◌∷◌, ◌++◌, length, refl, sym, ◌∙◌, ap, subst, inl, inr, arith, append_assoc, append-nil}
use Rattle.std.specs.Prelude.{Option, Some, None, slice_index}
use Rattle.hgs_bytes.specs.Bytes.{same}
use Rattle.hgs_bytes.specs.Theorems.ByteLemmas.{same-eq}
use Rattle.hgs_index.specs.Ancestor.{IsAncestor, IsParent, itself, of_parent}
use Rattle.hgs_index.specs.Revision.{Revision, ParentsBefore}
use Rattle.hgs_model.specs.History.{History, no_history, history, history_from, with_changeset, EachChangeset, parents_in, manifest_revision, changeset_revision, file_parents, file_revision, filelog_with, manifest_with}
use Rattle.hgs_model.specs.IsRepo.{IsRepo, IsNextChangeset, phase_at}
use Rattle.hgs_model.specs.Repo.{Repo, Changeset, TreeFile, all_parents}
use Rattle.hgs_model.specs.Theorems.CountLemmas.{IsSound, AreTwoBelow, IsBelow, with-one, filelog-one, file-revision-below, manifest-revision-below, sound-more, changelog-one}
use Rattle.hgs_model.specs.Theorems.ListLemmas.{found-is}

-- ---- the changelog

parents_in-append : (xs ys : List Revision) → parents_in (xs ++ ys) ≡ parents_in xs ++ parents_in ys
parents_in-append [] ys = refl
parents_in-append (x ∷ xs) ys = ap (λ l. x.parents ∷ l) (parents_in-append xs ys)

changelog-from : (h : History) (changesets : List Changeset) → EachChangeset IsNextChangeset h changesets → parents_in (history_from h changesets).changelog ≡ parents_in h.changelog ++ all_parents changesets
changelog-from h [] each = sym (append-nil (parents_in h.changelog))
changelog-from h (c ∷ changesets) each =
    changelog-from (with_changeset h c) changesets each.1
    ∙ ap (λ l. parents_in l ++ all_parents changesets) (changelog-one h c each.0)
    ∙ ap (λ l. l ++ all_parents changesets) (parents_in-append h.changelog (changeset_revision h c ∷ []))
    ∙ append_assoc (parents_in h.changelog) (c.parents ∷ []) (all_parents changesets)

pub changelog-parents : (r : Repo) → IsRepo r → parents_in (history r.changesets).changelog ≡ all_parents r.changesets
changelog-parents r is = changelog-from no_history r.changesets is.changesets

-- ---- the manifest and the filelogs

pub record AreBefore (h : History) : Type 0 where
  pub manifest : ParentsBefore 0 (parents_in h.manifest)
  pub filelogs : (path : List ℕ) → ParentsBefore 0 (parents_in (h.filelog path))

narrowed : (o : Option ℕ) (m n : ℕ) → m ≡ n → IsBelow o m → IsBelow o n
narrowed None m n e lt = tt
narrowed (Some a) m n e lt = omega arith

revisions-push : (n : ℕ) (revisions : List Revision) (r : Revision) → ParentsBefore n (parents_in revisions) → AreTwoBelow r.parents (n + length revisions) → ParentsBefore n (parents_in (revisions ++ r ∷ []))
revisions-push n [] r before two = (narrowed r.parents.0 (n + 0) n (omega arith) two.first, narrowed r.parents.1 (n + 0) n (omega arith) two.second, tt)
revisions-push n (x ∷ revisions) r before two = (
  before.0,
  before.1,
  revisions-push (suc n) revisions r before.2 (record {
    first = narrowed r.parents.0 (n + suc (length revisions)) (suc n + length revisions) (omega arith) two.first;
    second = narrowed r.parents.1 (n + suc (length revisions)) (suc n + length revisions) (omega arith) two.second;
  }),
)

push : (revisions all : List Revision) (r : Revision) → all ≡ revisions ++ r ∷ [] → ParentsBefore 0 (parents_in revisions) → AreTwoBelow r.parents (length revisions) → ParentsBefore 0 (parents_in all)
push revisions all r e before two =
    subst (λ l. ParentsBefore 0 (parents_in l)) (sym e) (revisions-push 0 revisions r before (record {
      first = narrowed r.parents.0 (length revisions) (0 + length revisions) (omega arith) two.first;
      second = narrowed r.parents.1 (length revisions) (0 + length revisions) (omega arith) two.second;
    }))

manifest-before : (h : History) (c : Changeset) → IsSound h → AreBefore h → ParentsBefore 0 (parents_in (manifest_with h c))
manifest-before h c s b = elim (with-one h.manifest (manifest_revision h c)) [
  | inl e ↦ subst (λ l. ParentsBefore 0 (parents_in l)) (sym e) b.manifest
  | inr e ↦ push h.manifest (manifest_with h c) (manifest_revision h c) e b.manifest (manifest-revision-below h c s)
]

filelog-before : (h : History) (c : Changeset) (path : List ℕ) → IsSound h → AreBefore h → ParentsBefore 0 (parents_in (filelog_with h c path))
filelog-before h c path s b = elim (filelog-one h c path) [
  | inl e ↦ subst (λ l. ParentsBefore 0 (parents_in l)) (sym e) (b.filelogs path)
  | inr (f, found, e) ↦
      let here : f.path ≡ path = same-eq f.path path (found-is (λ (g : TreeFile). same g.path path) c.tree f found) in
      push (h.filelog path) (filelog_with h c path) (file_revision h c f) e (b.filelogs path)
      (subst (λ p. AreTwoBelow (file_parents h c.parents f.path) (length (h.filelog p))) here (file-revision-below h c.parents f.path s))
]

before-from : (h : History) (changesets : List Changeset) → EachChangeset IsNextChangeset h changesets → IsSound h → AreBefore h → AreBefore (history_from h changesets)
before-from h [] each s b = b
before-from h (c ∷ changesets) each s b =
    before-from (with_changeset h c) changesets each.1 (sound-more h c s each.0.ordered)
    (record { manifest = manifest-before h c s b; filelogs = λ path. filelog-before h c path s b })

pub before : (r : Repo) → IsRepo r → AreBefore (history r.changesets)
before r is = before-from no_history r.changesets is.changesets (record { files = tt; manifests = tt; filelog_count = λ path. omega arith; manifest_count = omega arith }) (record { manifest = tt; filelogs = λ path. tt })

-- ---- phases

phase-rises : (r : Repo) → IsRepo r → (p b : ℕ) → IsParent (all_parents r.changesets) p b → slice_index r.phases p ≤ slice_index r.phases b
phase-rises r is p b parent =
    let good = is.phases b parent.0 parent.1 in
    elim parent.2 [
      | inl e ↦ let at : phase_at r.phases parent.0.0 ≡ slice_index r.phases p = ap (phase_at r.phases) e in omega (arith, good.first, at)
      | inr e ↦ let at : phase_at r.phases parent.0.1 ≡ slice_index r.phases p = ap (phase_at r.phases) e in omega (arith, good.second, at)
    ]

pub phases-rise : (r : Repo) → IsRepo r → (a b : ℕ) → IsAncestor (all_parents r.changesets) a b → slice_index r.phases a ≤ slice_index r.phases b
phases-rise r is a _ itself = omega arith
phases-rise r is a b (of_parent {p = p} parent h) = omega (arith, phases-rise r is a p h, phase-rises r is p b parent)
