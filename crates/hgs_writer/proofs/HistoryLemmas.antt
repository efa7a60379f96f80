-- What a history has of the changeset with some number.
use Rattle.std.proofs.Common.{◌≡◌, ℕ, zero, suc, ◌+◌, List, [], ◌∷◌, ◌++◌, length, take, map, refl, sym, ◌∙◌, ap, subst, arith, append-nil, append_assoc, length-append}
use Rattle.std.specs.Prelude.{◌<◌, Option, Some, None, slice_get, slice_index_or}
use Rattle.std.specs.List.{AllByRecursion}
use Rattle.hgs_bytes.specs.Bytes.{IsPrefixOf}
use Rattle.hgs_index.specs.Revision.{Revision}
use Rattle.hgs_model.specs.History.{EachChangeset, History, Placed, changeset_revision, history, history_from, manifest_number, no_history, placed_of, row_of, text_at, with_changeset}
use Rattle.hgs_model.specs.IsRepo.{IsNextChangeset}
use Rattle.hgs_model.specs.Repo.{Changeset}
use Rattle.hgs_model.specs.Theorems.CountLemmas.{IsSound, changelog-one, sound-more}
use Rattle.hgs_model.specs.Theorems.HistoryLemmas.{Extends, history_from-extends}
use Rattle.hgs_model.specs.Theorems.ListedLemmas.{node_at-front, slice_get-front, slice_get-last}

pub got : {A : Type 0} (xs : List A) (i : ℕ) → i < length xs → (x : A) × (slice_get xs i ≡ Some x)
got [] i lt = absurd (omega (arith, lt))
got (x ∷ xs) zero lt = (x, refl)
got (x ∷ xs) (suc i) lt = got xs i (omega (arith, lt))

pub index-is : {A : Type 0} (xs : List A) (i : ℕ) (d x : A) → slice_get xs i ≡ Some x → slice_index_or xs i d ≡ x
index-is [] i d x e = absurd (no e)
  where
    no : None ≡ Some x → ⊥
    no h = cc
index-is (y ∷ xs) zero d x e = ap (λ (o : Option _). elim o [ None ↦ d | Some z ↦ z ]) e
index-is (y ∷ xs) (suc i) d x e = index-is xs i d x e

pub below-found : {A : Type 0} (xs : List A) (i : ℕ) (x : A) → slice_get xs i ≡ Some x → i < length xs
below-found [] i x e = absurd (no e)
  where
    no : None ≡ Some x → ⊥
    no h = cc
below-found (y ∷ xs) zero x e = omega arith
below-found (y ∷ xs) (suc i) x e = omega (arith, below-found xs i x e)

pub text-is : (revisions : List Revision) (rev : ℕ) (r : Revision) → slice_get revisions rev ≡ Some r → text_at revisions rev ≡ r.text
text-is [] rev r e = absurd (no e)
  where
    no : None ≡ Some r → ⊥
    no h = cc
text-is (x ∷ revisions) zero r e = ap (λ (o : Option Revision). elim o [ None ↦ x.text | Some z ↦ z.text ]) e
text-is (x ∷ revisions) (suc rev) r e = text-is revisions rev r e

pub all-last : {A : Type 0} (P : A → Type 0) (xs : List A) (x : A) → AllByRecursion P (xs ++ x ∷ []) → P x
all-last P [] x all = all.0
all-last P (y ∷ xs) x all = all-last P xs x all.1

placed-goes-on : (h : History) (changesets : List Changeset) → IsPrefixOf h.placed (history_from h changesets).placed
placed-goes-on h [] = ([], sym (append-nil h.placed))
placed-goes-on h (c ∷ changesets) =
    let p = placed-goes-on (with_changeset h c) changesets in
    (placed_of h c ∷ p.0, p.1 ∙ append_assoc h.placed (placed_of h c ∷ []) p.0)

manifests-go-on : (h : History) (changesets : List Changeset) → IsPrefixOf h.manifest_of (history_from h changesets).manifest_of
manifests-go-on h [] = ([], sym (append-nil h.manifest_of))
manifests-go-on h (c ∷ changesets) =
    let p = manifests-go-on (with_changeset h c) changesets in
    (manifest_number h c ∷ p.0, p.1 ∙ append_assoc h.manifest_of (manifest_number h c ∷ []) p.0)

-- The history has as this number the revision, the files and the manifest that the changeset adds to the one before it.
pub record IsAddedAt (before k : History) (rev : ℕ) (c : Changeset) : Type 0 where
  pub sound : IsSound (with_changeset before c)
  pub next : IsNextChangeset before c
  pub revision : slice_get k.changelog rev ≡ Some (changeset_revision before c)
  pub placed : slice_get k.placed rev ≡ Some (placed_of before c)
  pub manifest : slice_get k.manifest_of rev ≡ Some (manifest_number before c)
  pub extends : Extends (with_changeset before c) k

added-now : (h : History) (changesets : List Changeset) (rev : ℕ) (c : Changeset) → IsSound h → IsNextChangeset h c → length h.changelog ≡ rev → length h.placed ≡ rev → length h.manifest_of ≡ rev → IsAddedAt h (history_from (with_changeset h c) changesets) rev c
added-now h changesets rev c s is changelog placed manifests = record {
  sound = sound-more h c s is.ordered;
  next = is;
  revision = slice_get-front (with_changeset h c).changelog k.changelog goes_on.changelog rev (changeset_revision h c)
      (subst (λ n. slice_get (with_changeset h c).changelog n ≡ Some (changeset_revision h c)) changelog (ap (λ l. slice_get l (length h.changelog)) (changelog-one h c is) ∙ slice_get-last h.changelog (changeset_revision h c)));
  placed = slice_get-front (with_changeset h c).placed k.placed (placed-goes-on (with_changeset h c) changesets) rev (placed_of h c)
      (subst (λ n. slice_get (with_changeset h c).placed n ≡ Some (placed_of h c)) placed (slice_get-last h.placed (placed_of h c)));
  manifest = slice_get-front (with_changeset h c).manifest_of k.manifest_of (manifests-go-on (with_changeset h c) changesets) rev (manifest_number h c)
      (subst (λ n. slice_get (with_changeset h c).manifest_of n ≡ Some (manifest_number h c)) manifests (slice_get-last h.manifest_of (manifest_number h c)));
  extends = goes_on;
}
  where
    k : History
    k = history_from (with_changeset h c) changesets

    goes_on : Extends (with_changeset h c) k
    goes_on = history_from-extends (with_changeset h c) changesets

added-from : (h : History) (changesets : List Changeset) → IsSound h → EachChangeset IsNextChangeset h changesets → (i rev : ℕ) (c : Changeset) → length h.changelog + i ≡ rev → length h.placed + i ≡ rev → length h.manifest_of + i ≡ rev → slice_get changesets i ≡ Some c
    → IsAddedAt (history_from h (take i changesets)) (history_from h changesets) rev c
added-from h [] s each i rev c x y z found = absurd (no found)
  where
    no : None ≡ Some c → ⊥
    no e = cc
added-from h (d ∷ changesets) s each zero rev c x y z found =
    let is : d ≡ c = ap (λ (o : Option Changeset). elim o [ None ↦ d | Some z ↦ z ]) found in
    subst (IsAddedAt h (history_from (with_changeset h d) changesets) rev) is (added-now h changesets rev d s each.0 (omega (arith, x)) (omega (arith, y)) (omega (arith, z)))
added-from h (d ∷ changesets) s each (suc i) rev c x y z found =
    added-from (with_changeset h d) changesets (sound-more h d s each.0.ordered) each.1 i rev c
    (omega (arith, x, ap length (changelog-one h d each.0), length-append h.changelog (changeset_revision h d ∷ [])))
    (omega (arith, y, length-append h.placed (placed_of h d ∷ []))) (omega (arith, z, length-append h.manifest_of (manifest_number h d ∷ []))) found

pub added : (changesets : List Changeset) → EachChangeset IsNextChangeset no_history changesets → (rev : ℕ) (c : Changeset) → slice_get changesets rev ≡ Some c → IsAddedAt (history (take rev changesets)) (history changesets) rev c
added changesets each rev c found =
    added-from no_history changesets (record { files = tt; manifests = tt; filelog_count = λ path. omega arith; manifest_count = omega arith }) each rev rev c (omega arith) (omega arith) (omega arith) found

-- ---- its rows

rows-stay : (logs more : List ℕ → List Revision) → ((path : List ℕ) → IsPrefixOf (logs path) (more path)) → (files : List Placed) → AllByRecursion (λ (p : Placed). p.rev < length (logs p.path)) files → map (row_of logs) files ≡ map (row_of more) files
rows-stay logs more goes_on [] below = refl
rows-stay logs more goes_on (p ∷ files) below =
    let node = sym (node_at-front (logs p.path) (more p.path) (goes_on p.path) p.rev below.0) in
    let rest = rows-stay logs more goes_on files below.1 in
    λ i. record { path = p.path; node = node i; flag = p.flag } ∷ rest i

-- the rows of its manifest are those of the whole history
pub rows-are : (before k : History) (rev : ℕ) (c : Changeset) (is : IsAddedAt before k rev c) → map (row_of (with_changeset before c).filelog) (placed_of before c) ≡ map (row_of k.filelog) (placed_of before c)
rows-are before k rev c is = rows-stay (with_changeset before c).filelog k.filelog is.extends.filelogs (placed_of before c) (all-last _ before.placed (placed_of before c) is.sound.files)
