-- Each revision is linked to a changeset that there is.
use Rattle.std.proofs.Common.{◌≡◌, ℕ, ◌+◌, ◌<◌, ◌≤◌, List, [], ◌∷◌, ◌++◌, length, refl, subst, sym, inl, inr, arith, length-append}
use Rattle.std.specs.List.{AllByRecursion}
use Rattle.hgs_index.specs.Revision.{Revision}
use Rattle.hgs_model.specs.History.{History, changeset_revision, history, history_from, manifest_revision, manifest_with, no_history, placed_of, with_changeset}
use Rattle.hgs_model.specs.Repo.{Changeset}
use Rattle.hgs_model.specs.Theorems.CountLemmas.{IsWithOne, filelog-one, with-one}

-- the links of these are below a number
abbrev pub LinkedBelow : ℕ → List Revision → Type 0
LinkedBelow n revisions = AllByRecursion (λ (r : Revision). r.link < n) revisions

pub record IsLinked (h : History) : Type 0 where
  pub filelogs : (path : List ℕ) → LinkedBelow (length h.placed) (h.filelog path)
  pub manifest : LinkedBelow (length h.placed) h.manifest
  pub changelog : LinkedBelow (length h.placed) h.changelog

wider : (m n : ℕ) (revisions : List Revision) → m ≤ n → LinkedBelow m revisions → LinkedBelow n revisions
wider m n [] le all = tt
wider m n (r ∷ revisions) le all = (omega (arith, all.0), wider m n revisions le all.1)

pushed : (n : ℕ) (revisions : List Revision) (r : Revision) → LinkedBelow n revisions → r.link < n → LinkedBelow n (revisions ++ r ∷ [])
pushed n [] r all lt = (lt, tt)
pushed n (x ∷ revisions) r all lt = (all.0, pushed n revisions r all.1 lt)

-- with one more revision, which is linked to the next changeset
one-more : (m n : ℕ) (old all : List Revision) (r : Revision) → n ≡ m + 1 → r.link ≡ m → IsWithOne old all r → LinkedBelow m old → LinkedBelow n all
one-more m n old all r e l (inl h) links = subst (LinkedBelow n) (sym h) (wider m n old (omega arith) links)
one-more m n old all r e l (inr h) links = subst (LinkedBelow n) (sym h) (pushed n old r (wider m n old (omega arith) links) (omega arith))

linked-more : (h : History) (c : Changeset) → IsLinked h → IsLinked (with_changeset h c)
linked-more h c is = record {
  filelogs = λ path. elim (filelog-one h c path) [
    | inl e ↦ subst (LinkedBelow (length (with_changeset h c).placed)) (sym e) (wider (length h.placed) (length (with_changeset h c).placed) (h.filelog path) (omega (arith, longer)) (is.filelogs path))
    | inr (f, found, e) ↦ subst (LinkedBelow (length (with_changeset h c).placed)) (sym e) (pushed (length (with_changeset h c).placed) (h.filelog path) _ (wider (length h.placed) (length (with_changeset h c).placed) (h.filelog path) (omega (arith, longer)) (is.filelogs path)) (omega (arith, longer)))
  ];
  manifest = one-more (length h.placed) (length (with_changeset h c).placed) h.manifest (manifest_with h c) (manifest_revision h c) longer refl (with-one h.manifest (manifest_revision h c)) is.manifest;
  changelog = one-more (length h.placed) (length (with_changeset h c).placed) h.changelog (with_changeset h c).changelog (changeset_revision h c) longer refl (with-one h.changelog (changeset_revision h c)) is.changelog;
}
  where
    longer : length (with_changeset h c).placed ≡ length h.placed + 1
    longer = length-append h.placed (placed_of h c ∷ [])

linked-from : (h : History) (changesets : List Changeset) → IsLinked h → IsLinked (history_from h changesets)
linked-from h [] is = is
linked-from h (c ∷ changesets) is = linked-from (with_changeset h c) changesets (linked-more h c is)

-- every link of a history is below the count of its changesets
pub linked : (changesets : List Changeset) → IsLinked (history changesets)
linked changesets = linked-from no_history changesets (record { filelogs = λ path. tt; manifest = tt; changelog = tt })

-- of a front and what follows, the second
pub all-behind : {A : Type 0} (P : A → Type 0) (xs ys : List A) → AllByRecursion P (xs ++ ys) → AllByRecursion P ys
all-behind P [] ys all = all
all-behind P (x ∷ xs) ys all = all-behind P xs ys all.1

pub linked-behind : (m n : ℕ) (old all new : List Revision) → m ≤ n → all ≡ old ++ new → LinkedBelow m all → LinkedBelow n new
linked-behind m n old all new le e links = wider m n new le (all-behind (λ (r : Revision). r.link < m) old new (subst (LinkedBelow m) e links))
