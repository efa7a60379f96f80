-- The lists of revisions after a commit: which grow by one, and that their numbers have room.
use Rattle.std.proofs.Common.{◌≡◌, ◌⊎◌, ℕ, zero, suc, ◌+◌, ◌<◌, ◌≤◌, List, [], ◌∷◌, ◌++◌, Bool, true, false, cond, ◌||◌, length, map, refl, sym, ◌∙◌, ap, subst, inl, inr, arith, length-append}
use Rattle.std.specs.Prelude.{Option, Some, None, IfSome, slice_get, slice_index_or, ◌==◌, find, option_map, is_some, unwrap_or}
use Rattle.std.specs.List.{AllByRecursion}
use Rattle.std.proofs.lemmas.List.Quantifiers.{position-Some}
use Rattle.hgs_bytes.specs.Bytes.{same, among, is_below}
use Rattle.hgs_bytes.specs.Theorems.ByteLemmas.{same-refl, same-eq}
use Rattle.std.proofs.lemmas.Cmp.{tied_itself}
use Rattle.std.specs.Cmp.Lexicographic.{nat_list_cmp_total}
use Rattle.std.specs.Ordering.{is_lt}
use Rattle.hgs_index.specs.FileText.{body_of}
use Rattle.hgs_bytes.specs.Text.{ascends}
use Rattle.hgs_index.specs.Ancestor.{is_ancestor}
use Rattle.hgs_index.specs.Revision.{Revision, Parents, standing, is_as, with_revision, with_revision_at, number_of}
use Rattle.hgs_model.specs.Repo.{Repo, TreeFile, Changeset, tree_paths, file_text}
use Rattle.hgs_model.specs.History.{History, no_history, history, history_from, with_changeset, EachChangeset, Placed, placed_at, placed_of, placed_file, kept, kept_of, file_parents, file_parents_of, file_revision, rev_of_file, log_with_file, filelog_with, manifest_revision, manifest_with, manifest_number, manifest_at, manifest_parents_of, changeset_revision, parents_in, uses, text_at}
use Rattle.hgs_model.specs.IsRepo.{IsRepo, IsNextChangeset}
use Rattle.hgs_model.specs.Theorems.ListLemmas.{some-same, none-some, bool, never, ascends-head, ascends-tail, below-trans, all-push, all-map, found-has}

-- ---- a list of revisions with this one

-- the list is as it was, or has this one revision more
abbrev pub IsWithOne : List Revision → List Revision → Revision → Type 0
IsWithOne old all r = (all ≡ old) ⊎ (all ≡ old ++ r ∷ [])

pub with-one : (revs : List Revision) (r : Revision) → IsWithOne revs (with_revision revs r) r
with-one revs r = by (standing revs r.text r.parents)
  where
    by : (o : Option ℕ) → IsWithOne revs (with_revision_at o revs r) r
    by None = inr refl
    by (Some rev) = inl refl

pub with-one-length : (old all : List Revision) (r : Revision) → IsWithOne old all r → length all ≤ length old + 1
with-one-length old all r (inl e) = omega (arith, ap length e)
with-one-length old all r (inr e) = omega (arith, ap length e, length-append old (r ∷ []))

with-one-more : (old all : List Revision) (r : Revision) → IsWithOne old all r → length old ≤ length all
with-one-more old all r (inl e) = omega (arith, ap length e)
with-one-more old all r (inr e) = omega (arith, ap length e, length-append old (r ∷ []))

-- the number of a revision is below the count with it
pub number-below : (revs : List Revision) (r : Revision) → number_of revs r.text r.parents < length (with_revision revs r)
number-below revs r = by (standing revs r.text r.parents) refl
  where
    by : (o : Option ℕ) → standing revs r.text r.parents ≡ o → unwrap_or o (length revs) < length (with_revision_at o revs r)
    by None e = omega (arith, length-append revs (r ∷ []))
    by (Some rev) e = (position-Some (is_as r.text r.parents) revs rev r e).0

-- ---- what holds of every history

abbrev pub IsBelow : Option ℕ → ℕ → Type 0
IsBelow o n = IfSome o (λ a. a < n)

-- the numbers of files and manifests are numbers of their lists, and no list is longer than there are changesets
pub record IsSound (h : History) : Type 0 where
  pub files : AllByRecursion (λ files. AllByRecursion (λ (p : Placed). p.rev < length (h.filelog p.path)) files) h.placed
  pub manifests : AllByRecursion (λ m. m < length h.manifest) h.manifest_of
  pub filelog_count : (path : List ℕ) → length (h.filelog path) ≤ length h.placed
  pub manifest_count : length h.manifest ≤ length h.placed

-- the parents of the files and the manifest that a changeset makes
placed-some : (h : History) (o : Option ℕ) (path : List ℕ) → IsSound h → IsBelow (option_map (λ (p : Placed). p.rev) (placed_file (placed_at h o) path)) (length (h.filelog path))
placed-some h None path s = tt
placed-some h (Some rev) path s = at h.placed rev s.files
  where
    one : (files : List Placed) (o : Option Placed) → AllByRecursion (λ (p : Placed). p.rev < length (h.filelog p.path)) files → find (λ (p : Placed). same p.path path) files ≡ o → IsBelow (option_map (λ (p : Placed). p.rev) o) (length (h.filelog path))
    one files None all e = tt
    one files (Some p) all e =
        let f = found-has (λ (q : Placed). q.rev < length (h.filelog q.path)) (λ (q : Placed). same q.path path) files p all e in
        subst (λ q. p.rev < length (h.filelog q)) (same-eq p.path path f.1) f.0

    at : (xs : List (List Placed)) (i : ℕ) → AllByRecursion (λ files. AllByRecursion (λ (p : Placed). p.rev < length (h.filelog p.path)) files) xs
        → IsBelow (option_map (λ (p : Placed). p.rev) (placed_file (slice_index_or xs i []) path)) (length (h.filelog path))
    at [] i all = tt
    at (x ∷ xs) zero all = one x (placed_file x path) all.0 refl
    at (x ∷ xs) (suc i) all = at xs i all.1

pub record AreTwoBelow (parents : Parents) (n : ℕ) : Type 0 where
  pub first : IsBelow parents.0 n
  pub second : IsBelow parents.1 n

file-parents-below : (log : List Parents) (a b : Option ℕ) (n : ℕ) → IsBelow a n → IsBelow b n → AreTwoBelow (file_parents_of log a b) n
file-parents-below log None b n p q = record { first = q; second = tt }
file-parents-below log (Some a) None n p q = record { first = p; second = tt }
file-parents-below log (Some a) (Some b) n p q = by (a == b) (is_ancestor log a b) (is_ancestor log b a)
  where
    by : (x y z : Bool) → AreTwoBelow (cond x (Some a, None) (cond y (Some b, None) (cond z (Some a, None) (Some a, Some b)))) n
    by true y z = record { first = p; second = tt }
    by false true z = record { first = q; second = tt }
    by false false true = record { first = p; second = tt }
    by false false false = record { first = p; second = q }

pub file-revision-below : (h : History) (parents : Parents) (path : List ℕ) → IsSound h → AreTwoBelow (file_parents h parents path) (length (h.filelog path))
file-revision-below h parents path s = file-parents-below (parents_in (h.filelog path)) _ _ (length (h.filelog path)) (placed-some h parents.0 path s) (placed-some h parents.1 path s)

manifest-some : (h : History) (o : Option ℕ) → IsSound h → IsBelow (manifest_at h o) (length h.manifest)
manifest-some h None s = tt
manifest-some h (Some rev) s = at h.manifest_of rev s.manifests
  where
    at : (xs : List ℕ) (i : ℕ) → AllByRecursion (λ m. m < length h.manifest) xs → IsBelow (slice_get xs i) (length h.manifest)
    at [] i all = tt
    at (x ∷ xs) zero all = all.0
    at (x ∷ xs) (suc i) all = at xs i all.1

manifest-parents-below : (a b : Option ℕ) (n : ℕ) → IsBelow a n → IsBelow b n → AreTwoBelow (manifest_parents_of a b) n
manifest-parents-below None None n p q = record { first = tt; second = tt }
manifest-parents-below None (Some b) n p q = record { first = tt; second = q }
manifest-parents-below (Some a) None n p q = record { first = p; second = tt }
manifest-parents-below (Some a) (Some b) n p q = by (a == b)
  where
    by : (x : Bool) → AreTwoBelow (cond x (Some a, None) (Some a, Some b)) n
    by true = record { first = p; second = tt }
    by false = record { first = p; second = q }

pub manifest-revision-below : (h : History) (c : Changeset) → IsSound h → AreTwoBelow (manifest_revision h c).parents (length h.manifest)
manifest-revision-below h c s = manifest-parents-below (manifest_at h c.parents.0) (manifest_at h c.parents.1) (length h.manifest) (manifest-some h c.parents.0 s) (manifest-some h c.parents.1 s)

-- ---- the filelogs with one more changeset

-- The filelog of a path is as it was, or has one revision more, of the file that the changeset has at this path.
pub filelog-one : (h : History) (c : Changeset) (path : List ℕ) → (filelog_with h c path ≡ h.filelog path) ⊎ ((f : TreeFile) × (find (λ (g : TreeFile). same g.path path) c.tree ≡ Some f) × (filelog_with h c path ≡ h.filelog path ++ file_revision h c f ∷ []))
filelog-one h c path = by (find (λ (g : TreeFile). same g.path path) c.tree) refl
  where
    by : (o : Option TreeFile) → find (λ (g : TreeFile). same g.path path) c.tree ≡ o
        → (log_with_file h c o (h.filelog path) ≡ h.filelog path) ⊎ ((f : TreeFile) × (o ≡ Some f) × (log_with_file h c o (h.filelog path) ≡ h.filelog path ++ file_revision h c f ∷ []))
    by None e = inl refl
    by (Some f) e = step_on (is_some (kept h c.parents f.path f.body)) (with-one (h.filelog path) (file_revision h c f))
      where
        step_on : (b : Bool) → IsWithOne (h.filelog path) (with_revision (h.filelog path) (file_revision h c f)) (file_revision h c f)
            → (cond b (h.filelog path) (with_revision (h.filelog path) (file_revision h c f)) ≡ h.filelog path) ⊎ ((g : TreeFile) × (Some f ≡ Some g) × (cond b (h.filelog path) (with_revision (h.filelog path) (file_revision h c f)) ≡ h.filelog path ++ file_revision h c g ∷ []))
        step_on true w = inl refl
        step_on false (inl w) = inl w
        step_on false (inr w) = inr (f, refl, w)

filelog-length : (h : History) (c : Changeset) (path : List ℕ) → length (filelog_with h c path) ≤ length (h.filelog path) + 1
filelog-length h c path = elim (filelog-one h c path) [
  | inl e ↦ omega (arith, ap length e)
  | inr (f, found, e) ↦ omega (arith, ap length e, length-append (h.filelog path) (file_revision h c f ∷ []))
]

filelog-more : (h : History) (c : Changeset) (path : List ℕ) → length (h.filelog path) ≤ length (filelog_with h c path)
filelog-more h c path = elim (filelog-one h c path) [
  | inl e ↦ omega (arith, ap length e)
  | inr (f, found, e) ↦ omega (arith, ap length e, length-append (h.filelog path) (file_revision h c f ∷ []))
]

-- in a tree whose paths ascend each file is found by its path
head-other : (x : TreeFile) (tree : List TreeFile) → ascends (tree_paths (x ∷ tree)) ≡ true → AllByRecursion (λ (f : TreeFile). is_below x.path f.path ≡ true) tree
head-other x [] a = tt
head-other x (y ∷ tree) a =
    let first = ascends-head x.path (tree_paths (y ∷ tree)) a in
    (first, all-map _ _ tree (λ f b. below-trans x.path y.path f.path first b) (head-other y tree (ascends-tail x.path (tree_paths (y ∷ tree)) a)))

below-other : (x y : List ℕ) → is_below x y ≡ true → same x y ≡ false
below-other x y a = elim (bool (same x y)) [
  | inl e ↦ never (sym (sym (ap is_lt (tied_itself nat_list_cmp_total x)) ∙ (ap (is_below x) (same-eq x y e) ∙ a)))
  | inr e ↦ e
]

pub found-self : (tree : List TreeFile) → ascends (tree_paths tree) ≡ true → AllByRecursion (λ (f : TreeFile). find (λ (g : TreeFile). same g.path f.path) tree ≡ Some f) tree
found-self [] a = tt
found-self (x ∷ tree) a = (
  ap (λ b. cond b (Some x) (find (λ (g : TreeFile). same g.path x.path) tree)) (same-refl x.path),
  rest tree (head-other x tree a) (found-self tree (ascends-tail x.path (tree_paths tree) a)),
)
  where
    rest : (more : List TreeFile) → AllByRecursion (λ (f : TreeFile). is_below x.path f.path ≡ true) more → AllByRecursion (λ (f : TreeFile). find (λ (g : TreeFile). same g.path f.path) tree ≡ Some f) more
        → AllByRecursion (λ (f : TreeFile). find (λ (g : TreeFile). same g.path f.path) (x ∷ tree) ≡ Some f) more
    rest [] b e = tt
    rest (f ∷ more) b e = (ap (λ z. cond z (Some x) (find (λ (g : TreeFile). same g.path f.path) tree)) (below-other x.path f.path b.0) ∙ e.0, rest more b.1 e.1)

kept-below : (log : List Revision) (a b : Option ℕ) (body : List ℕ) (n : ℕ) (rev : ℕ) → IsBelow a n → kept_of log a b body ≡ Some rev → rev < n
kept-below log None b body n rev p e = none-some rev e
kept-below log (Some a) (Some b) body n rev p e = none-some rev e
kept-below log (Some a) None body n rev p e = by (same (body_of (text_at log a)) body) e
  where
    by : (z : Bool) → cond z (Some a) None ≡ Some rev → rev < n
    by true h = subst (λ k. k < n) (some-same 0 a rev h) p
    by false h = none-some rev h

-- the number of each file of the changeset is below the count of its filelog with the changeset
file-number : (h : History) (c : Changeset) (f : TreeFile) → IsSound h → find (λ (g : TreeFile). same g.path f.path) c.tree ≡ Some f → rev_of_file h c f < length (filelog_with h c f.path)
file-number h c f s e = subst (λ o. rev_of_file h c f < length (log_with_file h c o (h.filelog f.path))) (sym e) (by (kept h c.parents f.path f.body) refl)
  where
    by : (o : Option ℕ) → kept h c.parents f.path f.body ≡ o
        → unwrap_or o (number_of (h.filelog f.path) (file_text f) (file_parents h c.parents f.path)) < length (cond (is_some o) (h.filelog f.path) (with_revision (h.filelog f.path) (file_revision h c f)))
    by None k = number-below (h.filelog f.path) (file_revision h c f)
    by (Some rev) k = kept-below (h.filelog f.path) (file_parents h c.parents f.path).0 (file_parents h c.parents f.path).1 f.body (length (h.filelog f.path)) rev (file-revision-below h c.parents f.path s).first k

files-numbers : (h : History) (c : Changeset) (tree : List TreeFile) → IsSound h → AllByRecursion (λ (f : TreeFile). find (λ (g : TreeFile). same g.path f.path) c.tree ≡ Some f) tree
    → AllByRecursion (λ (p : Placed). p.rev < length (filelog_with h c p.path)) (map (λ (f : TreeFile). record { path = f.path; flag = f.flag; rev = rev_of_file h c f }) tree)
files-numbers h c [] s all = tt
files-numbers h c (f ∷ tree) s all = (file-number h c f s all.0, files-numbers h c tree s all.1)

-- one more changeset leaves a sound history
pub sound-more : (h : History) (c : Changeset) → IsSound h → ascends (tree_paths c.tree) ≡ true → IsSound (with_changeset h c)
sound-more h c s ordered = record {
  files = all-push _ h.placed (placed_of h c)
      (all-map _ _ h.placed (λ files all. all-map (λ (p : Placed). p.rev < length (h.filelog p.path)) (λ (p : Placed). p.rev < length (filelog_with h c p.path)) files (λ p lt. omega (arith, lt, filelog-more h c p.path)) all) s.files)
      (files-numbers h c c.tree s (found-self c.tree ordered));
  manifests = all-push _ h.manifest_of (manifest_number h c) (all-map (λ m. m < length h.manifest) _ h.manifest_of (λ m lt. omega (arith, lt, with-one-more h.manifest (manifest_with h c) (manifest_revision h c) (with-one h.manifest (manifest_revision h c)))) s.manifests)
      (number-below h.manifest (manifest_revision h c));
  filelog_count = λ path. omega (arith, filelog-length h c path, s.filelog_count path, length-append h.placed (placed_of h c ∷ []));
  manifest_count = omega (arith, with-one-length h.manifest (manifest_with h c) (manifest_revision h c) (with-one h.manifest (manifest_revision h c)), s.manifest_count, length-append h.placed (placed_of h c ∷ []));
}

sound-from : (h : History) (changesets : List Changeset) → EachChangeset IsNextChangeset h changesets → IsSound h → IsSound (history_from h changesets)
sound-from h [] each s = s
sound-from h (c ∷ changesets) each s = sound-from (with_changeset h c) changesets each.1 (sound-more h c s each.0.ordered)

pub sound : (r : Repo) → IsRepo r → IsSound (history r.changesets)
sound r is = sound-from no_history r.changesets is.changesets (record { files = tt; manifests = tt; filelog_count = λ path. omega arith; manifest_count = omega arith })

pub length-placed_from : (h : History) (changesets : List Changeset) → length (history_from h changesets).placed ≡ length h.placed + length changesets
length-placed_from h [] = omega arith
length-placed_from h (c ∷ changesets) = omega (arith, length-placed_from (with_changeset h c) changesets, length-append h.placed (placed_of h c ∷ []))

pub length-placed : (changesets : List Changeset) → length (history changesets).placed ≡ length changesets
length-placed changesets = omega (arith, length-placed_from no_history changesets)

-- ---- the changelog and the paths that are not used

pub changelog-one : (h : History) (c : Changeset) → IsNextChangeset h c → (with_changeset h c).changelog ≡ h.changelog ++ changeset_revision h c ∷ []
changelog-one h c is = ap (λ o. with_revision_at o h.changelog (changeset_revision h c)) is.other

not-among : (path : List ℕ) (tree : List TreeFile) → among path (tree_paths tree) ≡ false → find (λ (g : TreeFile). same g.path path) tree ≡ None
not-among path [] e = refl
not-among path (f ∷ tree) e = by (bool (same f.path path)) (not-among path tree)
  where
    by : (same f.path path ≡ true) ⊎ (same f.path path ≡ false) → (among path (tree_paths tree) ≡ false → find (λ (g : TreeFile). same g.path path) tree ≡ None) → cond (same f.path path) (Some f) (find (λ (g : TreeFile). same g.path path) tree) ≡ None
    by (inl h) rec = never (sym (ap (λ b. b || among path (tree_paths tree)) (ap (same path) (same-eq f.path path h) ∙ same-refl path)) ∙ e)
    by (inr h) rec = ap (λ b. cond b (Some f) (find (λ (g : TreeFile). same g.path path) tree)) h ∙ rec (right (same path f.path) e)
      where
        right : (b : Bool) → (b || among path (tree_paths tree)) ≡ false → among path (tree_paths tree) ≡ false
        right true k = never k
        right false k = k

-- the filelog of a path that the changeset doesn't have stays
pub filelog-same : (h : History) (c : Changeset) (path : List ℕ) → among path (tree_paths c.tree) ≡ false → filelog_with h c path ≡ h.filelog path
filelog-same h c path e = ap (λ o. log_with_file h c o (h.filelog path)) (not-among path c.tree e)

pub unused-from : (h : History) (changesets : List Changeset) (path : List ℕ) → uses changesets path ≡ false → (history_from h changesets).filelog path ≡ h.filelog path
unused-from h [] path e = refl
unused-from h (c ∷ changesets) path e = unused-from (with_changeset h c) changesets path (right (among path (tree_paths c.tree)) e) ∙ filelog-same h c path (left (among path (tree_paths c.tree)) e)
  where
    right : (b : Bool) → (b || uses changesets path) ≡ false → uses changesets path ≡ false
    right true k = never k
    right false k = k

    left : (b : Bool) → (b || uses changesets path) ≡ false → b ≡ false
    left true k = k
    left false k = refl

-- a path that no changeset uses has an empty filelog
pub unused-empty : (changesets : List Changeset) (path : List ℕ) → uses changesets path ≡ false → (history changesets).filelog path ≡ []
unused-empty changesets path e = unused-from no_history changesets path e

pub uses-push : (changesets : List Changeset) (c : Changeset) (path : List ℕ) → uses (changesets ++ c ∷ []) path ≡ (uses changesets path || among path (tree_paths c.tree))
uses-push [] c path = or-false (among path (tree_paths c.tree))
  where
    or-false : (b : Bool) → (b || false) ≡ b
    or-false true = refl
    or-false false = refl
uses-push (x ∷ changesets) c path = ap (λ b. among path (tree_paths x.tree) || b) (uses-push changesets c path) ∙ or-assoc (among path (tree_paths x.tree)) (uses changesets path) (among path (tree_paths c.tree))
  where
    or-assoc : (a b d : Bool) → (a || (b || d)) ≡ ((a || b) || d)
    or-assoc true b d = refl
    or-assoc false b d = refl
