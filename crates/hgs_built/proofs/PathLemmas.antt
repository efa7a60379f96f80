-- The used paths, and the files that stand at their names.
use Rattle.std.proofs.Common.{◌≡◌, ◌⊎◌, ℕ, List, [], ◌∷◌, Bool, true, false, cond, ◌&&◌, ◌||◌, not, refl, sym, ◌∙◌, ap, inl, inr}
use Rattle.std.specs.Prelude.{Option, Some, None, flat_map}
use Rattle.std.specs.List.{list_all}
use Rattle.hgs_bytes.specs.Bytes.{same, among, is_below}
use Rattle.hgs_index.specs.Revision.{Revision}
use Rattle.hgs_index.specs.TrackedPath.{is_tracked}
use Rattle.hgs_model.specs.History.{EachChangeset, History, history, in_order, inserted, uses, with_changeset}
use Rattle.hgs_model.specs.IsRepo.{IsNextChangeset}
use Rattle.hgs_model.specs.Repo.{Changeset, Repo, tree_paths}
use Rattle.hgs_path.specs.declared.name.Ext.{Ext}
use Rattle.hgs_path.specs.declared.name.Ext.TheVariants.{I, D}
use Rattle.hgs_path.specs.Fncache.{clashes}
use Rattle.hgs_path.specs.StoreName.{store_name}
use Rattle.hgs_stands.specs.Places.{own_files}
use Rattle.hgs_built.specs.Built.{data_of, file_or, filelog_file, index_of, own_files_of, tree_of, used_paths}
use Rattle.hgs_built.proofs.Basics.{never, bool, and-left, and-right, same-refl, same-eq, same-not, among-more, among-first, among-both, apart-from}
use Rattle.hgs_built.proofs.Below.{NameLaws}

-- ---- which paths they are

or-idem : (a b : Bool) → (a || b) ≡ (a || (a || b))
or-idem true b = refl
or-idem false b = refl

or-swap : (a b d : Bool) → (a || (b || d)) ≡ (b || (a || d))
or-swap true true d = refl
or-swap true false d = refl
or-swap false b d = refl

among-inserted : (p x : List ℕ) (ys : List (List ℕ)) → among p (inserted x ys) ≡ (same p x || among p ys)
among-inserted p x [] = refl
among-inserted p x (y ∷ ys) = by (among-inserted p x ys) (same x y) refl (is_below x y)
  where
    by : among p (inserted x ys) ≡ (same p x || among p ys) → (a : Bool) → same x y ≡ a → (b : Bool) → among p (cond a (y ∷ ys) (cond b (x ∷ y ∷ ys) (y ∷ inserted x ys))) ≡ (same p x || (same p y || among p ys))
    by rec true e b = or-idem (same p y) (among p ys) ∙ ap (λ z. same p z || (same p y || among p ys)) (sym (same-eq x y e))
    by rec false e true = refl
    by rec false e false = ap (λ z. same p y || z) rec ∙ or-swap (same p y) (same p x) (among p ys)

among-in_order : (p : List ℕ) (xs : List (List ℕ)) → among p (in_order xs) ≡ among p xs
among-in_order p [] = refl
among-in_order p (x ∷ xs) = among-inserted p x (in_order xs) ∙ ap (λ z. same p x || z) (among-in_order p xs)

among-trees : (p : List ℕ) (changesets : List Changeset) → among p (flat_map (λ (c : Changeset). tree_paths c.tree) changesets) ≡ uses changesets p
among-trees p [] = refl
among-trees p (c ∷ changesets) = among-both p (tree_paths c.tree) (flat_map (λ (d : Changeset). tree_paths d.tree) changesets) ∙ ap (λ z. among p (tree_paths c.tree) || z) (among-trees p changesets)

pub among-used : (p : List ℕ) (changesets : List Changeset) → among p (used_paths changesets) ≡ uses changesets p
among-used p changesets = among-in_order p (flat_map (λ (c : Changeset). tree_paths c.tree) changesets) ∙ among-trees p changesets

-- ---- they are tracked

all-among : (f : List ℕ → Bool) (p : List ℕ) (xs : List (List ℕ)) → list_all f xs ≡ true → among p xs ≡ true → f p ≡ true
all-among f p [] a e = never (sym e)
all-among f p (x ∷ xs) a e = by (bool (same p x)) (all-among f p xs (and-right (f x) (list_all f xs) a))
  where
    by : (same p x ≡ true) ⊎ (same p x ≡ false) → (among p xs ≡ true → f p ≡ true) → f p ≡ true
    by (inl h) rec = ap f (same-eq p x h) ∙ and-left (f x) (list_all f xs) a
    by (inr h) rec = rec (sym (ap (λ b. b || among p xs) h) ∙ e)

pub used-tracked : (p : List ℕ) (h : History) (changesets : List Changeset) → EachChangeset IsNextChangeset h changesets → uses changesets p ≡ true → is_tracked p ≡ true
used-tracked p h [] each e = never (sym e)
used-tracked p h (c ∷ changesets) each e = by (bool (among p (tree_paths c.tree))) (used-tracked p (with_changeset h c) changesets each.1)
  where
    by : (among p (tree_paths c.tree) ≡ true) ⊎ (among p (tree_paths c.tree) ≡ false) → (uses changesets p ≡ true → is_tracked p ≡ true) → is_tracked p ≡ true
    by (inl g) rec = all-among is_tracked p (tree_paths c.tree) each.0.paths g
    by (inr g) rec = rec (sym (ap (λ b. b || uses changesets p) g) ∙ e)

-- ---- their files

-- paths that do not clash, one of whose files has the name of the other's, are one
clash-index : (o p : List ℕ) → clashes o p ≡ false → same (store_name o I) (store_name p I) ≡ true → o ≡ p
clash-index o p e f = sym (same-eq p o (by (same p o) (same (store_name p I) (store_name o I)) (same (store_name p D) (store_name o D)) flip e))
  where
    flip : same (store_name p I) (store_name o I) ≡ true
    flip = ap (λ z. same z (store_name o I)) (sym (same-eq (store_name o I) (store_name p I) f)) ∙ same-refl (store_name o I)

    by : (a b d : Bool) → b ≡ true → (not a && (b || d)) ≡ false → a ≡ true
    by true b d g h = refl
    by false true d g h = never h
    by false false d g h = never (sym g)

clash-data : (o p : List ℕ) → clashes o p ≡ false → same (store_name o D) (store_name p D) ≡ true → o ≡ p
clash-data o p e f = sym (same-eq p o (by (same p o) (same (store_name p I) (store_name o I)) (same (store_name p D) (store_name o D)) flip e))
  where
    flip : same (store_name p D) (store_name o D) ≡ true
    flip = ap (λ z. same z (store_name o D)) (sym (same-eq (store_name o D) (store_name p D) f)) ∙ same-refl (store_name o D)

    by : (a b d : Bool) → d ≡ true → (not a && (b || d)) ≡ false → a ≡ true
    by true b d g h = refl
    by false true d g h = never h
    by false false true g h = never h
    by false false false g h = never (sym g)

-- a path among these whose name is not the first one's is among the others
others : (o p : List ℕ) (paths : List (List ℕ)) (ext : Ext) → same (store_name o ext) (store_name p ext) ≡ false → among p (o ∷ paths) ≡ true → among p paths ≡ true
others o p paths ext differ e = elim (bool (same p o)) [
  | inl h ↦ never (sym (ap (λ z. same (store_name z ext) (store_name p ext)) (sym (same-eq p o h)) ∙ same-refl (store_name p ext)) ∙ differ)
  | inr h ↦ sym (ap (λ b. b || among p paths) h) ∙ e
]

pub index-there : (laws : NameLaws) (logs : List ℕ → List Revision) (p : List ℕ) (paths : List (List ℕ)) → among p paths ≡ true → ((o : List ℕ) → among o paths ≡ true → clashes o p ≡ false) → filelog_file logs paths (store_name p I) ≡ Some (index_of (logs p))
index-there laws logs p [] e apart = never (sym e)
index-there laws logs p (o ∷ paths) e apart = by (bool (same (store_name o I) (store_name p I))) (λ a. index-there laws logs p paths a (λ q x. apart q (among-more q o paths x)))
  where
    by : (same (store_name o I) (store_name p I) ≡ true) ⊎ (same (store_name o I) (store_name p I) ≡ false) → (among p paths ≡ true → filelog_file logs paths (store_name p I) ≡ Some (index_of (logs p)))
        → cond (same (store_name o I) (store_name p I)) (Some (index_of (logs o))) (cond (same (store_name o D) (store_name p I)) (Some (data_of (logs o))) (filelog_file logs paths (store_name p I))) ≡ Some (index_of (logs p))
    by (inl g) rec = ap (λ b. cond b (Some (index_of (logs o))) (cond (same (store_name o D) (store_name p I)) (Some (data_of (logs o))) (filelog_file logs paths (store_name p I)))) g ∙ ap (λ z. Some (index_of (logs z))) (clash-index o p (apart o (among-first o paths)) g)
    by (inr g) rec =
        ap (λ b. cond b (Some (index_of (logs o))) (cond (same (store_name o D) (store_name p I)) (Some (data_of (logs o))) (filelog_file logs paths (store_name p I)))) g
        ∙ ap (λ b. cond b (Some (data_of (logs o))) (filelog_file logs paths (store_name p I))) (same-not (store_name p I) (store_name o D) (laws.kinds p o))
        ∙ rec (others o p paths I g e)

pub data-there : (laws : NameLaws) (logs : List ℕ → List Revision) (p : List ℕ) (paths : List (List ℕ)) → among p paths ≡ true → ((o : List ℕ) → among o paths ≡ true → clashes o p ≡ false) → filelog_file logs paths (store_name p D) ≡ Some (data_of (logs p))
data-there laws logs p [] e apart = never (sym e)
data-there laws logs p (o ∷ paths) e apart = ap (λ b. cond b (Some (index_of (logs o))) (cond (same (store_name o D) (store_name p D)) (Some (data_of (logs o))) (filelog_file logs paths (store_name p D)))) (laws.kinds o p) ∙ by (bool (same (store_name o D) (store_name p D))) (λ a. data-there laws logs p paths a (λ q x. apart q (among-more q o paths x)))
  where
    by : (same (store_name o D) (store_name p D) ≡ true) ⊎ (same (store_name o D) (store_name p D) ≡ false) → (among p paths ≡ true → filelog_file logs paths (store_name p D) ≡ Some (data_of (logs p)))
        → cond (same (store_name o D) (store_name p D)) (Some (data_of (logs o))) (filelog_file logs paths (store_name p D)) ≡ Some (data_of (logs p))
    by (inl g) rec = ap (λ b. cond b (Some (data_of (logs o))) (filelog_file logs paths (store_name p D))) g ∙ ap (λ z. Some (data_of (logs z))) (clash-data o p (apart o (among-first o paths)) g)
    by (inr g) rec = ap (λ b. cond b (Some (data_of (logs o))) (filelog_file logs paths (store_name p D))) g ∙ rec (others o p paths D g e)

pub nothing-there : (laws : NameLaws) (logs : List ℕ → List Revision) (place : List ℕ) (paths : List (List ℕ)) → among place own_files ≡ true → filelog_file logs paths place ≡ None
nothing-there laws logs place [] own = refl
nothing-there laws logs place (o ∷ paths) own =
    ap (λ b. cond b (Some (index_of (logs o))) (cond (same (store_name o D) place) (Some (data_of (logs o))) (filelog_file logs paths place))) (other I)
    ∙ ap (λ b. cond b (Some (data_of (logs o))) (filelog_file logs paths place)) (other D)
    ∙ nothing-there laws logs place paths own
  where
    other : (ext : Ext) → same (store_name o ext) place ≡ false
    other ext = same-not place (store_name o ext) (apart-from (store_name o ext) place own_files own (laws.own o ext))

-- ---- in the tree

beside : (files : List (List ℕ × List ℕ)) (other : Option (List ℕ)) (place : List ℕ) → list_all (λ (f : List ℕ × List ℕ). among f.0 own_files) files ≡ true → among place own_files ≡ false → file_or files other place ≡ other
beside [] other place own e = refl
beside (f ∷ files) other place own e =
    ap (λ b. cond b (Some f.1) (file_or files other place)) (apart-from place f.0 own_files (and-left (among f.0 own_files) _ own) e)
    ∙ beside files other place (and-right (among f.0 own_files) _ own) e

pub store-file : (laws : NameLaws) (r : Repo) (p : List ℕ) (ext : Ext) → tree_of r (store_name p ext) ≡ filelog_file (history r.changesets).filelog (used_paths r.changesets) (store_name p ext)
store-file laws r p ext = beside (own_files_of r) (filelog_file (history r.changesets).filelog (used_paths r.changesets) (store_name p ext)) (store_name p ext) refl (laws.own p ext)
