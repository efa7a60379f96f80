-- Where no clash is told of new filelogs, none of their paths clashes with one that is used.
use Rattle.std.proofs.Common.{◌≡◌, ◌⊎◌, ℕ, List, [], ◌∷◌, ◌++◌, Bool, true, false, ◌&&◌, ◌||◌, ◌==◌, length, not, inl, inr, refl, sym, ◌∙◌, ap, subst}
use Rattle.std.specs.Prelude.{Option, Some, None}
use Rattle.std.specs.List.{AllZip}
use Rattle.hex.specs.Hex.{IsBytes}
use Rattle.hgs_bytes.specs.Bytes.{among, same}
use Rattle.hgs_bytes.specs.Theorems.ByteLemmas.{same-eq, same-refl}
use Rattle.hgs_files.specs.Tree.{Tree}
use Rattle.hgs_model.specs.History.{History}
use Rattle.hgs_model.specs.Repo.{Changeset, TreeFile, tree_paths}
use Rattle.hgs_ops.specs.Theorems.Touch.{bool, same-sym}
use Rattle.hgs_path.specs.declared.name.Ext.{Ext}
use Rattle.hgs_path.specs.declared.name.Ext.TheVariants.{I, D}
use Rattle.hgs_path.specs.Fncache.{IsClash, clashes, is_path_of, with_both}
use Rattle.hgs_path.specs.StoreName.{store_name}
use Rattle.hgs_commit.specs.Files.{OfFile, new_path}
use Rattle.hgs_commit.specs.Obstacles.{ClashAfter, ClashBehind}
use Rattle.hgs_commit.specs.Tree.{new_paths}
use Rattle.hgs_writer.specs.Growth.{IsGrownFileOf}
use Rattle.hgs_writer.proofs.Basics.{never}

-- ---- clashes

same-swap : (p q : List ℕ) → same p q ≡ same q p
same-swap p q = by (bool (same p q))
  where
    by : (same p q ≡ true) ⊎ (same p q ≡ false) → same p q ≡ same q p
    by (inl e) = e ∙ sym (ap (same q) (same-eq p q e) ∙ same-refl q)
    by (inr e) = e ∙ sym (same-sym p q e)

pub clashes-swap : (p q : List ℕ) → clashes p q ≡ false → clashes q p ≡ false
clashes-swap p q e = (λ i. not (same-swap p q i) && (same-swap (store_name p I) (store_name q I) i || same-swap (store_name p D) (store_name q D) i)) ∙ e

-- a path does not clash with itself
alike-free : (path other : List ℕ) → path ≡ other → clashes path other ≡ false
alike-free path other e = ap (λ b. not b && (same (store_name other I) (store_name path I) || same (store_name other D) (store_name path D))) (ap (same other) e ∙ same-refl other)

-- ---- what is told

-- what was told stays told
told-stays : (lists : List ℕ → Ext → Bool) (paths : List (List ℕ)) (other : List ℕ) (new : Option (List ℕ)) → ClashBehind lists paths (Some other) new → new ≡ Some other
told-stays lists [] other new told = told
told-stays lists (path ∷ paths) other new told = told-stays (with_both lists path) paths other new (subst (λ (o : Option (List ℕ)). ClashBehind (with_both lists path) paths o new) told.1 told.2)

clash-none : (lists : List ℕ → Ext → Bool) (q : List ℕ) (paths : List (List ℕ)) → ClashBehind lists (q ∷ paths) None None → IsClash lists q None × ClashBehind (with_both lists q) paths None None
clash-none lists q paths told = by told.0 told.1 told.2
  where
    by : (between : Option (List ℕ)) → ClashAfter lists q None between → ClashBehind (with_both lists q) paths between None → IsClash lists q None × ClashBehind (with_both lists q) paths None None
    by (Some other) first rest = absurd (no (told-stays (with_both lists q) paths other None rest))
      where
        no : None ≡ Some other → ⊥
        no e = cc
    by None first rest = (first, rest)

or-more : (a b : Bool) → a ≡ true → (a || b) ≡ true
or-more true b e = refl
or-more false b e = never (sym e)

or-last : (a b : Bool) → b ≡ true → (a || b) ≡ true
or-last true b e = refl
or-last false b e = e

-- a path of the list, and one more
listed-more : (lists : List ℕ → Ext → Bool) (q path : List ℕ) → is_path_of lists path ≡ true → is_path_of (with_both lists q) path ≡ true
listed-more lists q path e = by (lists path I) (lists path D) (same path q) e
  where
    by : (a b c : Bool) → (a || b) ≡ true → ((a || c) || (b || c)) ≡ true
    by true b c e = refl
    by false b c e = or-last c (b || c) (or-more b c e)

listed-new : (lists : List ℕ → Ext → Bool) (q path : List ℕ) → same path q ≡ true → is_path_of (with_both lists q) path ≡ true
listed-new lists q path e = or-more (lists path I || same path q) (lists path D || same path q) (or-last (lists path I) (same path q) e)

-- where none is told, no new path clashes with one that is listed or with another new one
pub none-clash : (lists : List ℕ → Ext → Bool) (paths : List (List ℕ)) (path other : List ℕ) → IsBytes path → IsBytes other → ClashBehind lists paths None None → among path paths ≡ true → (is_path_of lists other ≡ true) ⊎ (among other paths ≡ true) → clashes path other ≡ false
none-clash lists [] path other bytes other_bytes told there is = never (sym there)
none-clash lists (q ∷ paths) path other bytes other_bytes told there is =
    by (bool (same path q)) (bool (same other q)) is
    (λ path_there. none-clash (with_both lists q) paths path other bytes other_bytes now.1 path_there)
    (λ other_there. none-clash (with_both lists q) paths other path other_bytes bytes now.1 other_there)
  where
    now : IsClash lists q None × ClashBehind (with_both lists q) paths None None
    now = clash-none lists q paths told

    behind : (x : List ℕ) → same x q ≡ false → among x (q ∷ paths) ≡ true → among x paths ≡ true
    behind x away e = ap (λ b. b || among x paths) (sym away) ∙ e

    by : (same path q ≡ true) ⊎ (same path q ≡ false) → (same other q ≡ true) ⊎ (same other q ≡ false) → (is_path_of lists other ≡ true) ⊎ (among other (q ∷ paths) ≡ true) →
        (among path paths ≡ true → (is_path_of (with_both lists q) other ≡ true) ⊎ (among other paths ≡ true) → clashes path other ≡ false) →
        (among other paths ≡ true → (is_path_of (with_both lists q) path ≡ true) ⊎ (among path paths ≡ true) → clashes other path ≡ false) → clashes path other ≡ false
    by (inl here) other_at (inl listed) later other_later = ap (λ p. clashes p other) (same-eq path q here) ∙ now.0 other other_bytes listed
    by (inl here) (inl other_here) (inr new) later other_later = alike-free path other (same-eq path q here ∙ sym (same-eq other q other_here))
    by (inl here) (inr other_away) (inr new) later other_later = clashes-swap other path (other_later (behind other other_away new) (inl (listed-new lists q path here)))
    by (inr away) other_at (inl listed) later other_later = later (behind path away there) (inl (listed-more lists q other listed))
    by (inr away) (inl other_here) (inr new) later other_later = later (behind path away there) (inl (listed-new lists q other other_here))
    by (inr away) (inr other_away) (inr new) later other_later = later (behind path away there) (inr (behind other other_away new))

-- ---- the paths of new filelogs

among-front : (x : List ℕ) (xs ys : List (List ℕ)) → among x xs ≡ true → among x (xs ++ ys) ≡ true
among-front x [] ys e = never (sym e)
among-front x (z ∷ xs) ys e = by (same x z) e (among-front x xs ys)
  where
    by : (b : Bool) → (b || among x xs) ≡ true → (among x xs ≡ true → among x (xs ++ ys) ≡ true) → (b || among x (xs ++ ys)) ≡ true
    by true h rec = refl
    by false h rec = rec h

among-back : (x : List ℕ) (xs ys : List (List ℕ)) → among x ys ≡ true → among x (xs ++ ys) ≡ true
among-back x [] ys e = e
among-back x (z ∷ xs) ys e = by (same x z) (among-back x xs ys e)
  where
    by : (b : Bool) → among x (xs ++ ys) ≡ true → (b || among x (xs ++ ys)) ≡ true
    by true h = refl
    by false h = h

-- the filelog of a path without revisions is new
pub new-among : (t : Tree) (h : History) (c : Changeset) (tree : List TreeFile) (xs : List OfFile) (path : List ℕ) → AllZip (IsGrownFileOf t h c) tree xs → among path (tree_paths tree) ≡ true → h.filelog path ≡ [] → among path (new_paths xs) ≡ true
new-among t h c [] xs path all there none = never (sym there)
new-among t h c (g ∷ tree) [] path all there none = absurd all
new-among t h c (g ∷ tree) (x ∷ xs) path all there none = by (bool (same path g.path)) (λ e. new-among t h c tree xs path all.1 e none)
  where
    by : (same path g.path ≡ true) ⊎ (same path g.path ≡ false) → (among path (tree_paths tree) ≡ true → among path (new_paths xs) ≡ true) → among path (new_paths (x ∷ xs)) ≡ true
    by (inl here) rec =
        let at = same-eq path g.path here in
        let new : x.new ≡ true = all.0.new ∙ ap (λ p. length (h.filelog p) == 0) (sym at) ∙ ap (λ log. length log == 0) none in
        among-front path (new_path x.new x.row.path) (new_paths xs)
        (ap (λ b. among path (new_path b x.row.path)) new ∙ ap (λ p. among path (p ∷ [])) (all.0.path ∙ sym at) ∙ ap (λ b. b || false) (same-refl path))
    by (inr away) rec = among-back path (new_path x.new x.row.path) (new_paths xs) (rec (ap (λ b. b || among path (tree_paths tree)) (sym away) ∙ there))

-- ---- one file

-- paths of one file are one where they do not clash
pub clash-free : (path other : List ℕ) (ext kind : Ext) → ((p q : List ℕ) → same (store_name p I) (store_name q D) ≡ false) → clashes path other ≡ false → store_name other kind ≡ store_name path ext → (other ≡ path) × (kind ≡ ext)
clash-free path other I D kinds free e = never (sym (ap (same (store_name path I)) e ∙ same-refl (store_name path I)) ∙ kinds path other)
clash-free path other D I kinds free e = never (sym (ap (same (store_name other I)) (sym e) ∙ same-refl (store_name other I)) ∙ kinds other path)
clash-free path other I I kinds free e = (by (bool (same other path)), refl)
  where
    by : (same other path ≡ true) ⊎ (same other path ≡ false) → other ≡ path
    by (inl here) = same-eq other path here
    by (inr away) = never (sym ((λ i. not (away i) && (alike i || same (store_name other D) (store_name path D)))) ∙ free)
      where
        alike : same (store_name other I) (store_name path I) ≡ true
        alike = ap (same (store_name other I)) (sym e) ∙ same-refl (store_name other I)
clash-free path other D D kinds free e = (by (bool (same other path)), refl)
  where
    or-true : (b : Bool) → (b || true) ≡ true
    or-true true = refl
    or-true false = refl

    by : (same other path ≡ true) ⊎ (same other path ≡ false) → other ≡ path
    by (inl here) = same-eq other path here
    by (inr away) = never (sym ((λ i. not (away i) && (same (store_name other I) (store_name path I) || alike i)) ∙ or-true (same (store_name other I) (store_name path I))) ∙ free)
      where
        alike : same (store_name other D) (store_name path D) ≡ true
        alike = ap (same (store_name other D)) (sym e) ∙ same-refl (store_name other D)
