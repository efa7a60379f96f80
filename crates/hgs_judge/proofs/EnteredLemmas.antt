-- Paths that stand in a list in order already.
use Rattle.std.proofs.Common.{◌≡◌, ℕ, Bool, true, false, cond, ◌&&◌, ◌||◌, List, [], ◌∷◌, refl, sym, ◌∙◌, ap}
use Rattle.std.specs.Prelude.{Option, None, Some, unwrap_or, option_map}
use Rattle.std.specs.declared.cmp.Ordering.{Ordering}
use Rattle.std.specs.declared.cmp.Ordering.TheVariants.{Less, Equal, Greater}
use Rattle.std.specs.Ordering.{nat_cmp, is_eq, is_lt, ordering_reverse}
use Rattle.std.specs.Cmp.Lexicographic.{bytes_decides, slice_cmp, texts_ties}
use Rattle.std.proofs.lemmas.Cmp.{nat_list_cmp_total}
use Rattle.hgs_bytes.specs.Bytes.{same, among, is_below}
use Rattle.hgs_index.specs.Manifest.{Row}
use Rattle.hgs_index.specs.TrackedPath.{is_tracked}
use Rattle.hgs_model.specs.History.{inserted}
use Rattle.hgs_findings.specs.Sight.{row_paths, tracked_rows}
use Rattle.hgs_judge.specs.Paths.{AreEntered, entered}

-- it stands behind paths that are below it alone
abbrev stands : List ℕ → List (List ℕ) → Bool
stands p [] = false
stands p (y ∷ ys) = same p y || (is_below y p && stands p ys)

same-itself : (x : List ℕ) → same x x ≡ true
same-itself x = (bytes_decides x x).1 refl

lt_is : (o : Ordering) → is_lt o ≡ true → o ≡ Less
lt_is Less e = refl
lt_is Equal e = cc
lt_is Greater e = cc

below-trans : (x y z : List ℕ) → is_below x y ≡ true → is_below y z ≡ true → is_below x z ≡ true
below-trans x y z a b = ap is_lt (nat_list_cmp_total.trans x y z (lt_is (slice_cmp nat_cmp x y) a) (lt_is (slice_cmp nat_cmp y z) b))

not_above : (a b : List ℕ) → is_below a b ≡ true → is_below b a ≡ false
not_above a b e = ap is_lt (nat_list_cmp_total.antisymm b a ∙ ap ordering_reverse (lt_is (slice_cmp nat_cmp a b) e))

-- what is neither the same nor below is above
above : (p y : List ℕ) → same p y ≡ false → is_below p y ≡ false → is_below y p ≡ true
above p y s b = ap is_lt (nat_list_cmp_total.antisymm y p ∙ ap ordering_reverse (left (slice_cmp nat_cmp p y) (sym (texts_ties p y) ∙ s) b))
  where
    left : (o : Ordering) → is_eq o ≡ false → is_lt o ≡ false → o ≡ Greater
    left Less e l = cc
    left Equal e l = cc
    left Greater e l = refl

both : (a b : Bool) → (a && b) ≡ true → (a ≡ true) × (b ≡ true)
both true b h = (refl, h)
both false b h = cc

or-right : (a b : Bool) → b ≡ true → (a || b) ≡ true
or-right true b h = refl
or-right false b h = h

pub keeps : (p : List ℕ) (keys : List (List ℕ)) → stands p keys ≡ true → inserted p keys ≡ keys
keeps p [] e = cc
keeps p (y ∷ ys) e = by (same p y) refl e (keeps p ys)
  where
    by : (s : Bool) → same p y ≡ s → (s || (is_below y p && stands p ys)) ≡ true → (stands p ys ≡ true → inserted p ys ≡ ys) → cond s (y ∷ ys) (cond (is_below p y) (p ∷ y ∷ ys) (y ∷ inserted p ys)) ≡ y ∷ ys
    by true s h rec = refl
    by false s h rec =
        let parts = both (is_below y p) (stands p ys) h in
        ap (λ b. cond b (p ∷ y ∷ ys) (y ∷ inserted p ys)) (not_above y p parts.0) ∙ ap (λ l. y ∷ l) (rec parts.1)

enters : (p : List ℕ) (keys : List (List ℕ)) → stands p (inserted p keys) ≡ true
enters p [] = ap (λ b. b || (is_below p p && false)) (same-itself p)
enters p (y ∷ ys) = by (same p y) refl (is_below p y) refl (enters p ys)
  where
    by : (s : Bool) → same p y ≡ s → (b : Bool) → is_below p y ≡ b → stands p (inserted p ys) ≡ true → stands p (cond s (y ∷ ys) (cond b (p ∷ y ∷ ys) (y ∷ inserted p ys))) ≡ true
    by true s b l rec = ap (λ t. t || (is_below y p && stands p ys)) s
    by false s true l rec = ap (λ t. t || (is_below p p && stands p (y ∷ ys))) (same-itself p)
    by false s false l rec = or-right (same p y) (is_below y p && stands p (inserted p ys)) (ap (λ t. t && stands p (inserted p ys)) (above p y s l) ∙ rec)

stays : (p q : List ℕ) (keys : List (List ℕ)) → stands p keys ≡ true → stands p (inserted q keys) ≡ true
stays p q [] e = cc
stays p q (y ∷ ys) e = by (same q y) (is_below q y) refl (same p y) refl e (stays p q ys)
  where
    -- what is below the first is below one that stands
    under : (s : Bool) → same p y ≡ s → is_below q y ≡ true → (s || (is_below y p && stands p ys)) ≡ true → is_below q p ≡ true
    under true s l h = ap (is_below q) ((bytes_decides p y).0 s) ∙ l
    under false s l h = below-trans q y p l (both (is_below y p) (stands p ys) h).0

    by : (a b : Bool) → is_below q y ≡ b → (s : Bool) → same p y ≡ s → (s || (is_below y p && stands p ys)) ≡ true → (stands p ys ≡ true → stands p (inserted q ys) ≡ true) → stands p (cond a (y ∷ ys) (cond b (q ∷ y ∷ ys) (y ∷ inserted q ys))) ≡ true
    by true b l s t h rec = ap (λ x. x || (is_below y p && stands p ys)) t ∙ h
    by false true l s t h rec = or-right (same p q) (is_below q p && stands p (y ∷ ys)) (ap (λ x. x && stands p (y ∷ ys)) (under s t l h) ∙ (ap (λ x. x || (is_below y p && stands p ys)) t ∙ h))
    by false false l true t h rec = ap (λ x. x || (is_below y p && stands p (inserted q ys))) t
    by false false l false t h rec =
        let parts = both (is_below y p) (stands p ys) h in
        or-right (same p y) (is_below y p && stands p (inserted q ys)) (ap (λ x. x && stands p (inserted q ys)) parts.0 ∙ rec parts.1)

stays-all : (p : List ℕ) (xs keys : List (List ℕ)) → stands p keys ≡ true → stands p (entered xs keys) ≡ true
stays-all p [] keys e = e
stays-all p (x ∷ xs) keys e = stays p x (entered xs keys) (stays-all p xs keys e)

-- one that stood there before others were entered
pub entered-before-others : (p : List ℕ) (xs keys : List (List ℕ)) → inserted p keys ≡ keys → inserted p (entered xs keys) ≡ entered xs keys
entered-before-others p xs keys e = keeps p (entered xs keys) (stays-all p xs keys (ap (stands p) (sym e) ∙ enters p keys))

-- each that was entered stands there
pub entered-are : (xs keys : List (List ℕ)) → AreEntered xs (entered xs keys)
entered-are xs keys p e = keeps p (entered xs keys) (there xs e)
  where
    there : (xs : List (List ℕ)) → among p xs ≡ true → stands p (entered xs keys) ≡ true
    there [] e = cc
    there (x ∷ xs) e = by (same p x) refl e (there xs)
      where
        by : (s : Bool) → same p x ≡ s → (s || among p xs) ≡ true → (among p xs ≡ true → stands p (entered xs keys) ≡ true) → stands p (inserted x (entered xs keys)) ≡ true
        by true s h rec = ap (λ q. stands p (inserted q (entered xs keys))) (sym ((bytes_decides p x).0 s)) ∙ enters p (entered xs keys)
        by false s h rec = stays p x (entered xs keys) (rec h)

-- a path that may be tracked among all rows stands among those that are tracked
pub among-tracked : (p : List ℕ) (rows : List Row) → is_tracked p ≡ true → among p (row_paths rows) ≡ true → among p (row_paths (tracked_rows rows)) ≡ true
among-tracked p [] t e = e
among-tracked p (r ∷ rows) t e = by (same p r.path) refl (is_tracked r.path) refl e (among-tracked p rows t)
  where
    by : (s : Bool) → same p r.path ≡ s → (b : Bool) → is_tracked r.path ≡ b → (s || among p (row_paths rows)) ≡ true → (among p (row_paths rows) ≡ true → among p (row_paths (tracked_rows rows)) ≡ true)
        → among p (row_paths (cond b (r ∷ tracked_rows rows) (tracked_rows rows))) ≡ true
    by true s true k h rec = ap (λ x. x || among p (row_paths (tracked_rows rows))) s
    by true s false k h rec = never (sym k ∙ ap is_tracked (sym ((bytes_decides p r.path).0 s)) ∙ t)
      where
        never : {A : Type 0} → false ≡ true → A
        never x = cc
    by false s true k h rec = or-right (same p r.path) (among p (row_paths (tracked_rows rows))) (rec h)
    by false s false k h rec = rec h

pub paths-of-rows : (o : Option (List Row)) (rows : List Row) → rows ≡ unwrap_or o [] → row_paths (tracked_rows rows) ≡ row_paths (unwrap_or (option_map tracked_rows o) [])
paths-of-rows None rows e = ap (λ l. row_paths (tracked_rows l)) e
paths-of-rows (Some r) rows e = ap (λ l. row_paths (tracked_rows l)) e
