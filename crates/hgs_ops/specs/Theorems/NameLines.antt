-- The lines that new filelogs add to the list of filelogs.
use Rattle.std.proofs.Common.{◌≡◌, ◌⊎◌, ℕ, List, [], ◌∷◌, ◌++◌, Bool, true, false, cond, ◌||◌, refl, sym, ◌∙◌, ap, subst, inl, inr, append_assoc, append-nil}
use Rattle.std.specs.Prelude.{Result, Ok, Err, flat_map, is_ok}
use Rattle.std.specs.List.{AllByRecursion}
use Rattle.hgs_bytes.specs.Bytes.{same, among}
use Rattle.hgs_bytes.specs.Text.{line}
use Rattle.hgs_bytes.specs.Theorems.ByteLemmas.{same-refl, same-eq}
use Rattle.hgs_index.specs.Revision.{Revision}
use Rattle.hgs_index.specs.TrackedPath.{is_tracked}
use Rattle.hgs_model.specs.Theorems.ListLemmas.{all-join, never}
use Rattle.hgs_path.specs.declared.name.Ext.{Ext}
use Rattle.hgs_path.specs.declared.name.Ext.TheVariants.{I, D}
use Rattle.hgs_path.specs.declared.check.PathFault.{PathFault}
use Rattle.hgs_path.specs.Check.{checked}
use Rattle.hgs_path.specs.ListedNames.{names_of}
use Rattle.hgs_path.specs.StoreName.{listed_name, store_name}
use Rattle.hgs_path.specs.Theorems.AddedLemmas.{name-added}
use Rattle.hgs_path.specs.Theorems.CheckLemmas.{checked-tracked}
use Rattle.hgs_ops.specs.Growth.{begins_inline, is_part, new_names, new_names_of}
use Rattle.hgs_ops.specs.Theorems.Touch.{bool}
use Rattle.hgs_ops.specs.Theorems.FileGrowth.{AreNot}

pub among-left : (x : List ℕ) (xs ys : List (List ℕ)) → among x xs ≡ true → among x (xs ++ ys) ≡ true
among-left x [] ys e = never (sym e)
among-left x (y ∷ xs) ys e = by (same x y) (among-left x xs ys) e
  where
    by : (z : Bool) → (among x xs ≡ true → among x (xs ++ ys) ≡ true) → (z || among x xs) ≡ true → (z || among x (xs ++ ys)) ≡ true
    by true rec g = refl
    by false rec g = rec g

pub among-right : (x : List ℕ) (xs ys : List (List ℕ)) → among x ys ≡ true → among x (xs ++ ys) ≡ true
among-right x [] ys e = e
among-right x (y ∷ xs) ys e = by (same x y) (among-right x xs ys e)
  where
    by : (z : Bool) → among x (xs ++ ys) ≡ true → (z || among x (xs ++ ys)) ≡ true
    by true rec = refl
    by false rec = rec

-- a path is the first of a list, or is among the others
self : (o : List ℕ) (ps : List (List ℕ)) → among o (o ∷ ps) ≡ true
self o ps = ap (λ z. z || among o ps) (same-refl o)

more : (q o : List ℕ) (ps : List (List ℕ)) → among q ps ≡ true → among q (o ∷ ps) ≡ true
more q o ps a = by (same q o)
  where
    by : (z : Bool) → (z || among q ps) ≡ true
    by true = refl
    by false = a

-- a fact of the two lines of each path whose filelog is new
pub lines-all : (P : List ℕ → Type 0) (old new : List ℕ → List Revision) (ps : List (List ℕ)) → ((q : List ℕ) (ext : Ext) → among q ps ≡ true → P (listed_name q ext)) → AllByRecursion P (new_names old new ps)
lines-all P old new [] each = tt
lines-all P old new (o ∷ ps) each = all-join P (new_names_of o (old o) (new o)) _ (two (old o)) (lines-all P old new ps (λ q ext a. each q ext (more q o ps a)))
  where
    second : (b : Bool) → AllByRecursion P (cond b [] (listed_name o D ∷ []))
    second true = tt
    second false = (each o D (self o ps), tt)

    two : (log : List Revision) → AllByRecursion P (new_names_of o log (new o))
    two [] = (each o I (self o ps), second (begins_inline (new o)))
    two (x ∷ log) = tt

-- the lines of a path whose filelog is new are among the new lines
pub new-line : (old new : List ℕ → List Revision) (q : List ℕ) (ext : Ext) (ps : List (List ℕ)) → among q ps ≡ true → old q ≡ [] → is_part (begins_inline (new q)) ext ≡ true → among (listed_name q ext) (new_names old new ps) ≡ true
new-line old new q ext [] e z part = never (sym e)
new-line old new q ext (o ∷ ps) e z part = by (bool (same q o)) (λ g. new-line old new q ext ps g z part)
  where
    here : (x : Ext) (b : Bool) → is_part b x ≡ true → among (listed_name q x) (listed_name q I ∷ (cond b [] (listed_name q D ∷ []))) ≡ true
    here I b g = ap (λ a. a || among (listed_name q I) (cond b [] (listed_name q D ∷ []))) (same-refl (listed_name q I))
    here D true g = never (sym g)
    here D false g = side (same (listed_name q D) (listed_name q I)) (same (listed_name q D) (listed_name q D)) (same-refl (listed_name q D))
      where
        side : (a b : Bool) → b ≡ true → (a || (b || false)) ≡ true
        side true b g = refl
        side false true g = refl
        side false false g = g

    by : (same q o ≡ true) ⊎ (same q o ≡ false) → (among q ps ≡ true → among (listed_name q ext) (new_names old new ps) ≡ true)
        → among (listed_name q ext) (new_names_of o (old o) (new o) ++ new_names old new ps) ≡ true
    by (inl g) rec =
        among-left (listed_name q ext) (new_names_of o (old o) (new o)) _
        (subst (λ p. among (listed_name q ext) (new_names_of p (old p) (new p)) ≡ true) (same-eq q o g) (ap (λ l. among (listed_name q ext) (new_names_of q l (new q))) z ∙ here ext (begins_inline (new q)) part))
    by (inr g) rec = among-right (listed_name q ext) (new_names_of o (old o) (new o)) _ (rec (sym (ap (λ b. b || among q ps) g) ∙ e))

-- of a path and the files of these paths, it is one or none
pub store-or : (p : List ℕ) (ps : List (List ℕ)) → (AreNot p ps) ⊎ ((o : List ℕ) × (ext : Ext) × (among o ps ≡ true) × (store_name o ext ≡ p))
store-or p [] = inl tt
store-or p (o ∷ ps) = by (bool (same (store_name o I) p)) (bool (same (store_name o D) p)) (store-or p ps)
  where
    by : (same (store_name o I) p ≡ true) ⊎ (same (store_name o I) p ≡ false) → (same (store_name o D) p ≡ true) ⊎ (same (store_name o D) p ≡ false)
        → (AreNot p ps) ⊎ ((q : List ℕ) × (ext : Ext) × (among q ps ≡ true) × (store_name q ext ≡ p)) → (AreNot p (o ∷ ps)) ⊎ ((q : List ℕ) × (ext : Ext) × (among q (o ∷ ps) ≡ true) × (store_name q ext ≡ p))
    by (inl a) b rest = inr (o, I, self o ps, same-eq (store_name o I) p a)
    by (inr a) (inl b) rest = inr (o, D, self o ps, same-eq (store_name o D) p b)
    by (inr a) (inr b) (inl none) = inl ((a, b), none)
    by (inr a) (inr b) (inr (q, ext, g, e)) = inr (q, ext, more q o ps g, e)

-- ---- the text of the list with these lines

checked-ok : (path : List ℕ) → is_tracked path ≡ true → checked path ≡ Ok tt
checked-ok path e = by (checked path) (checked-tracked path ∙ e)
  where
    by : (o : Result (Unit {0}) PathFault) → is_ok o ≡ true → o ≡ Ok tt
    by (Ok tt) h = refl
    by (Err f) h = never (sym h)

pub names-added : (old new : List ℕ → List Revision) (ps : List (List ℕ)) (text : List ℕ) (names : List (List ℕ)) → ((q : List ℕ) → among q ps ≡ true → is_tracked q ≡ true) → names_of text ≡ Ok names
    → names_of (text ++ flat_map line (new_names old new ps)) ≡ Ok (names ++ new_names old new ps)
names-added old new [] text names good e = ap names_of (append-nil text) ∙ e ∙ ap (λ l. Ok l) (sym (append-nil names))
names-added old new (o ∷ ps) text names good e = by (old o) (λ x ns h. names-added old new ps x ns (λ q a. good q (more q o ps a)) h)
  where
    a : List ℕ
    a = listed_name o I

    b : List ℕ
    b = listed_name o D

    back : List (List ℕ)
    back = new_names old new ps

    ok : checked o ≡ Ok tt
    ok = checked-ok o (good o (self o ps))

    first : names_of (text ++ line a) ≡ Ok (names ++ a ∷ [])
    first = name-added o I text names ok e

    -- one line or two
    lines-of-new : (inline : Bool) → ((x : List ℕ) (ns : List (List ℕ)) → names_of x ≡ Ok ns → names_of (x ++ flat_map line back) ≡ Ok (ns ++ back))
        → names_of (text ++ flat_map line ((a ∷ (cond inline [] (b ∷ []))) ++ back)) ≡ Ok (names ++ ((a ∷ (cond inline [] (b ∷ []))) ++ back))
    lines-of-new true rec = ap names_of (sym (append_assoc text (line a) (flat_map line back))) ∙ rec (text ++ line a) (names ++ a ∷ []) first ∙ ap (λ l. Ok l) (append_assoc names (a ∷ []) back)
    lines-of-new false rec =
        ap names_of (sym (append_assoc text (line a) (line b ++ flat_map line back)) ∙ sym (append_assoc (text ++ line a) (line b) (flat_map line back)))
        ∙ rec ((text ++ line a) ++ line b) ((names ++ a ∷ []) ++ b ∷ []) (name-added o D (text ++ line a) (names ++ a ∷ []) ok first)
        ∙ ap (λ l. Ok l) (append_assoc (names ++ a ∷ []) (b ∷ []) back ∙ append_assoc names (a ∷ []) (b ∷ back))

    by : (log : List Revision) → ((x : List ℕ) (ns : List (List ℕ)) → names_of x ≡ Ok ns → names_of (x ++ flat_map line back) ≡ Ok (ns ++ back))
        → names_of (text ++ flat_map line (new_names_of o log (new o) ++ back)) ≡ Ok (names ++ (new_names_of o log (new o) ++ back))
    by (x ∷ log) rec = rec text names e
    by [] rec = lines-of-new (begins_inline (new o)) rec
