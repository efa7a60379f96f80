-- The parts of a path, taken off one by one.
use Rattle.std.proofs.Common.{◌≡◌, ℕ, zero, suc, ◌+◌, ◌<◌, ◌≤◌, Bool, true, false, cond, ◌&&◌, ◌||◌, List, [], ◌∷◌, ◌++◌, length, take, map, get_or, Option, Some, None, refl, sym, ap, ◌∙◌, arith, append_assoc, length-append}
use Rattle.std.specs.Prelude.{◌==◌, codes, flat_map, nat_le}
use Rattle.std.specs.Option.{option_map}
use Rattle.std.specs.List.{onto_first}
use Rattle.hgs_bytes.specs.Bytes.{same}
use Rattle.hgs_bytes.specs.Path.{components}
use Rattle.hgs_bytes.specs.Text.{split}
use Rattle.hgs_bytes.specs.Theorems.ByteLemmas.{same-eq}
use Rattle.hgs_bytes.specs.Theorems.TextLemmas.{split_parts}
use Rattle.hgs_index.specs.TrackedPath.{is_forbidden}
use Rattle.hgs_path.specs.declared.spell.Form.{Form}
use Rattle.hgs_path.specs.declared.name.Ext.{Ext}
use Rattle.hgs_path.specs.Check.{forbidden_from}
use Rattle.hgs_path.specs.StoreName.{joined, last_part, directories, map_front, marked_directory, directory_step, is_device, is_port, before_dot, spelled_component, spelled_name, fitting, ext_text, whole_path, listed_name}

some_is : {A : Type 0} (x y : A) → Some x ≡ Some y → x ≡ y
some_is x y e = cc

split-step : (t : Bool) (x : ℕ) (xs : List ℕ) (p : List ℕ × List ℕ) (s : Option (List ℕ × List ℕ)) → cond t (Some ([], xs)) (option_map (λ y. (x ∷ y.0, y.1)) s) ≡ Some p
    → ((q : List ℕ × List ℕ) → s ≡ Some q → components xs ≡ q.0 ∷ components q.1) → cond t ([] ∷ components xs) (onto_first x (components xs)) ≡ p.0 ∷ components p.1
split-step true x xs p s e h = ap (λ (q : List ℕ × List ℕ). q.0 ∷ components q.1) (some_is ([], xs) p e)
split-step false x xs p None e h = cc
split-step false x xs p (Some y) e h = ap (onto_first x) (h y refl) ∙ ap (λ (q : List ℕ × List ℕ). q.0 ∷ components q.1) (some_is (x ∷ y.0, y.1) p e)

pub components-split : (xs : List ℕ) (p : List ℕ × List ℕ) → split 47 xs ≡ Some p → components xs ≡ p.0 ∷ components p.1
components-split [] p e = cc
components-split (x ∷ xs) p e = split-step (x == 47) x xs p (split 47 xs) e (λ q h. components-split xs q h)

whole-step : (t : Bool) (x : ℕ) (xs : List ℕ) (s : Option (List ℕ × List ℕ)) → cond {A = Option (List ℕ × List ℕ)} t (Some ([], xs)) (option_map (λ y. (x ∷ y.0, y.1)) s) ≡ None
    → (s ≡ None → components xs ≡ xs ∷ []) → cond t ([] ∷ components xs) (onto_first x (components xs)) ≡ (x ∷ xs) ∷ []
whole-step true x xs s e h = cc
whole-step false x xs None e h = ap (onto_first x) (h refl)
whole-step false x xs (Some y) e h = cc

pub components-whole : (xs : List ℕ) → split 47 xs ≡ None → components xs ≡ xs ∷ []
components-whole [] e = refl
components-whole (x ∷ xs) e = whole-step (x == 47) x xs (split 47 xs) e (components-whole xs)

first-step : (t : Bool) (x : ℕ) (xs y : List ℕ) (ys : List (List ℕ)) → components xs ≡ y ∷ ys → (z : List ℕ) × (zs : List (List ℕ)) × (cond t ([] ∷ components xs) (onto_first x (components xs)) ≡ z ∷ zs)
first-step true x xs y ys e = ([], components xs, refl)
first-step false x xs y ys e = (x ∷ y, ys, ap (onto_first x) e)

-- a path has a first part
pub components-some : (xs : List ℕ) → (y : List ℕ) × (ys : List (List ℕ)) × (components xs ≡ y ∷ ys)
components-some [] = ([], [], refl)
components-some (x ∷ xs) = let h = components-some xs in first-step (x == 47) x xs h.0 h.1 h.2

pub forbidden-step : (at : ℕ) (xs : List ℕ) (p : List ℕ × List ℕ) → split 47 xs ≡ Some p → is_forbidden p.0 ≡ false → forbidden_from at (components xs) ≡ forbidden_from (at + length p.0 + 1) (components p.1)
forbidden-step at xs p e h = ap (forbidden_from at) (components-split xs p e) ∙ ap (λ b. cond b (Some at) (forbidden_from (at + length p.0 + 1) (components p.1))) h

pub forbidden-here : (at : ℕ) (xs : List ℕ) (p : List ℕ × List ℕ) → split 47 xs ≡ Some p → is_forbidden p.0 ≡ true → forbidden_from at (components xs) ≡ Some at
forbidden-here at xs p e h = ap (forbidden_from at) (components-split xs p e) ∙ ap (λ b. cond b (Some at) (forbidden_from (at + length p.0 + 1) (components p.1))) h

pub forbidden-last : (at : ℕ) (xs : List ℕ) → split 47 xs ≡ None → forbidden_from at (components xs) ≡ cond (is_forbidden xs) (Some at) None
forbidden-last at xs e = ap (forbidden_from at) (components-whole xs e)

pub split-length : (byte : ℕ) (xs : List ℕ) (p : List ℕ × List ℕ) → split byte xs ≡ Some p → length xs ≡ length p.0 + length p.1 + 1
split-length byte xs p e = let h = split_parts byte xs p e in omega (arith, ap length h.0, length-append p.0 (byte ∷ p.1))

last-more : (x : List ℕ) (xs : List ℕ) → last_part (x ∷ components xs) ≡ last_part (components xs)
last-more x xs = let h = components-some xs in ap (λ l. last_part (x ∷ l)) h.2 ∙ ap last_part (sym h.2)

pub last-step : (xs : List ℕ) (p : List ℕ × List ℕ) → split 47 xs ≡ Some p → last_part (components xs) ≡ last_part (components p.1)
last-step xs p e = ap last_part (components-split xs p e) ∙ last-more p.0 p.1

pub last-last : (xs : List ℕ) → split 47 xs ≡ None → last_part (components xs) ≡ xs
last-last xs e = ap last_part (components-whole xs e)

-- what is joined of the parts
pub joined-more : (f : List ℕ → List ℕ) (x : List ℕ) (xs : List ℕ) → joined (x ∷ map f (components xs)) ≡ x ++ 47 ∷ joined (map f (components xs))
joined-more f x xs = let h = components-some xs in ap (λ l. joined (x ∷ map f l)) h.2 ∙ ap (λ l. x ++ 47 ∷ joined (map f l)) (sym h.2)

pub spelled-step : (form : Form) (xs : List ℕ) (p : List ℕ × List ℕ) → split 47 xs ≡ Some p → spelled_name form xs ≡ spelled_component form p.0 ++ 47 ∷ spelled_name form p.1
spelled-step form xs p e = ap (λ l. joined (map (spelled_component form) l)) (components-split xs p e) ∙ joined-more (spelled_component form) (spelled_component form p.0) p.1

pub spelled-last : (form : Form) (xs : List ℕ) → split 47 xs ≡ None → spelled_name form xs ≡ spelled_component form xs
spelled-last form xs e = ap (λ l. joined (map (spelled_component form) l)) (components-whole xs e)

front-more : (f : List ℕ → List ℕ) (x : List ℕ) (xs : List ℕ) → joined (map_front f (x ∷ components xs)) ≡ f x ++ 47 ∷ joined (map_front f (components xs))
front-more f x xs = let h = components-some xs in ap (λ l. joined (map_front f (x ∷ l))) h.2 ∙ two h.0 h.1 ∙ ap (λ l. f x ++ 47 ∷ joined (map_front f l)) (sym h.2)
  where
    two : (y : List ℕ) (ys : List (List ℕ)) → joined (f x ∷ map_front f (y ∷ ys)) ≡ f x ++ 47 ∷ joined (map_front f (y ∷ ys))
    two y [] = refl
    two y (z ∷ zs) = refl

pub front-step : (f : List ℕ → List ℕ) (xs : List ℕ) (p : List ℕ × List ℕ) → split 47 xs ≡ Some p → joined (map_front f (components xs)) ≡ f p.0 ++ 47 ∷ joined (map_front f (components p.1))
front-step f xs p e = ap (λ l. joined (map_front f l)) (components-split xs p e) ∙ front-more f p.0 p.1

pub front-last : (f : List ℕ → List ℕ) (xs : List ℕ) → split 47 xs ≡ None → joined (map_front f (components xs)) ≡ xs
front-last f xs e = ap (λ l. joined (map_front f l)) (components-whole xs e)

pub directory-more : (xs : List ℕ) (p : List ℕ × List ℕ) → split 47 xs ≡ Some p → directory_step xs ≡ marked_directory p.0 ++ 47 ∷ directory_step p.1
directory-more xs p e = ap (λ l. joined (map_front marked_directory l)) (components-split xs p e) ∙ front-more marked_directory p.0 p.1

pub directory-last : (xs : List ℕ) → split 47 xs ≡ None → directory_step xs ≡ xs
directory-last xs e = ap (λ l. joined (map_front marked_directory l)) (components-whole xs e)

-- a loop that writes parts, one of them with its slash and the last
pub one-more : (out x y z whole mid new : List ℕ) → mid ≡ out ++ x → new ≡ mid ++ 47 ∷ [] → z ≡ x ++ 47 ∷ y → out ++ z ≡ whole → new ++ y ≡ whole
one-more out x y z whole mid new a b c e =
    ap (λ l. l ++ y) (b ∙ ap (λ l. l ++ 47 ∷ []) a) ∙ append_assoc (out ++ x) (47 ∷ []) y ∙ append_assoc out x (47 ∷ y) ∙ ap (λ l. out ++ l) (sym c) ∙ e

pub at-end : (out x z whole new : List ℕ) → new ≡ out ++ x → z ≡ x → out ++ z ≡ whole → new ≡ whole
at-end out x z whole new a b e = a ∙ ap (λ l. out ++ l) (sym b) ∙ e

pub flat_map-more : {A : Type 0} (f : ℕ → List A) (xs : List ℕ) (i : ℕ) → i < length xs → flat_map f (take (i + 1) xs) ≡ flat_map f (take i xs) ++ f (get_or xs i 0)
flat_map-more f xs i h = ap (λ n. flat_map f (take n xs)) (let e : i + 1 ≡ suc i = omega arith in e) ∙ by f xs i h
  where
    nil : {A : Type 0} (ys : List A) → ys ++ [] ≡ ys
    nil [] = refl
    nil (y ∷ ys) = ap (λ l. y ∷ l) (nil ys)

    by : {A : Type 0} (g : ℕ → List A) (ys : List ℕ) (k : ℕ) → k < length ys → flat_map g (take (suc k) ys) ≡ flat_map g (take k ys) ++ g (get_or ys k 0)
    by g [] k l = absurd (omega arith)
    by g (y ∷ ys) zero l = nil (g y)
    by g (y ∷ ys) (suc k) l = ap (λ z. g y ++ z) (by g ys k (omega arith)) ∙ sym (append_assoc (g y) (flat_map g (take k ys)) (g (get_or ys k 0)))

-- ---- devices

or-cases : (a b : Bool) (P : Type 0) → (a ≡ true → P) → (b ≡ true → P) → (a || b) ≡ true → P
or-cases true b P f g h = f refl
or-cases false b P f g h = g h

and-left : (a b : Bool) → (a && b) ≡ true → a ≡ true
and-left true b h = refl
and-left false b h = h

port-long : (stem : List ℕ) → is_port stem ≡ true → 3 ≤ length stem
port-long stem h = four (length stem) (and-left (length stem == 4) _ (and-left _ _ (and-left _ _ h)))
  where
    four : (n : ℕ) → (n == 4) ≡ true → 3 ≤ n
    four n e = grind arith

named-long : (stem name : List ℕ) → length name ≡ 3 → same stem name ≡ true → 3 ≤ length stem
named-long stem name l h = omega (arith, ap length (same-eq stem name h))

pub device-long : (stem : List ℕ) → is_device stem ≡ true → 3 ≤ length stem
device-long stem =
    or-cases _ (is_port stem) _
    (or-cases _ (same stem (codes "nul")) _
    (or-cases _ (same stem (codes "prn")) _
    (or-cases (same stem (codes "aux")) (same stem (codes "con")) _ (named-long stem (codes "aux") refl) (named-long stem (codes "con") refl))
    (named-long stem (codes "prn") refl))
    (named-long stem (codes "nul") refl))
    (port-long stem)

pub stem-short : (part : List ℕ) (o : Option (List ℕ × List ℕ)) → split 46 part ≡ o → length (before_dot part o) ≤ length part
stem-short part None e = omega arith
stem-short part (Some p) e = let l = split-length 46 part p e in omega arith

directories-more : (x : List ℕ) (xs : List ℕ) → directories (x ∷ components xs) ≡ x ∷ directories (components xs)
directories-more x xs = let h = components-some xs in ap (λ l. directories (x ∷ l)) h.2 ∙ ap (λ l. x ∷ directories l) (sym h.2)

pub directories-step : (xs : List ℕ) (p : List ℕ × List ℕ) → split 47 xs ≡ Some p → directories (components xs) ≡ p.0 ∷ directories (components p.1)
directories-step xs p e = ap directories (components-split xs p e) ∙ directories-more p.0 p.1

pub directories-last : (xs : List ℕ) → split 47 xs ≡ None → directories (components xs) ≡ []
directories-last xs e = ap directories (components-whole xs e)

-- ---- the directories that fit

abbrev pub slashed : List (List ℕ) → List ℕ
slashed ds = flat_map (λ d. d ++ 47 ∷ []) ds

pub fits-more : (out d new whole : List ℕ) (ds : List (List ℕ)) → new ≡ (out ++ d) ++ 47 ∷ [] → length out + length d ≤ 68 → out ++ slashed (fitting (length out) (d ∷ ds)) ≡ whole
    → (new ++ slashed (fitting (length new) ds) ≡ whole) × (length new ≤ 69)
fits-more out d new whole ds e l is =
    let test : nat_le (length out + length d) 68 ≡ true = grind arith in
    let size : length new ≡ length out + length d + 1 = omega (arith, ap length e, length-append (out ++ d) (47 ∷ []), length-append out d) in
    let taken : slashed (fitting (length out) (d ∷ ds)) ≡ (d ++ 47 ∷ []) ++ slashed (fitting (length out + length d + 1) ds) = rw test in (
      ap (λ l. l ++ slashed (fitting (length new) ds)) e ∙ append_assoc (out ++ d) (47 ∷ []) (slashed (fitting (length new) ds)) ∙ append_assoc out d (47 ∷ slashed (fitting (length new) ds))
          ∙ ap (λ n. out ++ (d ++ 47 ∷ slashed (fitting n ds))) size ∙ ap (λ l. out ++ l) (sym (append_assoc d (47 ∷ []) (slashed (fitting (length out + length d + 1) ds))) ∙ sym taken) ∙ is,
      omega arith,
    )

nothing : (xs : List ℕ) → xs ≡ xs ++ []
nothing [] = refl
nothing (x ∷ xs) = ap (λ l. x ∷ l) (nothing xs)

pub fits-not : (out d whole : List ℕ) (ds : List (List ℕ)) → 68 < length out + length d → out ++ slashed (fitting (length out) (d ∷ ds)) ≡ whole → out ≡ whole
fits-not out d whole ds l is =
    let test : nat_le (length out + length d) 68 ≡ false = grind arith in
    let none : slashed (fitting (length out) (d ∷ ds)) ≡ [] = rw test in
    nothing out ∙ ap (λ l. out ++ l) (sym none) ∙ is

pub fits-end : (out whole : List ℕ) → out ++ slashed (fitting (length out) []) ≡ whole → out ≡ whole
fits-end out whole is = nothing out ∙ is

-- ---- listed names

pub listed-front : (path : List ℕ) (ext : Ext) → listed_name path ext ≡ codes "data/" ++ directory_step (path ++ ext_text ext)
listed-front path ext = directory-more (whole_path path ext) (codes "data", path ++ ext_text ext) refl

pub listed-long : (path : List ℕ) (ext : Ext) → 5 ≤ length (listed_name path ext)
listed-long path ext = omega (arith, ap length (listed-front path ext), length-append (codes "data/") (directory_step (path ++ ext_text ext)))
