-- Rows whose paths stand one after another.
use Rattle.std.proofs.Common.{◌≡◌, ◌≤◌, ℕ, zero, suc, ◌+◌, ◌-◌, ◌<◌, Bool, true, false, List, [], ◌∷◌, ◌++◌, length, take, drop, map, Some, refl, sym, ◌∙◌, ap, arith, subst, ◌&&◌, nat_le}
use Rattle.std.specs.Prelude.{slice_get}
use Rattle.std.proofs.lemmas.Bool.{leb-true, le-leb}
use Rattle.std.proofs.lemmas.List.{drop-append-le, take-append-le, length-append, length-drop, map_push, length_push, take_at, drop_at, append-nil}
use Rattle.hgs_index.specs.Manifest.{last_path}
use Rattle.hgs_manifest.specs.declared.place.Place.{Place}
use Rattle.hgs_manifest.specs.Held.{row_in, all_within, IsHeld}

both_true : (a b : Bool) → (a && b) ≡ true → (a ≡ true) × (b ≡ true)
both_true true b e = (refl, e)
both_true false b e = cc

row_kept : (paths more : List ℕ) (p : Place) → p.from + p.len ≤ length paths → row_in (paths ++ more) p ≡ row_in paths p
row_kept paths more p h =
    let room : p.len ≤ length (drop p.from paths) = let d = length-drop p.from paths in omega (arith, h, d) in
    let same_path = ap (take p.len) (drop-append-le p.from paths more (omega (arith, h))) ∙ take-append-le p.len (drop p.from paths) more room in
    ap (λ q. record { path = q; node = p.node.0; flag = p.flag }) same_path

pub rows_kept : (paths more : List ℕ) (ps : List Place) → all_within (length paths) ps ≡ true → map (row_in (paths ++ more)) ps ≡ map (row_in paths) ps
rows_kept paths more [] h = refl
rows_kept paths more (p ∷ ps) h =
    let b = both_true (nat_le (p.from + p.len) (length paths)) (all_within (length paths) ps) h in
    ap (λ r. r ∷ map (row_in (paths ++ more)) ps) (row_kept paths more p (leb-true (p.from + p.len) (length paths) b.0))
    ∙ ap (λ rs. row_in paths p ∷ rs) (rows_kept paths more ps b.1)

within_more : (n m : ℕ) (ps : List Place) → n ≤ m → all_within n ps ≡ true → all_within m ps ≡ true
within_more n m [] h w = refl
within_more n m (p ∷ ps) h w =
    let b = both_true (nat_le (p.from + p.len) n) (all_within n ps) w in
    let low = leb-true (p.from + p.len) n b.0 in
    rw (le-leb (p.from + p.len) m (omega (arith, low, h)), within_more n m ps h b.1)

within_push : (n : ℕ) (ps : List Place) (p : Place) → p.from + p.len ≤ n → all_within n ps ≡ true → all_within n (ps ++ p ∷ []) ≡ true
within_push n [] p h w = rw (le-leb (p.from + p.len) n h)
within_push n (q ∷ ps) p h w =
    let b = both_true (nat_le (q.from + q.len) n) (all_within n ps) w in
    rw (b.0, within_push n ps p h b.1)

pub held_push : (paths path : List ℕ) (ps : List Place) (p : Place) → IsHeld paths ps → length ps < 33554432 → p.from ≡ length paths → p.len ≡ length path → IsHeld (paths ++ path) (ps ++ p ∷ [])
held_push paths path ps p h room f l =
    let n = length-append paths path in
    let m = length_push ps p in
    record {
      within = within_push (length (paths ++ path)) ps p (omega (arith, n, f, l)) (within_more (length paths) (length (paths ++ path)) ps (omega (arith, n)) h.within);
      few = omega (arith, m, room);
    }

pub path_added : (paths path : List ℕ) → take (length path) (drop (length paths) (paths ++ path)) ≡ path
path_added paths path =
    ap (take (length path)) (drop_at paths path (length paths) refl) ∙ ap (take (length path)) (sym (append-nil path)) ∙ take_at path [] (length path) refl

pub rows_push : (paths path : List ℕ) (ps : List Place) (p : Place) → IsHeld paths ps → p.from ≡ length paths → p.len ≡ length path →
    map (row_in (paths ++ path)) (ps ++ p ∷ []) ≡ map (row_in paths) ps ++ record { path = path; node = p.node.0; flag = p.flag } ∷ []
rows_push paths path ps p h f l =
    let one = ap (λ n. take n (drop p.from (paths ++ path))) l ∙ ap (λ n. take (length path) (drop n (paths ++ path))) f ∙ path_added paths path in
    map_push (row_in (paths ++ path)) ps p ∙ ap (λ rs. rs ++ row_in (paths ++ path) p ∷ []) (rows_kept paths path ps h.within)
    ∙ ap (λ q. map (row_in paths) ps ++ record { path = q; node = p.node.0; flag = p.flag } ∷ []) one

some_is : {A : Type 0} (x y : A) → Some x ≡ Some y → x ≡ y
some_is x y e = cc

last_is : (paths : List ℕ) (xs : List Place) (n : ℕ) (p : Place) → length xs ≡ suc n → slice_get xs n ≡ Some p → last_path (map (row_in paths) xs) ≡ (row_in paths p).path
last_is paths [] n p e h = absurd (omega arith)
last_is paths (x ∷ []) zero p e h = ap (λ (q : Place). (row_in paths q).path) (some_is x p h)
last_is paths (x ∷ []) (suc n) p e h = absurd (omega arith)
last_is paths (x ∷ y ∷ ys) zero p e h = absurd (omega arith)
last_is paths (x ∷ y ∷ ys) (suc n) p e h = last_is paths (y ∷ ys) n p (omega arith) h

pub last_got : (paths : List ℕ) (xs : List Place) (p : Place) → Some p ≡ slice_get xs (length xs - 1) → (row_in paths p).path ≡ last_path (map (row_in paths) xs)
last_got paths [] p e = cc
last_got paths (x ∷ xs) p e = let n : suc (length xs) - 1 ≡ length xs = omega arith in sym (last_is paths (x ∷ xs) (length xs) p refl (sym (ap (slice_get (x ∷ xs)) n) ∙ sym e))

-- ---- the same over what the vectors hold after a push

pub held_new : (paths path paths' : List ℕ) (ps ps' : List Place) (p : Place) → paths' ≡ paths ++ path → ps' ≡ ps ++ p ∷ [] → IsHeld paths ps → length ps < 33554432 → p.from ≡ length paths → p.len ≡ length path → IsHeld paths' ps'
held_new paths path paths' ps ps' p e f h room a b =
    let P : List ℕ → Type 0 = λ q. IsHeld q ps' in
    let Q : List Place → Type 0 = λ qs. IsHeld (paths ++ path) qs in
    subst P (sym e) (subst Q (sym f) (held_push paths path ps p h room a b))

pub rows_new : (paths path paths' : List ℕ) (ps ps' : List Place) (p : Place) → paths' ≡ paths ++ path → ps' ≡ ps ++ p ∷ [] → IsHeld paths ps → p.from ≡ length paths → p.len ≡ length path →
    map (row_in paths') ps' ≡ map (row_in paths) ps ++ record { path = path; node = p.node.0; flag = p.flag } ∷ []
rows_new paths path paths' ps ps' p e f h a b =
    ap (λ q. map (row_in q) ps') e ∙ ap (map (row_in (paths ++ path))) f ∙ rows_push paths path ps p h a b
