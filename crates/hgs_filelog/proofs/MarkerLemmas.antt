-- Markers in a text.
use Rattle.std.proofs.Common.{◌≡◌, ℕ, ◌+◌, ◌≤◌, Bool, true, false, cond, List, [], ◌∷◌, ◌++◌, length, take, drop, Option, Some, None, refl, sym, ◌∙◌, ap, subst, arith, ◌&&◌, append_assoc}
use Rattle.std.specs.Prelude.{◌==◌, option_map}
use Rattle.std.proofs.lemmas.Bool.{false_from_ne_true}
use Rattle.std.proofs.lemmas.List.{take-append-drop, take_at, drop_at, length-append, length-take-le}
use Rattle.hgs_bytes.specs.Bytes.{begins_with}
use Rattle.hgs_bytes.specs.Theorems.ByteLemmas.{same-eq}
use Rattle.hgs_index.specs.FileText.{marker, split_at_marker, with_block, unpacked}
use Rattle.hgs_filelog.specs.Packed.{block_of, packed, HasNoMarker}

both_are : (a b : ℕ) → (a == 1 && b == 10) ≡ true → (a ≡ 1) × (b ≡ 10)
both_are a b e = grind (arith, e)

-- ---- what stands round it

some_is : {A : Type 0} (x y : A) → Some x ≡ Some y → x ≡ y
some_is x y e = cc

parts-step : (t : Bool) (x y : ℕ) (xs : List ℕ) (p : List ℕ × List ℕ) (s : Option (List ℕ × List ℕ)) → (x == 1 && y == 10) ≡ t → cond t (Some ([], xs)) (option_map (λ q. (x ∷ q.0, q.1)) s) ≡ Some p →
    ((q : List ℕ × List ℕ) → s ≡ Some q → y ∷ xs ≡ q.0 ++ (marker ++ q.1)) → x ∷ y ∷ xs ≡ p.0 ++ (marker ++ p.1)
parts-step true x y xs p s t e h =
    let b = both_are x y t in
    ap (λ n. n ∷ y ∷ xs) b.0 ∙ ap (λ n. 1 ∷ n ∷ xs) b.1 ∙ ap (λ (q : List ℕ × List ℕ). q.0 ++ (marker ++ q.1)) (some_is ([], xs) p e)
parts-step false x y xs p None t e h = cc
parts-step false x y xs p (Some q) t e h = ap (λ l. x ∷ l) (h q refl) ∙ ap (λ (r : List ℕ × List ℕ). r.0 ++ (marker ++ r.1)) (some_is (x ∷ q.0, q.1) p e)

pub marker_parts : (xs : List ℕ) (p : List ℕ × List ℕ) → split_at_marker xs ≡ Some p → xs ≡ p.0 ++ (marker ++ p.1)
marker_parts [] p e = cc
marker_parts (x ∷ []) p e = cc
marker_parts (x ∷ y ∷ xs) p e = parts-step (x == 1 && y == 10) x y xs p (split_at_marker (y ∷ xs)) refl e (λ q h. marker_parts (y ∷ xs) q h)

begun : (text : List ℕ) → begins_with text marker ≡ true → text ≡ marker ++ drop 2 text
begun text h = sym (take-append-drop 2 text) ∙ ap (λ l. l ++ drop 2 text) (sym (same-eq marker (take 2 text) h))

whole_block : (text : List ℕ) (p : List ℕ × List ℕ) → begins_with text marker ≡ true → split_at_marker (drop 2 text) ≡ Some p → text ≡ (marker ++ p.0 ++ marker) ++ p.1
whole_block text p h e =
    begun text h ∙ ap (λ l. marker ++ l) (marker_parts (drop 2 text) p e)
    ∙ sym (append_assoc marker p.0 (marker ++ p.1)) ∙ sym (append_assoc (marker ++ p.0) marker p.1)

pub block_found : (text : List ℕ) (p : List ℕ × List ℕ) (k : ℕ) → begins_with text marker ≡ true → split_at_marker (drop 2 text) ≡ Some p → length p.0 ≡ k → ◌≡◌ {A = List ℕ × List ℕ} (take (k + 4) text, drop (k + 4) text) (marker ++ p.0 ++ marker, p.1)
block_found text p k h e l =
    let whole = whole_block text p h e in
    let front = length-append (marker ++ p.0) marker in
    let low = length-append marker p.0 in
    let size : length (marker ++ p.0 ++ marker) ≡ k + 4 = omega (arith, front, low, l) in
    let pair : List ℕ → List ℕ → List ℕ × List ℕ = λ x y. (x, y) in
    ap (λ t. pair (take (k + 4) t) (drop (k + 4) t)) whole
    ∙ ap (λ x. pair x (drop (k + 4) ((marker ++ p.0 ++ marker) ++ p.1))) (take_at (marker ++ p.0 ++ marker) p.1 (k + 4) size)
    ∙ ap (λ x. pair (marker ++ p.0 ++ marker) x) (drop_at (marker ++ p.0 ++ marker) p.1 (k + 4) size)

block_is : (text : List ℕ) (k : ℕ) → begins_with text marker ≡ true → k + 2 ≤ length (drop 2 text) → split_at_marker (drop 2 text) ≡ Some (take k (drop 2 text), drop (k + 2) (drop 2 text)) → ◌≡◌ {A = List ℕ × List ℕ} (take (k + 4) text, drop (k + 4) text) (unpacked text)
block_is text k h fits e =
    block_found text (take k (drop 2 text), drop (k + 2) (drop 2 text)) k h e (length-take-le k (drop 2 text) (omega (arith, fits)))
    ∙ sym (ap (with_block text) e) ∙ sym (ap (λ t. cond {A = List ℕ × List ℕ} t (with_block text (split_at_marker (drop 2 text))) ([], text)) h)

pub block_answer : (text rest : List ℕ) (k : ℕ) → rest ≡ drop 2 text → begins_with text marker ≡ true → k + 2 ≤ length rest → Some (take k rest, drop (k + 2) rest) ≡ split_at_marker rest → ◌≡◌ {A = List ℕ × List ℕ} (take (k + 4) text, drop (k + 4) text) (unpacked text)
block_answer text rest k e h fits s =
    let P : List ℕ → Type 0 = λ r. k + 2 ≤ length r in
    let Q : List ℕ → Type 0 = λ r. split_at_marker r ≡ Some (take k r, drop (k + 2) r) in
    block_is text k h (subst P e fits) (subst Q e (sym s))

-- ---- the laws

over-step : (t : Bool) (a b : ℕ) (meta : List ℕ) (s : Option (List ℕ × List ℕ)) → (a == 1 && b == 10) ≡ t → cond {A = Option (List ℕ × List ℕ)} t (Some ([], meta)) (option_map (λ q. (a ∷ q.0, q.1)) s) ≡ None → (t ≡ false) × (s ≡ None)
over-step true a b meta s t e = cc
over-step false a b meta None t e = (refl, refl)
over-step false a b meta (Some q) t e = cc

pub marker_over : (meta body : List ℕ) → split_at_marker meta ≡ None → split_at_marker (meta ++ (marker ++ body)) ≡ Some (meta, body)
marker_over [] body e = refl
marker_over (a ∷ []) body e = let no : (a == 1 && 1 == 10) ≡ false = false_from_ne_true (a == 1 && 1 == 10) (λ t. let p = both_are a 1 t in absurd (omega (arith, p.1))) in rw no
marker_over (a ∷ b ∷ meta) body e =
    let s = over-step (a == 1 && b == 10) a b meta (split_at_marker (b ∷ meta)) refl e in
    let rest = marker_over (b ∷ meta) body s.1 in
    rw (s.0, rest)

plain-step : (t : Bool) (body : List ℕ) → begins_with body marker ≡ t → unpacked (cond t (marker ++ marker) [] ++ body) ≡ (cond t (marker ++ marker) [], body)
plain-step true body e = refl
plain-step false body e = rw e

pub packed_back : (meta : Option (List ℕ)) (body : List ℕ) → HasNoMarker meta → unpacked (packed meta body) ≡ (block_of meta body, body)
packed_back None body h = plain-step (begins_with body marker) body refl
packed_back (Some meta) body h =
    ap (λ l. with_block (marker ++ (meta ++ marker) ++ body) (split_at_marker l)) (append_assoc meta marker body)
    ∙ ap (with_block (marker ++ (meta ++ marker) ++ body)) (marker_over meta body h)
    ∙ ap (λ l. (l, body)) (append_assoc marker meta marker)

all-step : (text : List ℕ) (s : Option (List ℕ × List ℕ)) → begins_with text marker ≡ true → split_at_marker (drop 2 text) ≡ s → (with_block text s).0 ++ (with_block text s).1 ≡ text
all-step text None h e = refl
all-step text (Some p) h e = sym (whole_block text p h e)

begin-step : (t : Bool) (text : List ℕ) → begins_with text marker ≡ t → (cond t (with_block text (split_at_marker (drop 2 text))) ([], text)).0 ++ (cond t (with_block text (split_at_marker (drop 2 text))) ([], text)).1 ≡ text
begin-step true text h = all-step text (split_at_marker (drop 2 text)) h refl
begin-step false text h = refl

pub all_kept : (text : List ℕ) → (unpacked text).0 ++ (unpacked text).1 ≡ text
all_kept text = begin-step (begins_with text marker) text refl
