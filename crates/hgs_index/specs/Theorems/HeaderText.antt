-- The lines of a header, and the empty line behind them.
use Rattle.std.proofs.Common.{◌≡◌, ℕ, Bool, true, false, cond, List, [], ◌∷◌, ◌++◌, length, Option, Some, None, refl, sym, ◌∙◌, ap, subst, arith, ◌&&◌, append_assoc, true≢false}
use Rattle.std.specs.Prelude.{◌==◌, option_map}
use Rattle.std.specs.List.{slice_split, onto_first, AllByRecursion}
use Rattle.std.proofs.lemmas.Bool.{false_from_ne_true}
use Rattle.hgs_bytes.specs.Text.{split, line, lines, Lacks}
use Rattle.hgs_bytes.specs.Theorems.TextLemmas.{split_over, number_is}
use Rattle.hgs_index.specs.ChangeText.{split_at_blank, header_lines, IsLineText}

some_is : {A : Type 0} (x y : A) → Some x ≡ Some y → x ≡ y
some_is x y e = cc

-- ---- lines between line feeds

found-step : (b : Bool) (x : ℕ) (xs : List ℕ) (p : List ℕ × List ℕ) (s : Option (List ℕ × List ℕ)) → cond b (Some ([], xs)) (option_map (λ y. (x ∷ y.0, y.1)) s) ≡ Some p →
    ((q : List ℕ × List ℕ) → s ≡ Some q → slice_split (λ b. b == 10) xs ≡ q.0 ∷ slice_split (λ b. b == 10) q.1) →
    cond b ([] ∷ slice_split (λ b. b == 10) xs) (onto_first x (slice_split (λ b. b == 10) xs)) ≡ p.0 ∷ slice_split (λ b. b == 10) p.1
found-step true x xs p s e h = ap (λ (q : List ℕ × List ℕ). q.0 ∷ slice_split (λ b. b == 10) q.1) (some_is ([], xs) p e)
found-step false x xs p None e h = cc
found-step false x xs p (Some y) e h = ap (onto_first x) (h y refl) ∙ ap (λ (q : List ℕ × List ℕ). q.0 ∷ slice_split (λ b. b == 10) q.1) (some_is (x ∷ y.0, y.1) p e)

pub header_lines_split : (xs : List ℕ) (p : List ℕ × List ℕ) → split 10 xs ≡ Some p → header_lines xs ≡ p.0 ∷ header_lines p.1
unfolding header_lines
header_lines_split [] p e = cc
header_lines_split (x ∷ xs) p e = found-step (x == 10) x xs p (split 10 xs) e (λ q h. header_lines_split xs q h)

last-step : (b : Bool) (x : ℕ) (xs : List ℕ) (s : Option (List ℕ × List ℕ)) → cond {A = Option (List ℕ × List ℕ)} b (Some ([], xs)) (option_map (λ y. (x ∷ y.0, y.1)) s) ≡ None →
    (s ≡ None → slice_split (λ b. b == 10) xs ≡ xs ∷ []) → cond b ([] ∷ slice_split (λ b. b == 10) xs) (onto_first x (slice_split (λ b. b == 10) xs)) ≡ (x ∷ xs) ∷ []
last-step true x xs s e h = cc
last-step false x xs None e h = ap (onto_first x) (h refl)
last-step false x xs (Some y) e h = cc

pub header_lines_last : (xs : List ℕ) → split 10 xs ≡ None → header_lines xs ≡ xs ∷ []
unfolding header_lines
header_lines_last [] e = refl
header_lines_last (x ∷ xs) e = last-step (x == 10) x xs (split 10 xs) e (λ h. header_lines_last xs h)

pub split_lacks : (byte : ℕ) (xs : List ℕ) → Lacks byte xs → split byte xs ≡ None
split_lacks byte [] h = refl
split_lacks byte (x ∷ xs) h = rw (h.0, split_lacks byte xs h.1)

-- a header of these lines
unfoldable pub joined : List ℕ → List (List ℕ) → List ℕ
joined x [] = x
joined x (y ∷ rest) = x ++ 10 ∷ joined y rest

pub header_back : (x : List ℕ) (rest : List (List ℕ)) → Lacks 10 x → AllByRecursion IsLineText rest → header_lines (joined x rest) ≡ x ∷ rest
unfolding joined
header_back x [] h k = header_lines_last x (split_lacks 10 x h)
header_back x (y ∷ rest) h k =
    header_lines_split (x ++ 10 ∷ joined y rest) (x, joined y rest) (split_over 10 x (joined y rest) h)
    ∙ ap (λ l. x ∷ l) (header_back y rest k.0.no_lf k.1)

-- ---- the first empty line

blank_here : (x d : List ℕ) → Lacks 10 x → split_at_blank (x ++ 10 ∷ 10 ∷ d) ≡ Some (x, d)
unfolding split_at_blank
blank_here [] d h = refl
blank_here (a ∷ []) d h = rw (h.0)
blank_here (a ∷ b ∷ x) d h = rw (h.0, blank_here (b ∷ x) d h.1)

-- a byte, and a line, before what stands before the empty line
abbrev pub byte_before : ℕ → List ℕ × List ℕ → List ℕ × List ℕ
byte_before a p = (a ∷ p.0, p.1)

abbrev pub line_before : List ℕ → List ℕ × List ℕ → List ℕ × List ℕ
line_before x p = (x ++ 10 ∷ p.0, p.1)

onto_twice : (a : ℕ) (x : List ℕ) (s : Option (List ℕ × List ℕ)) → option_map (byte_before a) (option_map (line_before x) s) ≡ option_map (line_before (a ∷ x)) s
onto_twice a x None = refl
onto_twice a x (Some p) = refl

blank_later : (x rs : List ℕ) (r : ℕ) → Lacks 10 x → (r == 10) ≡ false → split_at_blank (x ++ 10 ∷ r ∷ rs) ≡ option_map (line_before x) (split_at_blank (r ∷ rs))
unfolding split_at_blank
blank_later [] rs r h k = rw k
blank_later (a ∷ []) rs r h k = rw (h.0, blank_later [] rs r tt k, onto_twice a [] (split_at_blank (r ∷ rs)))
blank_later (a ∷ b ∷ x) rs r h k = rw (h.0, blank_later (b ∷ x) rs r h.1 k, onto_twice a (b ∷ x) (split_at_blank (r ∷ rs)))

pub line_then : (x rest : List ℕ) → line x ++ rest ≡ x ++ 10 ∷ rest
line_then x rest = append_assoc x (10 ∷ []) rest

pub blank_back : (x : List ℕ) (rest : List (List ℕ)) (d : List ℕ) → Lacks 10 x → AllByRecursion IsLineText rest → split_at_blank (x ++ 10 ∷ (lines rest ++ 10 ∷ d)) ≡ Some (joined x rest, d)
unfolding joined
blank_back x [] d h k = blank_here x d h
blank_back x ([] ∷ rest) d h k = absurd (true≢false (k.0.some_byte))
blank_back x ((r ∷ rs) ∷ rest) d h k =
    let whole : (line (r ∷ rs) ++ lines rest) ++ 10 ∷ d ≡ (r ∷ rs) ++ 10 ∷ (lines rest ++ 10 ∷ d) = append_assoc (line (r ∷ rs)) (lines rest) (10 ∷ d) ∙ line_then (r ∷ rs) (lines rest ++ 10 ∷ d) in
    ap (λ l. split_at_blank (x ++ 10 ∷ l)) whole
    ∙ blank_later x (rs ++ 10 ∷ (lines rest ++ 10 ∷ d)) r h k.0.no_lf.0
    ∙ ap (option_map (line_before x)) (blank_back (r ∷ rs) rest d k.0.no_lf k.1)

-- ---- what is read is put together again

both_are : (a b : ℕ) → (a == 10 && b == 10) ≡ true → (a ≡ 10) × (b ≡ 10)
both_are a b e = grind (arith, e)

parts-step : (t : Bool) (x y : ℕ) (xs : List ℕ) (p : List ℕ × List ℕ) (s : Option (List ℕ × List ℕ)) → (x == 10 && y == 10) ≡ t → cond t (Some ([], xs)) (option_map (byte_before x) s) ≡ Some p →
    ((q : List ℕ × List ℕ) → s ≡ Some q → y ∷ xs ≡ q.0 ++ 10 ∷ 10 ∷ q.1) → x ∷ y ∷ xs ≡ p.0 ++ 10 ∷ 10 ∷ p.1
parts-step true x y xs p s t e h =
    let b = both_are x y t in
    ap (λ n. n ∷ y ∷ xs) b.0 ∙ ap (λ n. 10 ∷ n ∷ xs) b.1 ∙ ap (λ (q : List ℕ × List ℕ). q.0 ++ 10 ∷ 10 ∷ q.1) (some_is ([], xs) p e)
parts-step false x y xs p None t e h = cc
parts-step false x y xs p (Some q) t e h = ap (λ l. x ∷ l) (h q refl) ∙ ap (λ (r : List ℕ × List ℕ). r.0 ++ 10 ∷ 10 ∷ r.1) (some_is (x ∷ q.0, q.1) p e)

pub blank_parts : (xs : List ℕ) (p : List ℕ × List ℕ) → split_at_blank xs ≡ Some p → xs ≡ p.0 ++ 10 ∷ 10 ∷ p.1
unfolding split_at_blank
blank_parts [] p e = cc
blank_parts (x ∷ []) p e = cc
blank_parts (x ∷ y ∷ xs) p e = parts-step (x == 10 && y == 10) x y xs p (split_at_blank (y ∷ xs)) refl e (λ q h. blank_parts (y ∷ xs) q h)

-- no two line feeds stand side by side
abbrev pub NoBlank : List ℕ → Type 0
NoBlank [] = Unit {0}
NoBlank (a ∷ []) = Unit {0}
NoBlank (a ∷ b ∷ xs) = ((a == 10 && b == 10) ≡ false) × NoBlank (b ∷ xs)

cons_head : (a b : ℕ) (xs ys : List ℕ) → ◌≡◌ {A = List ℕ} (a ∷ xs) (b ∷ ys) → a ≡ b
cons_head a b xs ys e = cc

-- a byte before a front that no blank stands in
one_more : (x y : ℕ) (xs q d : List ℕ) → (x == 10 && y == 10) ≡ false → y ∷ xs ≡ q ++ 10 ∷ 10 ∷ d → NoBlank (q ++ 10 ∷ []) → NoBlank (x ∷ (q ++ 10 ∷ []))
one_more x y xs [] d t e h = let P : ℕ → Type 0 = λ n. (x == 10 && n == 10) ≡ false in (subst P (cons_head y 10 xs (10 ∷ d) e) t, tt)
one_more x y xs (a ∷ q) d t e h = let P : ℕ → Type 0 = λ n. (x == 10 && n == 10) ≡ false in (subst P (cons_head y a xs (q ++ 10 ∷ 10 ∷ d) e) t, h)

alone-step : (t : Bool) (x y : ℕ) (xs : List ℕ) (p : List ℕ × List ℕ) (s : Option (List ℕ × List ℕ)) → (x == 10 && y == 10) ≡ t → cond t (Some ([], xs)) (option_map (byte_before x) s) ≡ Some p →
    s ≡ split_at_blank (y ∷ xs) → ((q : List ℕ × List ℕ) → s ≡ Some q → NoBlank (q.0 ++ 10 ∷ [])) → NoBlank (p.0 ++ 10 ∷ [])
alone-step true x y xs p s t e r h = let P : List ℕ × List ℕ → Type 0 = λ q. NoBlank (q.0 ++ 10 ∷ []) in subst P (some_is ([], xs) p e) tt
alone-step false x y xs p None t e r h = cc
alone-step false x y xs p (Some q) t e r h =
    let P : List ℕ × List ℕ → Type 0 = λ w. NoBlank (w.0 ++ 10 ∷ []) in
    subst P (some_is (x ∷ q.0, q.1) p e) (one_more x y xs q.0 q.1 t (blank_parts (y ∷ xs) q (sym r)) (h q refl))

pub blank_alone : (xs : List ℕ) (p : List ℕ × List ℕ) → split_at_blank xs ≡ Some p → NoBlank (p.0 ++ 10 ∷ [])
unfolding split_at_blank
blank_alone [] p e = cc
blank_alone (x ∷ []) p e = cc
blank_alone (x ∷ y ∷ xs) p e = alone-step (x == 10 && y == 10) x y xs p (split_at_blank (y ∷ xs)) refl e refl (λ q h. blank_alone (y ∷ xs) q h)

-- ---- the lines of a header

some-step : (t : Bool) (x : ℕ) (ls : List (List ℕ)) → ((l : List ℕ) × (more : List (List ℕ)) × (ls ≡ l ∷ more)) → (l : List ℕ) × (more : List (List ℕ)) × (cond t ([] ∷ ls) (onto_first x ls) ≡ l ∷ more)
some-step true x ls s = ([], ls, refl)
some-step false x ls s = (x ∷ s.0, s.1, ap (onto_first x) s.2)

-- there is a first line
split_some : (xs : List ℕ) → (l : List ℕ) × (ls : List (List ℕ)) × (slice_split (λ b. b == 10) xs ≡ l ∷ ls)
split_some [] = ([], [], refl)
split_some (x ∷ xs) = some-step (x == 10) x (slice_split (λ b. b == 10) xs) (split_some xs)

join-step : (t : Bool) (x : ℕ) (xs : List ℕ) → (x == 10) ≡ t → (ls : List (List ℕ)) → lines ls ≡ xs ++ 10 ∷ [] → ((l : List ℕ) × (more : List (List ℕ)) × (ls ≡ l ∷ more)) → lines (cond t ([] ∷ ls) (onto_first x ls)) ≡ (x ∷ xs) ++ 10 ∷ []
join-step true x xs t ls e s = ap (λ l. 10 ∷ l) e ∙ ap (λ n. n ∷ (xs ++ 10 ∷ [])) (sym (number_is x 10 t))
join-step false x xs t [] e s = cc
join-step false x xs t (l ∷ ls) e s = ap (λ k. x ∷ k) e

-- the lines of a header, each with its LF, are the header with one more LF
pub joined_lines : (xs : List ℕ) → lines (header_lines xs) ≡ xs ++ 10 ∷ []
unfolding header_lines
joined_lines [] = refl
joined_lines (x ∷ xs) = join-step (x == 10) x xs refl (slice_split (λ b. b == 10) xs) (joined_lines xs) (split_some xs)

-- no line holds an LF
abbrev pub AllLack : List (List ℕ) → Type 0
AllLack [] = Unit {0}
AllLack (l ∷ ls) = Lacks 10 l × AllLack ls

lack-step : (t : Bool) (x : ℕ) (ls : List (List ℕ)) → (x == 10) ≡ t → ((l : List ℕ) × (more : List (List ℕ)) × (ls ≡ l ∷ more)) → AllLack ls → AllLack (cond t ([] ∷ ls) (onto_first x ls))
lack-step true x ls t s h = (tt, h)
lack-step false x [] t s h = cc
lack-step false x (l ∷ ls) t s h = ((t, h.0), h.1)

pub lines_lack : (xs : List ℕ) → AllLack (header_lines xs)
unfolding header_lines
lines_lack [] = (tt, tt)
lines_lack (x ∷ xs) = lack-step (x == 10) x (slice_split (λ b. b == 10) xs) refl (split_some xs) (lines_lack xs)

-- behind a line that ends before it
pub no_blank_behind : (x rest : List ℕ) → NoBlank (x ++ 10 ∷ rest) → NoBlank (10 ∷ rest)
no_blank_behind [] rest h = h
no_blank_behind (a ∷ []) rest h = h.1
no_blank_behind (a ∷ b ∷ x) rest h = no_blank_behind (b ∷ x) rest h.1

no_blank_tail : (rest : List ℕ) → NoBlank (10 ∷ rest) → NoBlank rest
no_blank_tail [] h = tt
no_blank_tail (b ∷ rest) h = h.1

some_bytes : (b : ℕ) (xs : List ℕ) → (length (b ∷ xs) == 0) ≡ false
some_bytes b xs = false_from_ne_true (length (b ∷ xs) == 0) (λ t. let e = number_is (length (b ∷ xs)) 0 t in absurd (omega (arith, e)))

-- in a header with no blank each line behind an LF has a byte
pub lines_some : (rest : List (List ℕ)) → NoBlank (10 ∷ lines rest) → AllLack rest → AllByRecursion IsLineText rest
lines_some [] h k = tt
lines_some ([] ∷ rest) h k = cc
lines_some ((r ∷ rs) ∷ rest) h k =
    let P : List ℕ → Type 0 = λ l. NoBlank l in
    let tail : NoBlank ((r ∷ rs) ++ 10 ∷ lines rest) = subst P (line_then (r ∷ rs) (lines rest)) h.1 in
    (record { some_byte = some_bytes r rs; no_lf = k.0 }, lines_some rest (no_blank_behind (r ∷ rs) (lines rest) tail) k.1)
