-- Separators, and lines.
use Rattle.std.proofs.Common.{◌≡◌, ℕ, zero, suc, ◌+◌, ◌<◌, Bool, true, false, cond, List, [], ◌∷◌, ◌++◌, length, take, drop, get_or, Option, Some, None, refl, sym, ◌∙◌, ap, subst, arith}
use Rattle.std.specs.Prelude.{◌==◌, slice_index}
use Rattle.std.specs.Option.{option_map}
use Rattle.std.proofs.lemmas.Bool.{false_from_ne_true}
use Rattle.std.proofs.lemmas.Bool.Decides.{Decides-eqb}
use Rattle.memchr.specs.Find.{IsFirstByte, is_byte}
use Rattle.hgs_bytes.specs.Text.{split, Lacks, Line, onto, lines_of}

pub number_is : (b n : ℕ) → (b == n) ≡ true → b ≡ n
number_is b n h = (Decides-eqb b n).0 h

-- by where the first such byte stands
pub split_first : (byte : ℕ) (xs : List ℕ) (k : ℕ) → k < length xs → ((j : ℕ) → j < k → (get_or xs j 0 == byte) ≡ true → ⊥) → (get_or xs k 0 == byte) ≡ true → split byte xs ≡ Some (take k xs, drop (suc k) xs)
split_first byte [] k lt before at = absurd (omega arith)
split_first byte (x ∷ xs) zero lt before at = rw at
split_first byte (x ∷ xs) (suc k) lt before at =
    let other : (x == byte) ≡ false = false_from_ne_true (x == byte) (before 0 (omega arith)) in
    let rest = split_first byte xs k (omega arith) (λ j h. before (suc j) (omega arith)) at in
    rw (other, rest)

pub split_none : (byte : ℕ) (xs : List ℕ) → ((j : ℕ) → j < length xs → (get_or xs j 0 == byte) ≡ true → ⊥) → split byte xs ≡ None
split_none byte [] none = refl
split_none byte (x ∷ xs) none =
    let other : (x == byte) ≡ false = false_from_ne_true (x == byte) (none 0 (omega arith)) in
    rw (other, split_none byte xs (λ j h. none (suc j) (omega arith)))

some_is : {A : Type 0} (x y : A) → Some x ≡ Some y → x ≡ y
some_is x y e = cc

lines_step : (b : Bool) (x : ℕ) (xs : List ℕ) (p : List ℕ × List ℕ) (s : Option (List ℕ × List ℕ)) → cond b (Some ([], xs)) (option_map (λ y. (x ∷ y.0, y.1)) s) ≡ Some p →
    ((q : List ℕ × List ℕ) → s ≡ Some q → lines_of xs ≡ (q.0, true) ∷ lines_of q.1) → cond b (([], true) ∷ lines_of xs) (onto x (lines_of xs)) ≡ (p.0, true) ∷ lines_of p.1
lines_step true x xs p s e h = ap (λ (q : List ℕ × List ℕ). (q.0, true) ∷ lines_of q.1) (some_is ([], xs) p e)
lines_step false x xs p None e h = cc
lines_step false x xs p (Some y) e h = ap (onto x) (h y refl) ∙ ap (λ (q : List ℕ × List ℕ). (q.0, true) ∷ lines_of q.1) (some_is (x ∷ y.0, y.1) p e)

pub lines_split : (xs : List ℕ) (p : List ℕ × List ℕ) → split 10 xs ≡ Some p → lines_of xs ≡ (p.0, true) ∷ lines_of p.1
lines_split [] p e = cc
lines_split (x ∷ xs) p e = lines_step (x == 10) x xs p (split 10 xs) e (λ q h. lines_split xs q h)

last_step : (b : Bool) (x : ℕ) (xs : List ℕ) (s : Option (List ℕ × List ℕ)) → cond {A = Option (List ℕ × List ℕ)} b (Some ([], xs)) (option_map (λ y. (x ∷ y.0, y.1)) s) ≡ None →
    (s ≡ None → onto x (lines_of xs) ≡ (x ∷ xs, false) ∷ []) → cond b (([], true) ∷ lines_of xs) (onto x (lines_of xs)) ≡ (x ∷ xs, false) ∷ []
last_step true x xs s e h = cc
last_step false x xs None e h = h refl
last_step false x xs (Some y) e h = cc

pub lines_last : (x : ℕ) (xs : List ℕ) → split 10 (x ∷ xs) ≡ None → lines_of (x ∷ xs) ≡ (x ∷ xs, false) ∷ []
lines_last x [] e = last_step (x == 10) x [] None e (λ h. refl)
lines_last x (y ∷ ys) e = last_step (x == 10) x (y ∷ ys) (split 10 (y ∷ ys)) e (λ h. ap (onto x) (lines_last y ys h))

-- ---- from what `memchr` answers

pub split_found : (byte : ℕ) (xs : List ℕ) (k : ℕ) → IsFirstByte (is_byte byte) xs (Some k) → split byte xs ≡ Some (take k xs, drop (k + 1) xs)
split_found byte xs k h = split_first byte xs k h.0.high (λ j lt at. h.0.before j (omega arith) lt at) h.1 ∙ (let e : suc k ≡ k + 1 = omega arith in ap (λ n. Some (take k xs, drop n xs)) e)

pub split_missing : (byte : ℕ) (xs : List ℕ) → IsFirstByte (is_byte byte) xs None → split byte xs ≡ None
split_missing byte xs h = split_none byte xs (λ j lt at. h j (omega arith) lt at)

shorter_step : (b : Bool) (x : ℕ) (xs : List ℕ) (p : List ℕ × List ℕ) (s : Option (List ℕ × List ℕ)) → cond b (Some ([], xs)) (option_map (λ y. (x ∷ y.0, y.1)) s) ≡ Some p →
    ((q : List ℕ × List ℕ) → s ≡ Some q → length q.1 < length xs) → length p.1 < suc (length xs)
shorter_step true x xs p s e h = let l = ap (λ (q : List ℕ × List ℕ). length q.1) (some_is ([], xs) p e) in omega (arith, l)
shorter_step false x xs p None e h = cc
shorter_step false x xs p (Some y) e h = let l = ap (λ (q : List ℕ × List ℕ). length q.1) (some_is (x ∷ y.0, y.1) p e) in let k = h y refl in omega (arith, l, k)

pub split_shorter : (byte : ℕ) (xs : List ℕ) (p : List ℕ × List ℕ) → split byte xs ≡ Some p → length p.1 < length xs
split_shorter byte [] p e = cc
split_shorter byte (x ∷ xs) p e = shorter_step (x == byte) x xs p (split byte xs) e (λ q h. split_shorter byte xs q h)

pub lines_last_of : (xs : List ℕ) → 0 < length xs → split 10 xs ≡ None → lines_of xs ≡ (xs, false) ∷ []
lines_last_of [] h e = absurd (omega arith)
lines_last_of (x ∷ xs) h e = lines_last x xs e

-- ---- the lines, put together again

unfoldable pub unlines : List Line → List ℕ
unlines [] = []
unlines (p ∷ ps) = p.0 ++ cond p.1 (10 ∷ unlines ps) (unlines ps)

unlines-onto : (b : ℕ) (ps : List Line) → unlines (onto b ps) ≡ b ∷ unlines ps
unfolding unlines
unlines-onto b [] = refl
unlines-onto b (p ∷ ps) = refl

unlines-step : (t : Bool) (b : ℕ) (bs : List ℕ) (ps : List Line) → (t ≡ true → b ≡ 10) → unlines ps ≡ bs → unlines (cond t (([], true) ∷ ps) (onto b ps)) ≡ b ∷ bs
unfolding unlines
unlines-step true b bs ps h e = ap (λ l. 10 ∷ l) e ∙ ap (λ n. n ∷ bs) (sym (h refl))
unlines-step false b bs ps h e = unlines-onto b ps ∙ ap (λ l. b ∷ l) e

pub unlines-lines_of : (xs : List ℕ) → unlines (lines_of xs) ≡ xs
unfolding unlines
unlines-lines_of [] = refl
unlines-lines_of (b ∷ bs) = unlines-step (b == 10) b bs (lines_of bs) (number_is b 10) (unlines-lines_of bs)

abbrev pub LinesLack : List Line → Type 0
LinesLack [] = Unit {0}
LinesLack (p ∷ ps) = Lacks 10 p.0 × LinesLack ps

onto-lack : (b : ℕ) (ps : List Line) → (b == 10) ≡ false → LinesLack ps → LinesLack (onto b ps)
onto-lack b [] h l = ((h, tt), tt)
onto-lack b (p ∷ ps) h l = ((h, l.0), l.1)

lack-step : (t : Bool) (b : ℕ) (ps : List Line) → (b == 10) ≡ t → LinesLack ps → LinesLack (cond t (([], true) ∷ ps) (onto b ps))
lack-step true b ps h l = (tt, l)
lack-step false b ps h l = onto-lack b ps h l

pub lines_lack : (xs : List ℕ) → LinesLack (lines_of xs)
lines_lack [] = tt
lines_lack (b ∷ bs) = lack-step (b == 10) b (lines_of bs) refl (lines_lack bs)

-- ---- what stands round a separator

split-step : (t : Bool) (byte x : ℕ) (xs : List ℕ) (p : List ℕ × List ℕ) (s : Option (List ℕ × List ℕ)) → (x == byte) ≡ t → cond t (Some ([], xs)) (option_map (λ y. (x ∷ y.0, y.1)) s) ≡ Some p →
    ((q : List ℕ × List ℕ) → s ≡ Some q → (xs ≡ q.0 ++ byte ∷ q.1) × Lacks byte q.0) → (x ∷ xs ≡ p.0 ++ byte ∷ p.1) × Lacks byte p.0
split-step true byte x xs p s t e h =
    let P : List ℕ × List ℕ → Type 0 = λ q. (x ∷ xs ≡ q.0 ++ byte ∷ q.1) × Lacks byte q.0 in
    subst P (some_is ([], xs) p e) (ap (λ n. n ∷ xs) (number_is x byte t), tt)
split-step false byte x xs p None t e h = cc
split-step false byte x xs p (Some y) t e h =
    let P : List ℕ × List ℕ → Type 0 = λ q. (x ∷ xs ≡ q.0 ++ byte ∷ q.1) × Lacks byte q.0 in
    let k = h y refl in
    subst P (some_is (x ∷ y.0, y.1) p e) (ap (λ l. x ∷ l) k.0, (t, k.1))

pub split_parts : (byte : ℕ) (xs : List ℕ) (p : List ℕ × List ℕ) → split byte xs ≡ Some p → (xs ≡ p.0 ++ byte ∷ p.1) × Lacks byte p.0
split_parts byte [] p e = cc
split_parts byte (x ∷ xs) p e = split-step (x == byte) byte x xs p (split byte xs) refl e (λ q h. split_parts byte xs q h)

pub lacks-append : (byte : ℕ) (xs ys : List ℕ) → Lacks byte xs → Lacks byte ys → Lacks byte (xs ++ ys)
lacks-append byte [] ys h k = k
lacks-append byte (x ∷ xs) ys h k = (h.0, lacks-append byte xs ys h.1 k)

pub lacks-at : (xs : List ℕ) (n : ℕ) → Lacks 10 xs → (slice_index xs n == 10) ≡ false
lacks-at [] n h = refl
lacks-at (x ∷ xs) zero h = h.0
lacks-at (x ∷ xs) (suc n) h = lacks-at xs n h.1

same_number : (n : ℕ) → (n == n) ≡ true
same_number n = grind arith

pub split_over : (byte : ℕ) (xs ys : List ℕ) → Lacks byte xs → split byte (xs ++ byte ∷ ys) ≡ Some (xs, ys)
split_over byte [] ys h = rw (same_number byte)
split_over byte (x ∷ xs) ys h = rw (h.0, split_over byte xs ys h.1)

pub lacks_front : (byte : ℕ) (xs ys : List ℕ) → Lacks byte (xs ++ ys) → Lacks byte xs
lacks_front byte [] ys h = tt
lacks_front byte (x ∷ xs) ys h = (h.0, lacks_front byte xs ys h.1)
