-- Findings of each element of a list, and which stand among them.
use Rattle.std.proofs.Common.{◌≡◌, ◌⊎◌, ℕ, zero, suc, ◌+◌, List, [], ◌∷◌, ◌++◌, Bool, true, false, ◌&&◌, ◌||◌, take, append_assoc, append-nil, refl, sym, ◌∙◌, ap, inl, inr, arith}
use Rattle.std.specs.Prelude.{Option, Some, None, slice_get, ◌==◌}
use Rattle.std.specs.List.{list_any}
use Rattle.std.specs.Cmp.Lexicographic.{bytes_decides}
use Rattle.std.proofs.lemmas.Bool.Decides.{nat_tests}
use Rattle.hgs_bytes.specs.Bytes.{same}
use Rattle.hgs_findings.specs.Findings.{Finding, is_finding, is_same_rev}
use Rattle.hgs_judge.specs.Report.{one_if, each_from}

pub never : {A : Type 0} → true ≡ false → A
never e = absurd (no_case e)
  where
    no_case : true ≡ false → ⊥
    no_case h = cc

pub eq-test : (a b : ℕ) → (a == b) ≡ true → a ≡ b
eq-test a b e = grind (arith, nat_tests)

pub eq-itself : (a : ℕ) → (a == a) ≡ true
eq-itself a = grind (arith, nat_tests)

-- ---- one more element

pub each-more : {A : Type 0} (f : ℕ → A → List Finding) (k : ℕ) (xs : List A) (i : ℕ) (x : A) → slice_get xs i ≡ Some x → each_from f k (take (suc i) xs) ≡ each_from f k (take i xs) ++ f (k + i) x
each-more f k [] i x at = absurd (no_x at)
  where
    no_x : None ≡ Some x → ⊥
    no_x h = cc
each-more {A = A} f k (y ∷ xs) zero x at = append-nil (f k y) ∙ ap (f k) (some-same y x at) ∙ ap (λ n. f n x) (let e : k ≡ k + 0 = omega arith in e)
  where
    some-same : (a b : A) → Some a ≡ Some b → a ≡ b
    some-same a b h = ap (elim [ None ↦ a | Some z ↦ z ]) h
each-more f k (y ∷ xs) (suc i) x at =
    ap (λ l. f k y ++ l) (each-more f (suc k) xs i x at)
    ∙ sym (append_assoc (f k y) (each_from f (suc k) (take i xs)) (f (suc k + i) x))
    ∙ ap (λ n. (f k y ++ each_from f (suc k) (take i xs)) ++ f n x) (let e : suc k + i ≡ k + suc i = omega arith in e)

pub added : {A : Type 0} (f : ℕ → A → List Finding) (k : ℕ) (xs : List A) (i : ℕ) (x : A) (start now new : List Finding) → slice_get xs i ≡ Some x → now ≡ start ++ each_from f k (take i xs) → new ≡ now ++ f (k + i) x → new ≡ start ++ each_from f k (take (i + 1) xs)
added f k xs i x start now new at before one =
    one
    ∙ ap (λ l. l ++ f (k + i) x) before
    ∙ append_assoc start (each_from f k (take i xs)) (f (k + i) x)
    ∙ ap (λ l. start ++ l) (sym (each-more f k xs i x at))
    ∙ ap (λ n. start ++ each_from f k (take n xs)) (let e : suc i ≡ i + 1 = omega arith in e)

pub added-first : {A : Type 0} (f : ℕ → A → List Finding) (xs : List A) (i : ℕ) (x : A) (start now new : List Finding) → slice_get xs i ≡ Some x → now ≡ start ++ each_from f 0 (take i xs) → new ≡ now ++ f i x → new ≡ start ++ each_from f 0 (take (i + 1) xs)
added-first f xs i x start now new at before one = added f 0 xs i x start now new at before (one ∙ ap (λ n. now ++ f n x) (let e : i ≡ 0 + i = omega arith in e))

pub two-added : (now one two a b : List Finding) → one ≡ now ++ a → two ≡ one ++ b → two ≡ now ++ (a ++ b)
two-added now one two a b p q = q ∙ ap (λ l. l ++ b) p ∙ append_assoc now a b

-- ---- which stand there

pub any-append : (p : Finding → Bool) (xs ys : List Finding) → list_any p (xs ++ ys) ≡ (list_any p xs || list_any p ys)
any-append p [] ys = refl
any-append p (x ∷ xs) ys = by (p x) (any-append p xs ys)
  where
    by : (b : Bool) → list_any p (xs ++ ys) ≡ (list_any p xs || list_any p ys) → (b || list_any p (xs ++ ys)) ≡ ((b || list_any p xs) || list_any p ys)
    by true rec = refl
    by false rec = rec

pub either : (a b : Bool) → (a || b) ≡ true → (a ≡ true) ⊎ (b ≡ true)
either true b e = inl refl
either false b e = inr e

pub in-front : (p : Finding → Bool) (xs ys : List Finding) → list_any p xs ≡ true → list_any p (xs ++ ys) ≡ true
in-front p xs ys e = any-append p xs ys ∙ ap (λ b. b || list_any p ys) e

pub in-back : (p : Finding → Bool) (xs ys : List Finding) → list_any p ys ≡ true → list_any p (xs ++ ys) ≡ true
in-back p xs ys e = any-append p xs ys ∙ ap (λ b. list_any p xs || b) e ∙ by (list_any p xs)
  where
    by : (b : Bool) → (b || true) ≡ true
    by true = refl
    by false = refl

pub split-any : (p : Finding → Bool) (xs ys : List Finding) → list_any p (xs ++ ys) ≡ true → (list_any p xs ≡ true) ⊎ (list_any p ys ≡ true)
split-any p xs ys e = either (list_any p xs) (list_any p ys) (sym (any-append p xs ys) ∙ e)

-- a finding that is one
pub record IsOne (path : List ℕ) (at : Option ℕ) (kind : ℕ) (file : List ℕ) (rev : Option ℕ) (k : ℕ) : Type 0 where
  pub file_is : path ≡ file
  pub rev_is : at ≡ rev
  pub kind_is : kind ≡ k

pub both : (a b : Bool) → (a && b) ≡ true → (a ≡ true) × (b ≡ true)
both true b e = (refl, e)
both false b e = never (sym e)

or-nothing : (a : Bool) → (a || false) ≡ true → a ≡ true
or-nothing true e = refl
or-nothing false e = e

same-rev : (a b : Option ℕ) → is_same_rev a b ≡ true → a ≡ b
same-rev None None h = refl
same-rev None (Some b) h = never (sym h)
same-rev (Some a) None h = never (sym h)
same-rev (Some a) (Some b) h = ap Some (eq-test a b h)

pub own-rev : (a : Option ℕ) → is_same_rev a a ≡ true
own-rev None = refl
own-rev (Some a) = eq-itself a

pub is-this : (path : List ℕ) (at : Option ℕ) (kind : ℕ) (file : List ℕ) (rev : Option ℕ) (k : ℕ) → list_any (is_finding file rev k) (record { path = path; rev = at; kind = kind } ∷ []) ≡ true → IsOne path at kind file rev k
is-this path at kind file rev k e = record { file_is = (bytes_decides path file).0 a.0; rev_is = same-rev at rev a.1; kind_is = eq-test kind k t.1 }
  where
    t : ((same path file && is_same_rev at rev) ≡ true) × ((kind == k) ≡ true)
    t = both (same path file && is_same_rev at rev) (kind == k) (or-nothing ((same path file && is_same_rev at rev) && (kind == k)) e)

    a : (same path file ≡ true) × (is_same_rev at rev ≡ true)
    a = both (same path file) (is_same_rev at rev) t.0

pub this-is : (path : List ℕ) (at : Option ℕ) (kind : ℕ) → list_any (is_finding path at kind) (record { path = path; rev = at; kind = kind } ∷ []) ≡ true
this-is path at kind =
    ap (λ b. ((b && is_same_rev at at) && (kind == kind)) || false) ((bytes_decides path path).1 refl)
    ∙ ap (λ b. ((true && b) && (kind == kind)) || false) (own-rev at)
    ∙ ap (λ b. ((true && true) && b) || false) (eq-itself kind)

-- one that is told of a revision
pub one-is : (is : Bool) (path : List ℕ) (at kind : ℕ) (file : List ℕ) (rev : Option ℕ) (k : ℕ) → list_any (is_finding file rev k) (one_if is path at kind) ≡ true → (is ≡ true) × IsOne path (Some at) kind file rev k
one-is false path at kind file rev k e = never (sym e)
one-is true path at kind file rev k e = (refl, is-this path (Some at) kind file rev k e)

pub is-one : (is : Bool) (path : List ℕ) (at kind : ℕ) → is ≡ true → list_any (is_finding path (Some at) kind) (one_if is path at kind) ≡ true
is-one false path at kind e = never (sym e)
is-one true path at kind e = this-is path (Some at) kind

-- one of those of a list
pub record IsOf {A : Type 0} (p : Finding → Bool) (f : ℕ → A → List Finding) (k : ℕ) (xs : List A) : Type 0 where
  pub i : ℕ
  pub x : A
  pub at : slice_get xs i ≡ Some x
  pub is : list_any p (f (k + i) x) ≡ true

pub is-of : {A : Type 0} (p : Finding → Bool) (f : ℕ → A → List Finding) (k : ℕ) (xs : List A) → list_any p (each_from f k xs) ≡ true → IsOf p f k xs
is-of p f k [] e = never (sym e)
is-of {A = A} p f k (x ∷ xs) e = by (split-any p (f k x) (each_from f (suc k) xs) e) (is-of p f (suc k) xs)
  where
    by : (list_any p (f k x) ≡ true) ⊎ (list_any p (each_from f (suc k) xs) ≡ true) → (list_any p (each_from f (suc k) xs) ≡ true → IsOf p f (suc k) xs) → IsOf p f k (x ∷ xs)
    by (inl h) rec = record { i = 0; x = x; at = refl; is = ap (λ n. list_any p (f n x)) (let z : k + 0 ≡ k = omega arith in z) ∙ h }
    by (inr h) rec = let r = rec h in record { i = suc r.i; x = r.x; at = r.at; is = ap (λ n. list_any p (f n r.x)) (let z : k + suc r.i ≡ suc k + r.i = omega arith in z) ∙ r.is }

pub of-is : {A : Type 0} (p : Finding → Bool) (f : ℕ → A → List Finding) (k : ℕ) (xs : List A) (i : ℕ) (x : A) → slice_get xs i ≡ Some x → list_any p (f (k + i) x) ≡ true → list_any p (each_from f k xs) ≡ true
of-is p f k [] i x at h = absurd (no_x at)
  where
    no_x : None ≡ Some x → ⊥
    no_x g = cc
of-is {A = A} p f k (y ∷ xs) zero x at h = in-front p (f k y) (each_from f (suc k) xs) (ap (λ z. list_any p (f k z)) (some-same y x at) ∙ ap (λ n. list_any p (f n x)) (let z : k ≡ k + 0 = omega arith in z) ∙ h)
  where
    some-same : (a b : A) → Some a ≡ Some b → a ≡ b
    some-same a b g = ap (elim [ None ↦ a | Some z ↦ z ]) g
of-is p f k (y ∷ xs) (suc i) x at h = in-back p (f k y) (each_from f (suc k) xs) (of-is p f (suc k) xs i x at (ap (λ n. list_any p (f n x)) (let z : suc k + i ≡ k + suc i = omega arith in z) ∙ h))
