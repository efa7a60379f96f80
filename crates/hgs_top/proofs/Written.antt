-- One write after another.
use Rattle.std.proofs.Common.{◌≡◌, ℕ, ◌+◌, List, ◌++◌, length, take, drop, min, Option, Some, None, Result, Ok, Err, OnErr, refl, sym, ◌∙◌, ap, subst, arith, append_assoc, append-nil, [], length-append}
use Rattle.std.proofs.lemmas.List.{drop-take, take-take, take-append-drop, take_at, drop_at, take-append-le, take_min}
use Rattle.hgs_files.specs.Streams.{IsWritten}
use Rattle.hgs_top.specs.Run.{IsFrontWritten, IsCut}

take-add : (n k : ℕ) (xs : List ℕ) → take n xs ++ take k (drop n xs) ≡ take (n + k) xs
take-add n k xs =
    ap (λ l. l ++ take k (drop n xs)) (sym (take-take n (n + k) xs (omega arith))) ∙ ap (λ l. take n (take (n + k) xs) ++ l) (sym (drop-take n k xs))
    ∙ take-append-drop n (take (n + k) xs)

pub adds_on : (a b c : Option (List ℕ)) (x y z : List ℕ) → IsWritten a b x → IsWritten b c y → x ++ y ≡ z → IsWritten a c z
adds_on None b c x y z e f g = let P : Option (List ℕ) → Type 0 = λ b. IsWritten b c y in subst P e f
adds_on (Some o) b c x y z e f g =
    let P : Option (List ℕ) → Type 0 = λ b. IsWritten b c y in
    let h : c ≡ Some ((o ++ x) ++ y) = subst P e f in
    h ∙ ap (λ l. Some l) (append_assoc o x y ∙ ap (λ l. o ++ l) g)

pub written_on : (a b c : Option (List ℕ)) (at k : ℕ) (bytes : List ℕ) → IsWritten a b (take at bytes) → IsWritten b c (take k (drop at bytes)) → IsWritten a c (take (at + k) bytes)
written_on a b c at k bytes e f = adds_on a b c (take at bytes) (take k (drop at bytes)) (take (at + k) bytes) e f (take-add at k bytes)

pub on_err : {T E : Type 0} (r : Result T E) (P : Type 0) → P → OnErr r P
on_err (Ok x) P p = tt
on_err (Err e) P p = p

-- a front of what comes next is a front of the whole
front_of : (x y z : List ℕ) (n : ℕ) → take (length x + min n (length y)) (x ++ (y ++ z)) ≡ x ++ take n y
front_of x y z n =
    sym (take-add (length x) (min n (length y)) (x ++ (y ++ z)))
    ∙ ap (λ l. l ++ take (min n (length y)) (drop (length x) (x ++ (y ++ z)))) (take_at x (y ++ z) (length x) refl)
    ∙ ap (λ l. x ++ take (min n (length y)) l) (drop_at x (y ++ z) (length x) refl)
    ∙ ap (λ l. x ++ l) (take-append-le (min n (length y)) y z (omega arith) ∙ take_min n y)

pub front_on : (a b c : Option (List ℕ)) (x y z whole : List ℕ) → IsWritten a b x → IsFrontWritten b c y → x ++ (y ++ z) ≡ whole → IsFrontWritten a c whole
front_on a b c x y z whole e f g =
    (length x + min f.0 (length y), adds_on a b c x (take f.0 y) (take (length x + min f.0 (length y)) whole) e f.1 (sym (front_of x y z f.0) ∙ ap (take (length x + min f.0 (length y))) g))

-- what was cut is cut in the whole
pub cut_on : (a b c : Option (List ℕ)) (x y z whole : List ℕ) → IsWritten a b x → IsCut b c y → x ++ (y ++ z) ≡ whole → IsCut a c whole
cut_on a b c x y z whole e f g =
    let n = length x + min f.0 (length y) in
    let all = ap length (sym g) ∙ length-append x (y ++ z) in
    let rest = length-append y z in
    let few = f.1 in (
      n,
      omega (arith, few, all, rest),
      adds_on a b c x (take f.0 y) (take n whole) e f.2 (sym (front_of x y z f.0) ∙ ap (take n) g),
    )

pub nothing : (o : Option (List ℕ)) → IsWritten o o []
nothing None = refl
nothing (Some l) = ap (λ x. Some x) (sym (append-nil l))

pub cut_more : (a c : Option (List ℕ)) (y z : List ℕ) → IsCut a c y → IsCut a c (y ++ z)
cut_more a c y z f = cut_on a a c [] y z (y ++ z) (nothing a) f refl
