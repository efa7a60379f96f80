-- Bytes in pieces.
use Rattle.std.proofs.Common.{◌≡◌, ℕ, zero, suc, ◌+◌, ◌-◌, ◌<◌, List, [], ◌∷◌, ◌++◌, length, take, drop, get_or, refl, sym, ap, ◌∙◌, arith, length-take, append-nil, drop-cons}
use Rattle.std.proofs.lemmas.List.{append_assoc}
use Rattle.hgs_mem.specs.Content.{joined}

pub joined_more : (xs ys : List (List ℕ)) → joined (xs ++ ys) ≡ joined xs ++ joined ys
joined_more [] ys = refl
joined_more (x ∷ xs) ys = ap (λ l. x ++ l) (joined_more xs ys) ∙ sym (append_assoc x (joined xs) (joined ys))

pub joined_push : (xs : List (List ℕ)) (y : List ℕ) → joined (xs ++ y ∷ []) ≡ joined xs ++ y
joined_push xs y = joined_more xs (y ∷ []) ∙ ap (λ l. joined xs ++ l) (append-nil y)

-- what is taken, and left out, of bytes in two parts
pub take_two : (n : ℕ) (xs ys : List ℕ) → take n (xs ++ ys) ≡ take n xs ++ take (n - length xs) ys
take_two zero [] ys = refl
take_two (suc n) [] ys = let all : suc n ≡ suc n - 0 = omega arith in ap (λ k. take k ys) all
take_two zero (x ∷ xs) ys = let none : 0 ≡ 0 - length (x ∷ xs) = omega arith in ap (λ n. take n ys) none
take_two (suc n) (x ∷ xs) ys = let less : n - length xs ≡ suc n - length (x ∷ xs) = omega arith in ap (λ l. x ∷ l) (take_two n xs ys) ∙ ap (λ k. x ∷ (take n xs ++ take k ys)) less

pub drop_two : (n : ℕ) (xs ys : List ℕ) → drop n (xs ++ ys) ≡ drop n xs ++ drop (n - length xs) ys
drop_two zero [] ys = refl
drop_two (suc n) [] ys = let all : suc n ≡ suc n - 0 = omega arith in ap (λ k. drop k ys) all
drop_two zero (x ∷ xs) ys = let none : 0 ≡ 0 - length (x ∷ xs) = omega arith in ap (λ n. (x ∷ xs) ++ drop n ys) none
drop_two (suc n) (x ∷ xs) ys = let less : n - length xs ≡ suc n - length (x ∷ xs) = omega arith in drop_two n xs ys ∙ ap (λ k. drop n xs ++ drop k ys) less

-- the next piece, and what comes behind it
pub joined_next : (xs : List (List ℕ)) (i : ℕ) (d : List ℕ) → i < length xs → joined (drop i xs) ≡ get_or xs i d ++ joined (drop (i + 1) xs)
joined_next xs i d lt =
    let next : suc i ≡ i + 1 = omega arith in
    ap joined (drop-cons xs i d lt ∙ ap (λ n. get_or xs i d ∷ drop n xs) next)

pub take_more : (all done more piece xs ys : List ℕ) (left less : ℕ) → done ++ take left xs ≡ all → xs ≡ piece ++ ys → more ≡ take left piece → less ≡ left - length piece → (done ++ more) ++ take less ys ≡ all
take_more all done more piece xs ys left less was split is fewer =
    append_assoc done more (take less ys)
    ∙ ap (λ l. done ++ l) (ap (λ l. l ++ take less ys) is ∙ ap (λ n. take left piece ++ take n ys) fewer ∙ sym (take_two left piece ys) ∙ ap (take left) (sym split))
    ∙ was

pub read_more : (all done more piece xs ys : List ℕ) (left less skip skips : ℕ) → done ++ take left (drop skip xs) ≡ all → xs ≡ piece ++ ys → more ≡ take left (drop skip piece) → less ≡ left - length more → skips ≡ skip - length piece
    → (done ++ more) ++ take less (drop skips ys) ≡ all
read_more all done more piece xs ys left less skip skips was split is fewer later =
    let long : less ≡ left - length (drop skip piece) = omega (arith, fewer, ap length is, length-take left (drop skip piece)) in
    let cut : drop skip xs ≡ drop skip piece ++ drop skips ys = ap (drop skip) split ∙ drop_two skip piece ys ∙ ap (λ n. drop skip piece ++ drop n ys) (sym later) in
    take_more all done more (drop skip piece) (drop skip xs) (drop skips ys) left less was cut is long

-- the last piece joined with what comes behind it
pub last_two : (pieces old : List (List ℕ)) (before behind both : List ℕ) → old ≡ pieces ++ before ∷ [] → both ≡ before ++ behind → joined pieces ++ both ≡ joined old ++ behind
last_two pieces old before behind both popped is =
    ap (λ l. joined pieces ++ l) is ∙ sym (append_assoc (joined pieces) before behind) ∙ ap (λ l. l ++ behind) (sym (joined_push pieces before) ∙ ap joined (sym popped))

pub one_behind : (pieces new : List (List ℕ)) (last old bytes : List ℕ) → joined pieces ++ last ≡ old ++ bytes → new ≡ pieces ++ last ∷ [] → joined new ≡ old ++ bytes
one_behind pieces new last old bytes was pushed = ap joined pushed ∙ joined_push pieces last ∙ was

pub one_more : (pieces new : List (List ℕ)) (piece : List ℕ) → new ≡ pieces ++ piece ∷ [] → joined new ≡ joined pieces ++ piece
one_more pieces new piece pushed = ap joined pushed ∙ joined_push pieces piece
