-- A set of paths, in order.
use Rattle.std.proofs.Common.{◌≡◌, ℕ, Bool, List, [], ◌∷◌, ◌++◌, map, length, Option, Some, None, refl, sym, ◌∙◌, ap, arith}
use Rattle.std.specs.Option.{MatchOption}
use Rattle.std.specs.Prelude.{Vec, if◌then◌else◌}
use Rattle.std.specs.declared.cmp.Ordering.{Ordering}
use Rattle.std.specs.declared.cmp.Ordering.TheVariants.{Less, Equal, Greater}
use Rattle.std.specs.Ordering.{nat_cmp, is_eq, is_lt, match_ordering}
use Rattle.std.specs.Cmp.Lexicographic.{slice_cmp, texts_ties}
use Rattle.std.specs.BTreeSet.{insert_key}
use Rattle.hgs_bytes.specs.Bytes.{same}
use Rattle.hgs_model.specs.History.{in_order, inserted}

put-step : (o : Ordering) (s : Bool) (x y : List ℕ) (ys put : List (List ℕ)) → s ≡ is_eq o → match_ordering o (x ∷ y ∷ ys) (y ∷ ys) (y ∷ put) ≡ (if s then y ∷ ys else (if is_lt o then x ∷ y ∷ ys else y ∷ put))
put-step Less s x y ys put e = ap (λ b. if b then y ∷ ys else x ∷ y ∷ ys) (sym e)
put-step Equal s x y ys put e = ap (λ b. if b then y ∷ ys else y ∷ put) (sym e)
put-step Greater s x y ys put e = ap (λ b. if b then y ∷ ys else y ∷ put) (sym e)

mapped-step : {Y : Type 0} (o : Ordering) (a b c : List (Vec ℕ Y)) → map (λ p. p.items) (match_ordering o a b c) ≡ match_ordering o (map (λ p. p.items) a) (map (λ p. p.items) b) (map (λ p. p.items) c)
mapped-step Less a b c = refl
mapped-step Equal a b c = refl
mapped-step Greater a b c = refl

-- a key is inserted in its place among the paths
pub put : {Y : Type 0} (keys : List (Vec ℕ Y)) (k : Vec ℕ Y) → map (λ p. p.items) (insert_key (λ x y. slice_cmp nat_cmp x.items y.items) keys k) ≡ inserted k.items (map (λ p. p.items) keys)
put [] k = refl
put (y ∷ keys) k =
    let o = slice_cmp nat_cmp k.items y.items in
    mapped-step o (k ∷ y ∷ keys) (y ∷ keys) (y ∷ insert_key (λ x y. slice_cmp nat_cmp x.items y.items) keys k)
    ∙ ap (λ l. match_ordering o (k.items ∷ y.items ∷ map (λ p. p.items) keys) (y.items ∷ map (λ p. p.items) keys) (y.items ∷ l)) (put keys k)
    ∙ put-step o (same k.items y.items) k.items y.items (map (λ p. p.items) keys) (inserted k.items (map (λ p. p.items) keys)) (texts_ties k.items y.items)

-- texts one after another, the last first, put among others
abbrev pub onto : List (List ℕ) → List (List ℕ) → List (List ℕ)
onto [] set = set
onto (x ∷ xs) set = inserted x (onto xs set)

pub onto-none : (xs : List (List ℕ)) → onto xs [] ≡ in_order xs
onto-none [] = refl
onto-none (x ∷ xs) = ap (inserted x) (onto-none xs)

pub onto-last : (xs : List (List ℕ)) (x : List ℕ) (set : List (List ℕ)) → onto (xs ++ x ∷ []) set ≡ onto xs (inserted x set)
onto-last [] x set = refl
onto-last (y ∷ xs) x set = ap (inserted y) (onto-last xs x set)

pub onto-empty : (xs : List (List ℕ)) (set : List (List ℕ)) → length xs ≡ 0 → onto xs set ≡ set
onto-empty [] set e = refl
onto-empty (x ∷ xs) set e = absurd (no e)
  where
    no : length (x ∷ xs) ≡ 0 → ⊥
    no h = omega (arith, h)

pub none-popped : {A : Type 0} (o : Option A) (P : Type 0) (Q : A → Type 0) → o ≡ None → MatchOption o P Q → P
none-popped None P Q e m = m
none-popped (Some x) P Q e m = absurd (no e)
  where
    no : Some x ≡ None → ⊥
    no h = cc
