-- Items and their escapes.
use Rattle.std.proofs.Common.{◌≡◌, ℕ, Bool, true, false, cond, List, [], ◌∷◌, ◌++◌, Option, Some, None, refl, ◌∙◌, ap, arith, append_assoc}
use Rattle.std.specs.Prelude.{◌==◌}
use Rattle.std.specs.Option.{option_map}
use Rattle.std.proofs.lemmas.Bool.Decides.{nat_tests}
use Rattle.hgs_bytes.specs.Text.{split}
use Rattle.hgs_branch.specs.Extras.{items_of, onto_item, unescaped}

some_is : {A : Type 0} (x y : A) → Some x ≡ Some y → x ≡ y
some_is x y e = cc

items_step : (b : Bool) (x : ℕ) (xs : List ℕ) (p : List ℕ × List ℕ) (s : Option (List ℕ × List ℕ)) → cond b (Some ([], xs)) (option_map (λ y. (x ∷ y.0, y.1)) s) ≡ Some p →
    ((q : List ℕ × List ℕ) → s ≡ Some q → items_of xs ≡ q.0 ∷ items_of q.1) → cond b ([] ∷ items_of xs) (onto_item x (items_of xs)) ≡ p.0 ∷ items_of p.1
items_step true x xs p s e h = ap (λ (q : List ℕ × List ℕ). q.0 ∷ items_of q.1) (some_is ([], xs) p e)
items_step false x xs p None e h = cc
items_step false x xs p (Some y) e h = ap (onto_item x) (h y refl) ∙ ap (λ (q : List ℕ × List ℕ). q.0 ∷ items_of q.1) (some_is (x ∷ y.0, y.1) p e)

pub items_split : (xs : List ℕ) (p : List ℕ × List ℕ) → split 0 xs ≡ Some p → items_of xs ≡ p.0 ∷ items_of p.1
items_split [] p e = cc
items_split (x ∷ xs) p e = items_step (x == 0) x xs p (split 0 xs) e (λ q h. items_split xs q h)

last_step : (b : Bool) (x : ℕ) (xs : List ℕ) (s : Option (List ℕ × List ℕ)) → cond {A = Option (List ℕ × List ℕ)} b (Some ([], xs)) (option_map (λ y. (x ∷ y.0, y.1)) s) ≡ None →
    (s ≡ None → items_of xs ≡ xs ∷ []) → cond b ([] ∷ items_of xs) (onto_item x (items_of xs)) ≡ (x ∷ xs) ∷ []
last_step true x xs s e h = cc
last_step false x xs None e h = ap (onto_item x) (h refl)
last_step false x xs (Some y) e h = cc

pub items_last : (xs : List ℕ) → split 0 xs ≡ None → items_of xs ≡ xs ∷ []
items_last [] e = refl
items_last (x ∷ xs) e = last_step (x == 0) x xs (split 0 xs) e (λ h. items_last xs h)

other_byte : (a b : ℕ) → (a ≡ b → ⊥) → (a == b) ≡ false
other_byte a b ne = grind (arith, nat_tests, ne)

pub plain_byte : (a : ℕ) (bytes : List ℕ) → (a ≡ 92 → ⊥) → unescaped (a ∷ bytes) ≡ option_map (λ r. a ∷ r) (unescaped bytes)
plain_byte a [] ne = let h = other_byte a 92 ne in rw h
plain_byte a (b ∷ bytes) ne = let h = other_byte a 92 ne in rw h

pub one_more : (plain : List ℕ) (b : ℕ) (rest : Option (List ℕ)) → option_map (λ r. (plain ++ b ∷ []) ++ r) rest ≡ option_map (λ r. plain ++ r) (option_map (λ r. b ∷ r) rest)
one_more plain b None = refl
one_more plain b (Some r) = ap (λ (l : List ℕ). Some l) (append_assoc plain (b ∷ []) r)
