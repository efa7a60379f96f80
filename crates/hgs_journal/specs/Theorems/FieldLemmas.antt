-- The fields of a line, by its NULs.
use Rattle.std.proofs.Common.{◌≡◌, ℕ, Bool, true, false, cond, List, [], ◌∷◌, Option, Some, None, refl, ◌∙◌, ap}
use Rattle.std.specs.Prelude.{◌==◌, option_map}
use Rattle.std.specs.List.{onto_first}
use Rattle.hgs_bytes.specs.Text.{split}
use Rattle.hgs_journal.specs.Read.{fields, three_of_four}

some_is : {A : Type 0} (x y : A) → Some x ≡ Some y → x ≡ y
some_is x y e = cc

over-step : (b : Bool) (x : ℕ) (xs : List ℕ) (p : List ℕ × List ℕ) (s : Option (List ℕ × List ℕ)) → cond b (Some ([], xs)) (option_map (λ y. (x ∷ y.0, y.1)) s) ≡ Some p →
    ((q : List ℕ × List ℕ) → s ≡ Some q → fields xs ≡ q.0 ∷ fields q.1) → cond b ([] ∷ fields xs) (onto_first x (fields xs)) ≡ p.0 ∷ fields p.1
over-step true x xs p s e h = ap (λ (q : List ℕ × List ℕ). q.0 ∷ fields q.1) (some_is ([], xs) p e)
over-step false x xs p None e h = cc
over-step false x xs p (Some y) e h = ap (onto_first x) (h y refl) ∙ ap (λ (q : List ℕ × List ℕ). q.0 ∷ fields q.1) (some_is (x ∷ y.0, y.1) p e)

-- what stands before a NUL is a field
pub fields_over : (xs : List ℕ) (p : List ℕ × List ℕ) → split 0 xs ≡ Some p → fields xs ≡ p.0 ∷ fields p.1
fields_over [] p e = cc
fields_over (x ∷ xs) p e = over-step (x == 0) x xs p (split 0 xs) e (λ q h. fields_over xs q h)

last-step : (b : Bool) (x : ℕ) (xs : List ℕ) (s : Option (List ℕ × List ℕ)) → cond {A = Option (List ℕ × List ℕ)} b (Some ([], xs)) (option_map (λ y. (x ∷ y.0, y.1)) s) ≡ None →
    (s ≡ None → fields xs ≡ xs ∷ []) → cond b ([] ∷ fields xs) (onto_first x (fields xs)) ≡ (x ∷ xs) ∷ []
last-step true x xs s e h = cc
last-step false x xs None e h = ap (onto_first x) (h refl)
last-step false x xs (Some y) e h = cc

-- without a NUL the whole is a field
pub fields_last : (xs : List ℕ) → split 0 xs ≡ None → fields xs ≡ xs ∷ []
fields_last [] e = refl
fields_last (x ∷ xs) e = last-step (x == 0) x xs (split 0 xs) e (λ h. fields_last xs h)

-- ---- lines with too few fields, with four, and with more

pub one_field : (xs : List ℕ) → split 0 xs ≡ None → three_of_four (fields xs) ≡ None
one_field xs e = ap three_of_four (fields_last xs e)

pub two_fields : (xs : List ℕ) (p : List ℕ × List ℕ) → split 0 xs ≡ Some p → split 0 p.1 ≡ None → three_of_four (fields xs) ≡ None
two_fields xs p e f = ap three_of_four (fields_over xs p e ∙ ap (λ l. p.0 ∷ l) (fields_last p.1 f))

pub three_fields : (xs : List ℕ) (p q : List ℕ × List ℕ) → split 0 xs ≡ Some p → split 0 p.1 ≡ Some q → split 0 q.1 ≡ None → three_of_four (fields xs) ≡ None
three_fields xs p q e f g = ap three_of_four (fields_over xs p e ∙ ap (λ l. p.0 ∷ l) (fields_over p.1 q f ∙ ap (λ l. q.0 ∷ l) (fields_last q.1 g)))

pub four_fields : (xs : List ℕ) (p q r : List ℕ × List ℕ) → split 0 xs ≡ Some p → split 0 p.1 ≡ Some q → split 0 q.1 ≡ Some r → split 0 r.1 ≡ None
    → three_of_four (fields xs) ≡ Some (p.0, q.0, r.0)
four_fields xs p q r e f g h =
    ap three_of_four (fields_over xs p e ∙ ap (λ l. p.0 ∷ l) (fields_over p.1 q f ∙ ap (λ l. q.0 ∷ l) (fields_over q.1 r g ∙ ap (λ l. r.0 ∷ l) (fields_last r.1 h))))

some-field : (xs : List ℕ) (o : Option (List ℕ × List ℕ)) → split 0 xs ≡ o → (x : List ℕ) × (more : List (List ℕ)) × (fields xs ≡ x ∷ more)
some-field xs None e = (xs, [], fields_last xs e)
some-field xs (Some p) e = (p.0, fields p.1, fields_over xs p e)

pub five_fields : (xs : List ℕ) (p q r s : List ℕ × List ℕ) → split 0 xs ≡ Some p → split 0 p.1 ≡ Some q → split 0 q.1 ≡ Some r → split 0 r.1 ≡ Some s
    → three_of_four (fields xs) ≡ None
five_fields xs p q r s e f g h =
    let fifth = some-field s.1 (split 0 s.1) refl in
    ap three_of_four (fields_over xs p e ∙ ap (λ l. p.0 ∷ l) (fields_over p.1 q f ∙ ap (λ l. q.0 ∷ l) (fields_over q.1 r g ∙ ap (λ l. r.0 ∷ l) (fields_over r.1 s h ∙ ap (λ l. s.0 ∷ l) fifth.2))))
