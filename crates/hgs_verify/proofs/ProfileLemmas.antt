-- What `requires` says where it is of the profile, and which refusals there are.
use Rattle.std.proofs.Common.{◌≡◌, Bool, true, false, cond, not, ◌&&◌, List, [], ◌∷◌, refl, ℕ}
use Rattle.std.specs.Prelude.{Option, Some, None, Result, Ok, Err, find}
use Rattle.std.specs.List.{list_all}
use Rattle.hgs_bytes.specs.Bytes.{among}
use Rattle.hgs_files.specs.Tree.{Tree}
use Rattle.hgs_model.specs.History.{first_of}
use Rattle.hgs_load.specs.declared.answer.ReadAnswer.{ReadAnswer}
use Rattle.hgs_load.specs.declared.answer.ReadAnswer.TheVariants.{NotARepository, Requirement}
use Rattle.hgs_load.specs.Open.{requires_path}
use Rattle.hgs_load.specs.Requirements.{first_lacking, first_unknown, requirement_answer, requires_answer, words_of}
use Rattle.hgs_stands.specs.Requires.{IsInProfile, needed, profile}

never : {A : Type 0} → true ≡ false → A
never e = absurd (no_case e)
  where
    no_case : true ≡ false → ⊥
    no_case h = cc

none-fails : (f : List ℕ → Bool) (xs : List (List ℕ)) → find (λ x. not (f x)) xs ≡ None → list_all f xs ≡ true
none-fails f [] e = refl
none-fails f (x ∷ xs) e = by (f x) e (none-fails f xs)
  where
    by : (b : Bool) → cond (not b) (Some x) (find (λ y. not (f y)) xs) ≡ None → (find (λ y. not (f y)) xs ≡ None → list_all f xs ≡ true) → (b && list_all f xs) ≡ true
    by true h rec = rec h
    by false h rec = absurd (clash h)
      where
        clash : Some x ≡ None → ⊥
        clash k = cc

neither : (a b : Option (List ℕ)) → requirement_answer (first_of a b) ≡ Ok tt → (a ≡ None) × (b ≡ None)
neither None None e = (refl, refl)
neither (Some x) b e = absurd (clash e)
  where
    clash : (let r : Result (Unit {0}) ReadAnswer = Err (Requirement x) in r) ≡ Ok (tt {0}) → ⊥
    clash h = cc
neither None (Some x) e = absurd (clash e)
  where
    clash : (let r : Result (Unit {0}) ReadAnswer = Err (Requirement x) in r) ≡ Ok (tt {0}) → ⊥
    clash h = cc

pub in-profile : (t : Tree) → requires_answer (t requires_path) ≡ Ok tt → IsInProfile t
in-profile t e = by (t requires_path) refl e
  where
    by : (o : Option (List ℕ)) → t requires_path ≡ o → requires_answer o ≡ Ok tt → IsInProfile t
    by None is h = absurd (clash h)
      where
        clash : (let r : Result (Unit {0}) ReadAnswer = Err NotARepository in r) ≡ Ok (tt {0}) → ⊥
        clash k = cc
    by (Some text) is h =
        let n = neither (first_unknown (words_of text)) (first_lacking (words_of text)) h in
        record { text = text; there = is; known = none-fails (λ word. among word profile) (words_of text) n.0; whole = none-fails (λ word. among word (words_of text)) needed n.1 }
