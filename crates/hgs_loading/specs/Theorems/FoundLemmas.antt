-- What calls found, one after another.
use Rattle.std.proofs.Common.{◌≡◌, ℕ, List, ◌++◌, ◌∙◌, append_assoc, Bool, true, false, Option, Some, None, Result, Ok, sym, ap, subst}
use Rattle.std.specs.Prelude.{IfSome, ⊤}
use Rattle.std.specs.Bool.{MatchBool}
use Rattle.hgs_bytes.specs.Answer.{Gives}
use Rattle.hgs_files.specs.declared.op.Op.{Op}
use Rattle.hgs_files.specs.Reads.{Grows}
use Rattle.hgs_files.specs.Tree.{Tree, after_all}
use Rattle.hgs_load.specs.declared.answer.ReadAnswer.{ReadAnswer}
use Rattle.hgs_load.specs.Answer.{is_of_outside}
use Rattle.hgs_load.specs.Asks.{IsPart, part_of}
use Rattle.hgs_loading.specs.Found.{Finds}

pub either : (b : Bool) (P Q : Type 0) → (P → Q) → MatchBool b ⊤ P → MatchBool b ⊤ Q
either true P Q f m = tt
either false P Q f m = f m

-- what holds of the told list
pub told : (seen : Option (List Op)) (P Q : List Op → Type 0) → ((log : List Op) → P log → Q log) → IfSome seen P → IfSome seen Q
told None P Q f h = tt
told (Some log) P Q f h = f log h

-- what is found where the tree gives the same
pub finds-same : {V B : Type 0} (view : V → B) (alone : Bool) (seen : Option (List Op)) (start : Tree) (p q : Tree → Result B ReadAnswer) (r : Result V ReadAnswer) → ((t : Tree) → p t ≡ q t) → Finds view alone seen start p r → Finds view alone seen start q r
finds-same {V} {B} view alone seen start p q r e f h =
    told seen (λ log. Gives is_of_outside view r (p (after_all log start))) (λ log. Gives is_of_outside view r (q (after_all log start)))
    (λ log k. (let P : Result B ReadAnswer → Type 0 = λ g. Gives is_of_outside view r g in subst P (e (after_all log start)) k)) (f h)

-- one read, and what follows from it
pub finds-read : {V B : Type 0} (view : V → B) (alone : Bool) (seen : Option (List Op)) (start : Tree) (path : List ℕ) (from most : ℕ) (part : Option (List ℕ)) (q : Tree → Result B ReadAnswer) (r : Result V ReadAnswer) →
    IsPart seen start path from most (Ok part) → ((t : Tree) → part ≡ part_of t path from most → Gives is_of_outside view r (q t)) → Finds view alone seen start q r
finds-read view alone None start path from most part q r p f h = tt
finds-read view alone (Some log) start path from most part q r p f h = f (after_all log start) p

-- one more read, where this held of the tree before it
pub told-read : (alone : Bool) (now next : Option (List Op)) (start start_next : Tree) (P Q : Tree → Type 0) (path : List ℕ) (from most : ℕ) (part : Option (List ℕ)) →
    (alone ≡ true → next ≡ now) → start_next ≡ start → (alone ≡ true → IfSome now (λ log. P (after_all log start))) → IsPart next start_next path from most (Ok part) → ((t : Tree) → P t → part ≡ part_of t path from most → Q t) →
    alone ≡ true → IfSome next (λ log. Q (after_all log start_next))
told-read alone now next start start_next P Q path from most part still same before p f h =
    let N : Option (List Op) → Type 0 = λ s. IfSome s (λ log. P (after_all log start)) in
    let S : Tree → Type 0 = λ t. IfSome next (λ log. P (after_all log t)) in
    by next (subst S (sym same) (subst N (sym (still h)) (before h))) p
  where
    by : (seen : Option (List Op)) → IfSome seen (λ log. P (after_all log start_next)) → IsPart seen start_next path from most (Ok part) → IfSome seen (λ log. Q (after_all log start_next))
    by None k p = tt
    by (Some log) k p = f (after_all log start_next) k p

-- one call after another
pub alone-both : (alone : Bool) (seen next : Option (List Op)) (start start_next : Tree) (P Q S : Tree → Type 0) → (alone ≡ true → next ≡ seen) → start_next ≡ start → ((t : Tree) → P t → Q t → S t) →
    (alone ≡ true → IfSome seen (λ log. P (after_all log start))) → (alone ≡ true → IfSome next (λ log. Q (after_all log start_next))) → alone ≡ true → IfSome next (λ log. S (after_all log start_next))
alone-both alone seen next start start_next P Q S still same f p q h =
    let N : Option (List Op) → Type 0 = λ s. IfSome s (λ log. P (after_all log start)) in
    let T : Tree → Type 0 = λ t. IfSome next (λ log. P (after_all log t)) in
    by next (subst T (sym same) (subst N (sym (still h)) (p h))) (q h)
  where
    by : (s : Option (List Op)) → IfSome s (λ log. P (after_all log start_next)) → IfSome s (λ log. Q (after_all log start_next)) → IfSome s (λ log. S (after_all log start_next))
    by None p q = tt
    by (Some log) p q = f (after_all log start_next) p q

-- what follows of one call
pub alone-one : (alone : Bool) (seen : Option (List Op)) (start : Tree) (P S : Tree → Type 0) → ((t : Tree) → P t → S t) → (alone ≡ true → IfSome seen (λ log. P (after_all log start))) → alone ≡ true → IfSome seen (λ log. S (after_all log start))
alone-one alone None start P S f p h = tt
alone-one alone (Some log) start P S f p h = f (after_all log start) (p h)

-- ---- the told list goes on

some_is : {A : Type 0} (x y : A) → Some x ≡ Some y → x ≡ y
some_is x y e = cc

grows_more : (a : List Op) (b c : Option (List Op)) → Grows (Some a) b → Grows b c → Grows (Some a) c
grows_more a None c f g = cc
grows_more a (Some b) c f g = (f.0 ++ g.0, g.1 ∙ ap (λ x. Some x) (ap (λ l. l ++ g.0) (some_is b (a ++ f.0) f.1) ∙ append_assoc a f.0 g.0))

pub grows-trans : (a b c : Option (List Op)) → Grows a b → Grows b c → Grows a c
grows-trans None b c f g = let P : Option (List Op) → Type 0 = λ o. Grows o c in subst P f g
grows-trans (Some a) b c f g = grows_more a b c f g
