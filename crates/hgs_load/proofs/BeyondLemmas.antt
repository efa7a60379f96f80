-- What was told before a load stands at the front of all that it looks at.
use Rattle.std.proofs.Common.{◌≡◌, ℕ, List, Bool, true, false, Option, Some, None, Result, Ok, Err, sym, ◌∙◌, subst, inl, inr}
use Rattle.std.specs.Prelude.{◌⊎◌, ⊤, IfSome}
use Rattle.std.specs.Bool.{MatchBool}
use Rattle.hgs_bytes.specs.Bytes.{IsPrefixOf}
use Rattle.hgs_files.specs.declared.op.Op.{Op}
use Rattle.hgs_files.specs.Tree.{Tree}
use Rattle.hgs_files.specs.Reads.{Covers, Grows}
use Rattle.hgs_load.specs.declared.answer.ReadAnswer.{ReadAnswer}
use Rattle.hgs_load.specs.Answer.{is_of_outside}
use Rattle.hgs_load.specs.Asks.{Asks, answer, read, MayAnswer, MayAnswerWhereTold, Continues}
use Rattle.hgs_load.specs.Beyond.{IsBeyond, StepsBeyond, MayAnswerBeyond}
use Rattle.hgs_load.specs.Load.{Advances, HasEnded}
use Rattle.hgs_load.specs.View.{View}
use Rattle.hgs_load.specs.Theorems.AskLemmas.{continues-answer, continues-start}

-- From a first look that goes on from what was told to what is left of the question now: each answer of what is left is one of the whole.
abbrev pub ContinuesBeyond : {A : Type 0} → List (List Op) → Option (List Op) → Tree → Option (List Op) → Asks A → Asks A → Type 0
ContinuesBeyond {A} told before start now whole left =
    IfSome before (λ first. IfSome now (λ seen. (from : List Op) × IsPrefixOf first from × Covers told from × ((last : List Op) (y : A) → MayAnswer start seen left last y → MayAnswer start from whole last y)))

-- nothing was asked yet, or such a look was made
abbrev pub HasBegun : {A : Type 0} → List (List Op) → Option (List Op) → Tree → Option (List Op) → Asks A → Asks A → Type 0
HasBegun told before start now whole left = ((left ≡ whole) × (now ≡ before)) ⊎ ContinuesBeyond told before start now whole left

some-is : {A : Type 0} (x y : A) → Some x ≡ Some y → x ≡ y
some-is x y e = cc

-- the first look
first_step : {A : Type 0} (told : List (List Op)) (before next : Option (List Op)) (start : Tree) (whole rest : Asks A) → Grows before next → IsBeyond told next → Continues next start next whole rest → ContinuesBeyond told before start next whole rest
first_step told None next start whole rest g b c = tt
first_step told (Some first) None start whole rest g b c = tt
first_step told (Some first) (Some log) start whole rest g b c = (log, (g.0, some-is log _ g.1), b, c)

-- a later one
later_step : {A : Type 0} (told : List (List Op)) (before now next : Option (List Op)) (start : Tree) (whole left rest : Asks A) → Grows now next → ContinuesBeyond told before start now whole left → Continues now start next left rest → ContinuesBeyond told before start next whole rest
later_step told None now next start whole left rest g h c = tt
later_step told (Some first) None next start whole left rest g h c = let P : Option (List Op) → Type 0 = λ o. ContinuesBeyond told (Some first) start o whole rest in subst P (sym g) tt
later_step told (Some first) (Some seen) None start whole left rest g h c = tt
later_step told (Some first) (Some seen) (Some log) start whole left rest g h c = (h.0, h.1, h.2, λ last y m. h.3 last y (c last y m))

-- the answer of what is left is that of the whole
beyond_answer : {A : Type 0} (told : List (List Op)) (before now next : Option (List Op)) (start : Tree) (whole left : Asks A) (y : A) → ContinuesBeyond told before start now whole left → Grows now next → MayAnswerWhereTold now start next left y → MayAnswerBeyond told before start next whole y
beyond_answer told None now next start whole left y h g m = tt
beyond_answer told (Some first) None next start whole left y h g m = let P : Option (List Op) → Type 0 = λ o. MayAnswerBeyond told (Some first) start o whole y in subst P (sym g) tt
beyond_answer told (Some first) (Some seen) None start whole left y h g m = tt
beyond_answer told (Some first) (Some seen) (Some last) start whole left y h g m = (h.0, h.1, h.2, h.3 last y m)

-- the first look answers it
first_answer : {A : Type 0} (told : List (List Op)) (before next : Option (List Op)) (start : Tree) (whole : Asks A) (y : A) → Grows before next → IsBeyond told next → MayAnswerWhereTold next start next whole y → MayAnswerBeyond told before start next whole y
first_answer told None next start whole y g b m = tt
first_answer told (Some first) None start whole y g b m = tt
first_answer told (Some first) (Some log) start whole y g b m = (log, (g.0, some-is log _ g.1), b, m)

-- nothing is asked between a list and itself
ended_here : {A : Type 0} (now next : Option (List Op)) (start : Tree) (left : Asks A) → next ≡ now → Continues now start next left left
ended_here now next start left e = let P : Option (List Op) → Type 0 = λ o. Continues now start o left left in subst P (sym e) (continues-start now start left)

module _ (told : List (List Op)) (before now next : Option (List Op)) (start start_now : Tree) (whole left rest : Asks (Result View ReadAnswer)) (begun : HasBegun told before start now whole left) (same : start_now ≡ start) (grown : Grows now next) where
  pub begun_on : (b : Bool) → b ≡ true → StepsBeyond told start_now next left rest (Ok b) → Advances now start_now next left rest (Ok b) → ContinuesBeyond told before start next whole rest
  begun_on false e s a = cc
  begun_on true e s a = on begun
    where
      P : Tree → Type 0
      P t = Continues next t next left rest

      Q : Tree → Type 0
      Q t = Continues now t next left rest

      on : HasBegun told before start now whole left → ContinuesBeyond told before start next whole rest
      on (inl h) =
          let W : Asks (Result View ReadAnswer) → Type 0 = λ q. Continues next start next q rest in
          let G : Option (List Op) → Type 0 = λ o. Grows o next in
          first_step told before next start whole rest (subst G h.1 grown) s.0 (subst W h.0 (subst P same s.1))
      on (inr h) = later_step told before now next start whole left rest grown h (subst Q same a)

  pub begun_ended : (b : Bool) (view : View) → b ≡ false → Advances now start_now next left rest (Ok b) → rest ≡ answer (Ok view) → HasEnded whole ⊎ MayAnswerBeyond told before start next whole (Ok view)
  begun_ended true view e a r = cc
  begun_ended false view e a r = on begun
    where
      on : HasBegun told before start now whole left → HasEnded whole ⊎ MayAnswerBeyond told before start next whole (Ok view)
      on (inl h) =
          let W : Asks (Result View ReadAnswer) → Type 0 = λ q. HasEnded q in
          inl (subst W h.0 a.0)
      on (inr h) =
          inr (beyond_answer told before now next start whole left (Ok view) h grown (continues-answer now next start left left (Ok view) (ended_here now next start left a.2) (sym a.1 ∙ r)))

  pub begun_refused : (e : ReadAnswer) → StepsBeyond told start_now next left rest (Err e) → Advances now start_now next left rest (Err e) → MatchBool (is_of_outside e) ⊤ (MayAnswerBeyond told before start next whole (Err e))
  begun_refused e s a = both (is_of_outside e) s a
    where
      on : IsBeyond told next × MayAnswerWhereTold next start_now next left (Err e) → MayAnswerWhereTold now start_now next left (Err e) → HasBegun told before start now whole left → MayAnswerBeyond told before start next whole (Err e)
      on s a (inl h) =
          let P : Tree → Type 0 = λ t. MayAnswerWhereTold next t next left (Err e) in
          let W : Asks (Result View ReadAnswer) → Type 0 = λ q. MayAnswerWhereTold next start next q (Err e) in
          let G : Option (List Op) → Type 0 = λ o. Grows o next in
          first_answer told before next start whole (Err e) (subst G h.1 grown) s.0 (subst W h.0 (subst P same s.1))
      on s a (inr h) =
          let P : Tree → Type 0 = λ t. MayAnswerWhereTold now t next left (Err e) in
          beyond_answer told before now next start whole left (Err e) h grown (subst P same a)

      both : (b : Bool) → MatchBool b ⊤ (IsBeyond told next × MayAnswerWhereTold next start_now next left (Err e)) → MatchBool b ⊤ (MayAnswerWhereTold now start_now next left (Err e)) → MatchBool b ⊤ (MayAnswerBeyond told before start next whole (Err e))
      both true s a = tt
      both false s a = on s a begun

-- a question that asks for a read had to be asked
pub had_to_read : {A : Type 0} (path : List ℕ) (from most : ℕ) (rest : Option (List ℕ) → Asks A) (q : Asks A) (Q : Asks A → Type 0) → q ≡ read path from most rest → HasEnded q ⊎ Q q → Q (read path from most rest)
had_to_read path from most rest q Q e (inl h) = absurd (subst HasEnded e h)
had_to_read path from most rest q Q e (inr a) = subst Q e a
