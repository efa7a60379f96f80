-- One step of a load after another.
use Rattle.std.proofs.Common.{◌≡◌, ℕ, ◌≤◌, List, length, Bool, true, false, Bor, Option, Result, Ok, Err, refl, sym, ◌∙◌, subst}
use Rattle.std.specs.Prelude.{⊤, IfSome}
use Rattle.std.specs.Bool.{MatchBool}
use Rattle.hgs_files.specs.declared.op.Op.{Op}
use Rattle.hgs_files.specs.Tree.{Tree}
use Rattle.hgs_files.specs.Reads.{Grows}
use Rattle.hgs_load.specs.declared.answer.ReadAnswer.{ReadAnswer}
use Rattle.hgs_load.specs.declared.load.LoadNext.TheVariants.{Read}
use Rattle.hgs_load.specs.Answer.{is_of_outside}
use Rattle.hgs_load.specs.Asks.{Asks, answer, read, MayAnswerWhereTold, IsPart, Continues}
use Rattle.hgs_load.specs.View.{View}
use Rattle.hgs_load.specs.Given.{RisesBy, size_of, Gave, GaveRefused, TakesStep}
use Rattle.hgs_load.specs.Load.{IsNext, rest_of, Advances}
use Rattle.hgs_load.specs.Theorems.GivenLemmas.{gave-none, gave-read, gave-both, refused-both}
use Rattle.hgs_load.specs.Theorems.AskLemmas.{continues-start, continues-read, continues-answer, continues-trans, continues-then, either}

-- a read was answered, and what is left of the question has its answer
pub asked_then : (before after : Option (List Op)) (start start_new : Tree) (q : Asks (Result View ReadAnswer)) (path : Bor (List ℕ)) (from most : ℕ) (part : Option (List ℕ)) (y : Result View ReadAnswer) →
    IsNext q (Read path from most) → Grows before after → start_new ≡ start → IsPart after start_new path.now from most (Ok part) → rest_of q part ≡ answer y → MayAnswerWhereTold before start after q y
asked_then before after start start_new (answer x) path from most part y n g s p r = absurd n
asked_then before after start start_new (read q f m rest) path from most part y n g s p r =
    let P : Tree → Type 0 = λ t. IsPart after t path.now from most (Ok part) in
    let Q : List ℕ → Type 0 = λ l. IsPart after start l from most (Ok part) in
    let F : ℕ → Type 0 = λ k. IsPart after start q k most (Ok part) in
    let M : ℕ → Type 0 = λ k. IsPart after start q f k (Ok part) in
    continues-answer before after start (read q f m rest) (rest part) y
    (continues-read before before after start (read q f m rest) q f m rest part (continues-start before start (read q f m rest)) g (subst M n.2 (subst F n.1 (subst Q n.0 (subst P s p))))) r

-- a read was answered, and the question goes on
pub asked_on : (before after : Option (List Op)) (start start_new : Tree) (q left : Asks (Result View ReadAnswer)) (path : Bor (List ℕ)) (from most : ℕ) (part : Option (List ℕ)) →
    IsNext q (Read path from most) → Grows before after → start_new ≡ start → IsPart after start_new path.now from most (Ok part) → left ≡ rest_of q part → Continues before start after q left
asked_on before after start start_new (answer x) left path from most part n g s p r = absurd n
asked_on before after start start_new (read q f m rest) left path from most part n g s p r =
    let P : Tree → Type 0 = λ t. IsPart after t path.now from most (Ok part) in
    let Q : List ℕ → Type 0 = λ l. IsPart after start l from most (Ok part) in
    let F : ℕ → Type 0 = λ k. IsPart after start q k most (Ok part) in
    let M : ℕ → Type 0 = λ k. IsPart after start q f k (Ok part) in
    let C : Asks (Result View ReadAnswer) → Type 0 = λ l. Continues before start after (read q f m rest) l in
    subst C (sym r)
    (continues-read before before after start (read q f m rest) q f m rest part (continues-start before start (read q f m rest)) g (subst M n.2 (subst F n.1 (subst Q n.0 (subst P s p)))))

module _ (before now next : Option (List Op)) (start start_now : Tree) (whole left rest : Asks (Result View ReadAnswer)) (asked : Continues before start now whole left) (grown : Grows before now) (same : start_now ≡ start) where
  pub goes_on : (b : Bool) → b ≡ true → Advances now start_now next left rest (Ok b) → Continues before start next whole rest
  goes_on false e a = cc
  goes_on true e a =
      let P : Tree → Type 0 = λ t. Continues now t next left rest in
      continues-trans before now next start whole left rest grown asked (subst P same a)

  pub has_ended : (b : Bool) (view : View) → b ≡ false → Advances now start_now next left rest (Ok b) → rest ≡ answer (Ok view) → MayAnswerWhereTold before start next whole (Ok view)
  has_ended true view e a r = cc
  has_ended false view e a r =
      let P : Option (List Op) → Type 0 = λ o. MayAnswerWhereTold before start o whole (Ok view) in
      subst P (sym a.2) (continues-answer before now start whole left (Ok view) asked (sym a.1 ∙ r))

  pub is_refused : (e : ReadAnswer) → Advances now start_now next left rest (Err e) → MatchBool (is_of_outside e) ⊤ (MayAnswerWhereTold before start next whole (Err e))
  is_refused e a =
      let P : Tree → Type 0 = λ t. MayAnswerWhereTold now t next left (Err e) in
      either (is_of_outside e) _ _ (λ h. continues-then before now next start whole left (Err e) grown asked (subst P same h)) a

-- ---- what was given

-- a read was answered
pub asked_gave : (g0 g1 : ℕ) (before after : Option (List Op)) (start start_new : Tree) (q : Asks (Result View ReadAnswer)) (path : Bor (List ℕ)) (from most : ℕ) (part : Option (List ℕ)) →
    IsNext q (Read path from most) → Grows before after → start_new ≡ start → RisesBy g0 g1 (size_of part) → IfSome part (λ bytes. length bytes ≤ most) → IsPart after start_new path.now from most (Ok part) → Gave g0 g1 before start after q (rest_of q part)
asked_gave g0 g1 before after start start_new (answer x) path from most part n g s rises short p = absurd n
asked_gave g0 g1 before after start start_new (read q f m rest) path from most part n g s rises short p =
    let P : Tree → Type 0 = λ t. IsPart after t path.now from most (Ok part) in
    let Q : List ℕ → Type 0 = λ l. IsPart after start l from most (Ok part) in
    let F : ℕ → Type 0 = λ k. IsPart after start q k most (Ok part) in
    let M : ℕ → Type 0 = λ k. IsPart after start q f k (Ok part) in
    let S : ℕ → Type 0 = λ k. IfSome part (λ bytes. length bytes ≤ k) in
    gave-read g0 g1 before after start q f m rest part rises g (subst S n.2 short, subst M n.2 (subst F n.1 (subst Q n.0 (subst P s p))))

module _ (g0 g1 g2 : ℕ) (before now next : Option (List Op)) (start start_now : Tree) (whole left rest : Asks (Result View ReadAnswer)) (same : start_now ≡ start) (given : Gave g0 g1 before start now whole left) where
  pub gave_on : (b : Bool) → b ≡ true → TakesStep g1 g2 now start_now next left rest (Ok b) → Gave g0 g2 before start next whole rest
  gave_on false e a = cc
  gave_on true e a = gave-both g0 g1 g2 before now next start start_now whole left rest same given a

  pub gave_all : (b : Bool) (view : View) → b ≡ false → Grows now next → TakesStep g1 g2 now start_now next left rest (Ok b) → Advances now start_now next left rest (Ok b) → rest ≡ answer (Ok view) → Gave g0 g2 before start next whole (answer (Ok view))
  gave_all true view e grown a step r = cc
  gave_all false view e grown a step r =
      let P : Asks (Result View ReadAnswer) → Type 0 = λ q. Gave g0 g2 before start next whole q in
      subst P (sym step.1 ∙ r) (gave-both g0 g1 g2 before now next start start whole left left refl given (gave-none g1 g2 now next start left a grown))

  pub gave_refused : (e : ReadAnswer) → TakesStep g1 g2 now start_now next left rest (Err e) → GaveRefused g0 g2 before start next whole e
  gave_refused e a = refused-both g0 g1 g2 before now next start start_now whole left e same given a
