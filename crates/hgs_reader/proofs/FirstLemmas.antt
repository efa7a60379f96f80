-- What is asked behind the first piece of an index.
use Rattle.std.proofs.Common.{◌≡◌, ℕ, ◌≤◌, List, [], length, Bool, true, false, cond, Option, Result, Ok, Err, sym, ◌∙◌, ap, subst}
use Rattle.std.specs.Prelude.{unwrap_or, IfSome}
use Rattle.hgs_files.specs.declared.op.Op.{Op}
use Rattle.hgs_files.specs.Reads.{Grows}
use Rattle.hgs_files.specs.Tree.{Tree}
use Rattle.hgs_index.specs.Inline.{is_inline}
use Rattle.hgs_load.specs.declared.answer.ReadAnswer.{ReadAnswer}
use Rattle.hgs_load.specs.Answer.{is_of_outside}
use Rattle.hgs_load.specs.Asks.{Asks, answer, read, Answers, IsPart, MayAnswerWhereTold}
use Rattle.hgs_load.specs.Given.{RisesBy, size_of, Takes}
use Rattle.hgs_load.specs.View.{piece_length}
use Rattle.hgs_load.specs.Theorems.AskLemmas.{continues-read, continues-start, continues-then, either}
use Rattle.hgs_load.specs.Theorems.GivenLemmas.{gave-both, gave-read, refused-both}
use Rattle.hgs_reader.specs.Find.{inline_behind, separate_behind, text_asks}

told-read : {B : Type 0} (before now next : Option (List Op)) (start start_now : Tree) (path : List ℕ) (from most : ℕ) (rest : Option (List ℕ) → Asks B) (part : Option (List ℕ)) (y : B) →
    Grows before now → start_now ≡ start → IsPart now start_now path from most (Ok part) → MayAnswerWhereTold now start_now next (rest part) y → MayAnswerWhereTold before start next (read path from most rest) y
told-read before now next start start_now path from most rest part y g s p h =
    let P : Tree → Type 0 = λ t. IsPart now t path from most (Ok part) in
    let Q : Tree → Type 0 = λ t. MayAnswerWhereTold now t next (rest part) y in
    continues-then before now next start (read path from most rest) (rest part) y g
    (continues-read before before now start (read path from most rest) path from most rest part (continues-start before start (read path from most rest)) g (subst P s p)) (subst Q s h)

-- a read, and what was answered behind it
answers-read : {V B : Type 0} (view : V → B) (before now next : Option (List Op)) (start start_now : Tree) (path : List ℕ) (from most : ℕ) (rest : Option (List ℕ) → Asks (Result B ReadAnswer)) (part : Option (List ℕ)) (r : Result V ReadAnswer) →
    Grows before now → start_now ≡ start → IsPart now start_now path from most (Ok part) → Answers view now start_now next (rest part) r → Answers view before start next (read path from most rest) r
answers-read view before now next start start_now path from most rest part (Ok x) g s p h = told-read before now next start start_now path from most rest part (Ok (view x)) g s p h
answers-read view before now next start start_now path from most rest part (Err e) g s p h =
    either (is_of_outside e) _ _ (λ m. told-read before now next start start_now path from most rest part (Err e) g s p m) h

takes-read : {V B : Type 0} (view : V → B) (g0 g1 g2 : ℕ) (before now next : Option (List Op)) (start start_now : Tree) (path : List ℕ) (from most : ℕ) (rest : Option (List ℕ) → Asks (Result B ReadAnswer)) (part : Option (List ℕ)) (r : Result V ReadAnswer) →
    RisesBy g0 g1 (size_of part) → IfSome part (λ b. length b ≤ most) → Grows before now → start_now ≡ start → IsPart now start_now path from most (Ok part) → Takes view g1 g2 now start_now next (rest part) r → Takes view g0 g2 before start next (read path from most rest) r
takes-read {B = B} view g0 g1 g2 before now next start start_now path from most rest part (Ok x) rises short g s p h =
    let P : Tree → Type 0 = λ t. IsPart now t path from most (Ok part) in
    gave-both g0 g1 g2 before now next start start_now (read path from most rest) (rest part) (answer (Ok (view x))) s (gave-read g0 g1 before now start path from most rest part rises g (short, subst P s p)) h
takes-read view g0 g1 g2 before now next start start_now path from most rest part (Err e) rises short g s p h =
    let P : Tree → Type 0 = λ t. IsPart now t path from most (Ok part) in
    refused-both g0 g1 g2 before now next start start_now (read path from most rest) (rest part) e s (gave-read g0 g1 before now start path from most rest part rises g (short, subst P s p)) h

module _ {V : Type 0} (view : V → List ℕ) (g0 g1 g2 : ℕ) (before now next : Option (List Op)) (start start_now : Tree) (index chunks node first : List ℕ) (part : Option (List ℕ)) (r : Result V ReadAnswer)
    (rises : RisesBy g0 g1 (size_of part)) (short : IfSome part (λ b. length b ≤ piece_length)) (g : Grows before now) (s : start_now ≡ start) (p : IsPart now start_now index 0 piece_length (Ok part)) (is : first ≡ unwrap_or part []) where
  abbrev after : Bool → Asks (Result (List ℕ) ReadAnswer)
  after b = cond b (inline_behind index node (unwrap_or part [])) (separate_behind index chunks node (unwrap_or part []))

  pub inline-takes : is_inline first ≡ true → Takes view g1 g2 now start_now next (inline_behind index node first) r → Takes view g0 g2 before start next (text_asks index chunks node) r
  inline-takes t h =
      let P : List ℕ → Type 0 = λ l. Takes view g1 g2 now start_now next (inline_behind index node l) r in
      let Q : Bool → Type 0 = λ b. Takes view g1 g2 now start_now next (after b) r in
      takes-read view g0 g1 g2 before now next start start_now index 0 piece_length (λ first. cond (is_inline (unwrap_or first [])) (inline_behind index node (unwrap_or first [])) (separate_behind index chunks node (unwrap_or first []))) part r rises short g s p
      (subst Q (sym t ∙ ap is_inline is) (subst P is h))

  pub separate-takes : is_inline first ≡ false → Takes view g1 g2 now start_now next (separate_behind index chunks node first) r → Takes view g0 g2 before start next (text_asks index chunks node) r
  separate-takes t h =
      let P : List ℕ → Type 0 = λ l. Takes view g1 g2 now start_now next (separate_behind index chunks node l) r in
      let Q : Bool → Type 0 = λ b. Takes view g1 g2 now start_now next (after b) r in
      takes-read view g0 g1 g2 before now next start start_now index 0 piece_length (λ first. cond (is_inline (unwrap_or first [])) (inline_behind index node (unwrap_or first [])) (separate_behind index chunks node (unwrap_or first []))) part r rises short g s p
      (subst Q (sym t ∙ ap is_inline is) (subst P is h))

module _ {V : Type 0} (view : V → List ℕ) (before now next : Option (List Op)) (start start_now : Tree) (index chunks node first : List ℕ) (part : Option (List ℕ)) (r : Result V ReadAnswer)
    (g : Grows before now) (s : start_now ≡ start) (p : IsPart now start_now index 0 piece_length (Ok part)) (is : first ≡ unwrap_or part []) where
  abbrev rest : Bool → Asks (Result (List ℕ) ReadAnswer)
  rest b = cond b (inline_behind index node (unwrap_or part [])) (separate_behind index chunks node (unwrap_or part []))

  pub first-inline : is_inline first ≡ true → Answers view now start_now next (inline_behind index node first) r → Answers view before start next (text_asks index chunks node) r
  first-inline t h =
      let P : List ℕ → Type 0 = λ l. Answers view now start_now next (inline_behind index node l) r in
      let Q : Bool → Type 0 = λ b. Answers view now start_now next (rest b) r in
      answers-read view before now next start start_now index 0 piece_length (λ first. cond (is_inline (unwrap_or first [])) (inline_behind index node (unwrap_or first [])) (separate_behind index chunks node (unwrap_or first []))) part r g s p
      (subst Q (sym t ∙ ap is_inline is) (subst P is h))

  pub first-separate : is_inline first ≡ false → Answers view now start_now next (separate_behind index chunks node first) r → Answers view before start next (text_asks index chunks node) r
  first-separate t h =
      let P : List ℕ → Type 0 = λ l. Answers view now start_now next (separate_behind index chunks node l) r in
      let Q : Bool → Type 0 = λ b. Answers view now start_now next (rest b) r in
      answers-read view before now next start start_now index 0 piece_length (λ first. cond (is_inline (unwrap_or first [])) (inline_behind index node (unwrap_or first [])) (separate_behind index chunks node (unwrap_or first []))) part r g s p
      (subst Q (sym t ∙ ap is_inline is) (subst P is h))
