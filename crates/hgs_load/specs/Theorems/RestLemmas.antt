-- Files at rest: all reads are answered from one tree.
use Rattle.std.proofs.Common.{◌≡◌, ℕ, List, [], ◌∷◌, ◌++◌, length, Option, Some, None, Result, Ok, Err, refl, sym, ◌∙◌, ap, subst, arith, length-append, append-nil}
use Rattle.std.specs.Prelude.{⊤}
use Rattle.std.specs.Bool.{MatchBool}
use Rattle.hgs_bytes.specs.Bytes.{IsPrefixOf}
use Rattle.hgs_files.specs.declared.op.Op.{Op}
use Rattle.hgs_files.specs.Tree.{Tree, after_all}
use Rattle.hgs_load.specs.declared.answer.ReadAnswer.{ReadAnswer}
use Rattle.hgs_load.specs.Answer.{is_of_outside}
use Rattle.hgs_load.specs.Asks.{Asks, answer, read, part_of, at_rest, MayAnswer, MayAnswerWhereTold, Answers, AddsAnswer}
use Rattle.hgs_load.specs.Theorems.AskLemmas.{prefix-refl, prefix-trans, either}

no_items : {A : Type 0} (l : List A) → length l ≡ 0 → l ≡ []
no_items [] h = refl
no_items (x ∷ l) h = absurd (omega arith)

pub prefix-antisym : {A : Type 0} (a b : List A) → IsPrefixOf a b → IsPrefixOf b a → b ≡ a
prefix-antisym a b f g =
    let p = ap length f.1 in
    let q = ap length g.1 in
    let none : length f.0 ≡ 0 = omega (arith, p, q, length-append a f.0, length-append b g.0) in
    f.1 ∙ ap (λ l. a ++ l) (no_items f.0 none) ∙ append-nil a

-- a question ends at a list that goes on from where it began
pub may-front : {A : Type 0} (q : Asks A) (start : Tree) (k l : List Op) (y : A) → MayAnswer start k q l y → IsPrefixOf k l
may-front (answer x) start k l y m = m.0
may-front (read path from most rest) start k l y m =
    prefix-trans k m.0 l m.1 (may-front (rest (part_of (after_all m.0 start) path from most)) start m.0 l y m.2)

pub rest_answer : {A : Type 0} (q : Asks A) (start : Tree) (k l : List Op) (y : A) → IsPrefixOf l k → MayAnswer start k q l y → y ≡ at_rest (after_all l start) q
rest_answer (answer x) start k l y p m = m.1
rest_answer (read path from most rest) start k l y p m =
    let part = part_of (after_all m.0 start) path from most in
    let on = prefix-trans l k m.0 p m.1 in
    let same : m.0 ≡ l = prefix-antisym l m.0 on (may-front (rest part) start m.0 l y m.2) in
    rest_answer (rest part) start m.0 l y on m.2
    ∙ ap (λ g. at_rest (after_all l start) (rest (part_of (after_all g start) path from most))) same

-- where nobody writes, the answer is that of the one tree
pub told_at_rest : {A : Type 0} (seen : Option (List Op)) (l : List Op) (start : Tree) (q : Asks A) (y : A) → seen ≡ Some l → MayAnswerWhereTold (Some l) start seen q y → y ≡ at_rest (after_all l start) q
told_at_rest None l start q y e m = cc
told_at_rest (Some k) l start q y e m =
    let P : List Op → Type 0 = λ g. MayAnswer start l q g y in
    let same : k ≡ l = cc in
    rest_answer q start l l y (prefix-refl l) (subst P same m)

pub answers_at_rest : {V B : Type 0} (view : V → B) (before after : Option (List Op)) (l : List Op) (start : Tree) (q : Asks (Result B ReadAnswer)) (x : V) →
    before ≡ Some l → after ≡ before → Answers view before start after q (Ok x) → at_rest (after_all l start) q ≡ Ok (view x)
answers_at_rest view before after l start q x b a h =
    let P : Option (List Op) → Type 0 = λ o. MayAnswerWhereTold o start after q (Ok (view x)) in
    sym (told_at_rest after l start q (Ok (view x)) (a ∙ b) (subst P b h))

pub refused_at_rest : {V B : Type 0} (view : V → B) (before after : Option (List Op)) (l : List Op) (start : Tree) (q : Asks (Result B ReadAnswer)) (e : ReadAnswer) →
    before ≡ Some l → after ≡ before → Answers view before start after q (Err e) → MatchBool (is_of_outside e) ⊤ (at_rest (after_all l start) q ≡ Err e)
refused_at_rest {V} {B} view before after l start q e b a h =
    let y : Result B ReadAnswer = Err e in
    let P : Option (List Op) → Type 0 = λ o. MayAnswerWhereTold o start after q y in
    either (is_of_outside e) _ _ (λ m. sym (told_at_rest after l start q y (a ∙ b) (subst P b m))) h

pub adds_at_rest : (before after : Option (List Op)) (l : List Op) (start : Tree) (q : Asks (Result (List ℕ) ReadAnswer)) (old new : List ℕ) (u : Unit) →
    before ≡ Some l → after ≡ before → AddsAnswer before start after q old new (Ok u) → (text : List ℕ) × (new ≡ old ++ text) × (at_rest (after_all l start) q ≡ Ok text)
adds_at_rest before after l start q old new u b a h =
    let P : Option (List Op) → Type 0 = λ o. MayAnswerWhereTold o start after q (Ok h.0) in
    (h.0, h.1, sym (told_at_rest after l start q (Ok h.0) (a ∙ b) (subst P b h.2)))

pub adds_refused_at_rest : (before after : Option (List Op)) (l : List Op) (start : Tree) (q : Asks (Result (List ℕ) ReadAnswer)) (old new : List ℕ) (e : ReadAnswer) →
    before ≡ Some l → after ≡ before → AddsAnswer before start after q old new (Err e) → (new ≡ old) × MatchBool (is_of_outside e) ⊤ (at_rest (after_all l start) q ≡ Err e)
adds_refused_at_rest before after l start q old new e b a h =
    let y : Result (List ℕ) ReadAnswer = Err e in
    let P : Option (List Op) → Type 0 = λ o. MayAnswerWhereTold o start after q y in
    (h.0, either (is_of_outside e) _ _ (λ m. sym (told_at_rest after l start q y (a ∙ b) (subst P b m))) h.1)
