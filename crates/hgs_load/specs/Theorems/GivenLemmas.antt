-- How many bytes a question was given, one read after another.
use Rattle.std.proofs.Common.{◌≡◌, inl, inr, ℕ, ◌+◌, Bool, true, false, List, Option, Result, Ok, Err, refl, sym, ap, subst, arith}
use Rattle.std.specs.Prelude.{⊤, IsErr, IsErrAnd}
use Rattle.std.specs.Bool.{MatchBool}
use Rattle.hgs_bytes.specs.Answer.{Gives}
use Rattle.hgs_files.specs.declared.op.Op.{Op}
use Rattle.hgs_files.specs.Reads.{Grows}
use Rattle.hgs_files.specs.Tree.{Tree}
use Rattle.hgs_load.specs.declared.answer.ReadAnswer.{ReadAnswer}
use Rattle.hgs_load.specs.declared.answer.ReadAnswer.TheVariants.{Memory}
use Rattle.hgs_load.specs.Answer.{is_of_outside}
use Rattle.hgs_load.specs.Asks.{Asks, answer, read, then_asks, AddsGiven}
use Rattle.hgs_load.specs.Given.{RisesBy, size_of, IsAnswer, GoesTo, Gave, GaveRefused, Takes, TakesText}
use Rattle.hgs_load.specs.Theorems.AskLemmas.{grows-refl, grows-trans}

-- ---- counts

pub rises-none : (n : ℕ) → RisesBy n n 0
rises-none n = record { later = omega arith; at_most = omega arith; exact = λ h. omega arith }

pub rises-same : (old new : ℕ) → new ≡ old → RisesBy old new 0
rises-same old new e = record { later = omega (arith, e); at_most = omega (arith, e); exact = λ h. omega (arith, e) }

pub rises-both : (a b c n m : ℕ) → RisesBy a b n → RisesBy b c m → RisesBy a c (n + m)
rises-both a b c n m h k =
    let l1 = h.later in
    let l2 = k.later in
    let m1 = h.at_most in
    let m2 = k.at_most in
    record {
      later = omega (arith, l1, l2);
      at_most = omega (arith, m1, m2);
      exact = λ below.
          (let second = k.exact below in
          let first = h.exact (omega (arith, l2, below)) in
          omega (arith, first, second));
    }

-- ---- the way of a question

-- nothing was read
pub go-start : {A : Type 0} (start : Tree) (before after : Option (List Op)) (q : Asks A) → Grows before after → GoesTo start before q 0 after q
go-start start before after (answer x) g = (g, refl, refl)
go-start start before after (read path from most rest) g = inl (g, refl, refl)

go-earlier : {A : Type 0} (start : Tree) (a b c : Option (List Op)) (q left : Asks A) (n : ℕ) → Grows a b → GoesTo start b q n c left → GoesTo start a q n c left
go-earlier start a b c (answer x) left n g h = (grows-trans a b c g h.0, h.1, h.2)
go-earlier start a b c (read path from most rest) left n g (inl h) = inl (grows-trans a b c g h.0, h.1, h.2)
go-earlier start a b c (read path from most rest) left n g (inr h) = inr (h.0, h.1, h.2, grows-trans a b h.0 g h.3, h.4, h.5, h.6)

go-on : {A : Type 0} (start : Tree) (a b c : Option (List Op)) (q left rest : Asks A) (n m : ℕ) → n ≡ 0 → left ≡ q → Grows a b → GoesTo start b left m c rest → GoesTo start a q (n + m) c rest
go-on {A} start a b c q left rest n m none same g h =
    let P : Asks A → Type 0 = λ l. GoesTo start b l m c rest in
    let Q : ℕ → Type 0 = λ k. GoesTo start a q k c rest in
    let count : m ≡ n + m = omega (arith, none) in
    subst Q count (go-earlier start a b c q rest m g (subst P same h))

pub go-both : {A : Type 0} (start : Tree) (a b c : Option (List Op)) (q left rest : Asks A) (n m : ℕ) → GoesTo start a q n b left → GoesTo start b left m c rest → GoesTo start a q (n + m) c rest
go-both start a b c (answer x) left rest n m h k = go-on start a b c (answer x) left rest n m h.1 h.2 h.0 k
go-both start a b c (read path from most more) left rest n m (inl h) k = go-on start a b c (read path from most more) left rest n m h.1 h.2 h.0 k
go-both start a b c (read path from most more) left rest n m (inr h) k =
    let sum = h.5 in
    inr (h.0, h.1, h.2 + m, h.3, h.4, omega (arith, sum), go-both start h.0 b c (more h.1) left rest h.2 m h.6 k)

-- one read was answered
pub go-read : {A : Type 0} (start : Tree) (before after : Option (List Op)) (path : List ℕ) (from most : ℕ) (rest : Option (List ℕ) → Asks A) (part : Option (List ℕ)) → Grows before after → IsAnswer after start path from most part → GoesTo start before (read path from most rest) (size_of part) after (rest part)
go-read start before after path from most rest part g h = inr (after, part, 0, g, h, omega arith, go-start start after after (rest part) (grows-refl after))

-- a way of the first question is one of both
pub go-then : {A B : Type 0} (start : Tree) (a b : Option (List Op)) (q left : Asks (Result A ReadAnswer)) (more : A → Asks (Result B ReadAnswer)) (n : ℕ) → GoesTo start a q n b left → GoesTo start a (then_asks q more) n b (then_asks left more)
go-then {A} {B} start a b (answer x) left more n h =
    let P : Asks (Result A ReadAnswer) → Type 0 = λ l. GoesTo start a (then_asks (answer x) more) n b (then_asks l more) in
    let Q : ℕ → Type 0 = λ k. GoesTo start a (then_asks (answer x) more) k b (then_asks (answer x) more) in
    subst P (sym h.2) (subst Q (sym h.1) (go-start start a b (then_asks (answer x) more) h.0))
go-then start a b (read path from most rest) left more n (inl h) = inl (h.0, h.1, ap (λ l. then_asks l more) h.2)
go-then start a b (read path from most rest) left more n (inr h) = inr (h.0, h.1, h.2, h.3, h.4, h.5, go-then start h.0 b (rest h.1) left more h.2 h.6)

-- ---- what was given

pub gave-none : {A : Type 0} (old new : ℕ) (before after : Option (List Op)) (start : Tree) (q : Asks A) → new ≡ old → Grows before after → Gave old new before start after q q
gave-none old new before after start q e g = (0, rises-same old new e, go-start start before after q g)

pub gave-read : {A : Type 0} (old new : ℕ) (before after : Option (List Op)) (start : Tree) (path : List ℕ) (from most : ℕ) (rest : Option (List ℕ) → Asks A) (part : Option (List ℕ)) → RisesBy old new (size_of part) → Grows before after → IsAnswer after start path from most part → Gave old new before start after (read path from most rest) (rest part)
gave-read old new before after start path from most rest part rises g h = (size_of part, rises, go-read start before after path from most rest part g h)

pub gave-both : {A : Type 0} (g0 g1 g2 : ℕ) (before now next : Option (List Op)) (start start_now : Tree) (q left rest : Asks A) → start_now ≡ start → Gave g0 g1 before start now q left → Gave g1 g2 now start_now next left rest → Gave g0 g2 before start next q rest
gave-both g0 g1 g2 before now next start start_now q left rest s h k =
    let P : Tree → Type 0 = λ t. GoesTo t now left k.0 next rest in
    (h.0 + k.0, rises-both g0 g1 g2 h.0 k.0 h.1 k.1, go-both start before now next q left rest h.0 k.0 h.2 (subst P s k.2))

pub gave-then : {A B : Type 0} (old new : ℕ) (before after : Option (List Op)) (start : Tree) (q left : Asks (Result A ReadAnswer)) (more : A → Asks (Result B ReadAnswer)) → Gave old new before start after q left → Gave old new before start after (then_asks q more) (then_asks left more)
gave-then old new before after start q left more h = (h.0, h.1, go-then start before after q left more h.0 h.2)

-- ---- refusals

pub refused-by : (b : Bool) (P Q R S : Type 0) → (P → R) → (Q → S) → MatchBool b P Q → MatchBool b R S
refused-by true P Q R S f g m = f m
refused-by false P Q R S f g m = g m

-- the outside refused before anything was read
pub refused-first : {B : Type 0} (old new : ℕ) (before after : Option (List Op)) (start : Tree) (q : Asks (Result B ReadAnswer)) (e : ReadAnswer) → is_of_outside e ≡ true → new ≡ old → Grows before after → GaveRefused old new before start after q e
refused-first {B} old new before after start q e outside same g =
    let P : Bool → Type 0 = λ b. MatchBool b ((left : Asks (Result B ReadAnswer)) × Gave old new before start after q left) (Gave old new before start after q (answer (Err e))) in
    subst P (sym outside) (q, gave-none old new before after start q same g)

-- what is left is this refusal, or the outside refused behind it
pub refused-behind : {B : Type 0} (g0 g1 : ℕ) (before after : Option (List Op)) (start : Tree) (q left : Asks (Result B ReadAnswer)) (e : ReadAnswer) → Gave g0 g1 before start after q left → MatchBool (is_of_outside e) ⊤ (left ≡ answer (Err e)) → GaveRefused g0 g1 before start after q e
refused-behind {B} g0 g1 before after start q left e h m =
    refused-by (is_of_outside e) ⊤ (left ≡ answer (Err e)) ((l : Asks (Result B ReadAnswer)) × Gave g0 g1 before start after q l) (Gave g0 g1 before start after q (answer (Err e)))
    (λ t. (left, h)) (λ is. let P : Asks (Result B ReadAnswer) → Type 0 = λ l. Gave g0 g1 before start after q l in subst P is h) m

-- a way, and a refusal behind it
pub refused-both : {B : Type 0} (g0 g1 g2 : ℕ) (before now next : Option (List Op)) (start start_now : Tree) (q left : Asks (Result B ReadAnswer)) (e : ReadAnswer) → start_now ≡ start → Gave g0 g1 before start now q left → GaveRefused g1 g2 now start_now next left e → GaveRefused g0 g2 before start next q e
refused-both {B} g0 g1 g2 before now next start start_now q left e s h k =
    refused-by (is_of_outside e) ((l : Asks (Result B ReadAnswer)) × Gave g1 g2 now start_now next left l) (Gave g1 g2 now start_now next left (answer (Err e))) ((l : Asks (Result B ReadAnswer)) × Gave g0 g2 before start next q l) (Gave g0 g2 before start next q (answer (Err e)))
    (λ m. (m.0, gave-both g0 g1 g2 before now next start start_now q left m.0 s h m.1)) (λ m. gave-both g0 g1 g2 before now next start start_now q left (answer (Err e)) s h m) k

-- a refusal of the first question is one of both
pub refused-then : {A B : Type 0} (old new : ℕ) (before after : Option (List Op)) (start : Tree) (q : Asks (Result A ReadAnswer)) (more : A → Asks (Result B ReadAnswer)) (e : ReadAnswer) → GaveRefused old new before start after q e → GaveRefused old new before start after (then_asks q more) e
refused-then {A} {B} old new before after start q more e k =
    refused-by (is_of_outside e) ((l : Asks (Result A ReadAnswer)) × Gave old new before start after q l) (Gave old new before start after q (answer (Err e))) ((l : Asks (Result B ReadAnswer)) × Gave old new before start after (then_asks q more) l) (Gave old new before start after (then_asks q more) (answer (Err e)))
    (λ m. (then_asks m.0 more, gave-then old new before after start q m.0 more m.1)) (λ m. gave-then old new before after start q (answer (Err e)) more m) k

-- ---- calls

-- the first question was answered, and then the next one with its answer
pub takes-then : {V W A B : Type 0} (view : V → A) (view_next : W → B) (g0 g1 g2 : ℕ) (before now next : Option (List Op)) (start start_now : Tree) (q : Asks (Result A ReadAnswer)) (more : A → Asks (Result B ReadAnswer)) (x : V) (r : Result W ReadAnswer) →
    start_now ≡ start → Takes view g0 g1 before start now q (Ok x) → Takes view_next g1 g2 now start_now next (more (view x)) r → Takes view_next g0 g2 before start next (then_asks q more) r
takes-then view view_next g0 g1 g2 before now next start start_now q more x (Ok y) s h k =
    gave-both g0 g1 g2 before now next start start_now (then_asks q more) (more (view x)) (answer (Ok (view_next y))) s (gave-then g0 g1 before now start q (answer (Ok (view x))) more h) k
takes-then view view_next g0 g1 g2 before now next start start_now q more x (Err e) s h k =
    refused-both g0 g1 g2 before now next start start_now (then_asks q more) (more (view x)) e s (gave-then g0 g1 before now start q (answer (Ok (view x))) more h) k

refusal-asked : {A : Type 0} (b : Bool) (given : Result A ReadAnswer) (e : ReadAnswer) → MatchBool b ⊤ (given ≡ Err e) → MatchBool b ⊤ ((let q : Asks (Result A ReadAnswer) = answer given in q) ≡ answer (Err e))
refusal-asked true given e m = tt
refusal-asked false given e m = ap answer m

-- what is left gives the answer
pub takes-ended : {V A : Type 0} (view : V → A) (g0 g1 : ℕ) (before after : Option (List Op)) (start : Tree) (q : Asks (Result A ReadAnswer)) (given : Result A ReadAnswer) (r : Result V ReadAnswer) → Gave g0 g1 before start after q (answer given) → Gives is_of_outside view r given → Takes view g0 g1 before start after q r
takes-ended {V} {A} view g0 g1 before after start q given (Ok x) gave h =
    let P : Result A ReadAnswer → Type 0 = λ y. Gave g0 g1 before start after q (answer y) in
    subst P h gave
takes-ended {V} {A} view g0 g1 before after start q given (Err e) gave h = refused-behind g0 g1 before after start q (answer given) e gave (refusal-asked (is_of_outside e) given e h)

-- what is answered without a read
pub takes-given : {V A : Type 0} (view : V → A) (old new : ℕ) (seen : Option (List Op)) (start : Tree) (given : Result A ReadAnswer) (r : Result V ReadAnswer) → new ≡ old → Gives is_of_outside view r given → Takes view old new seen start seen (answer given) r
takes-given view old new seen start given r same h = takes-ended view old new seen seen start (answer given) given r (gave-none old new seen seen start (answer given) same (grows-refl seen)) h

-- ---- calls that add a text

pub text-then : {V A : Type 0} (view : V → A) (g0 g1 g2 : ℕ) (before now next : Option (List Op)) (start start_now : Tree) (q : Asks (Result A ReadAnswer)) (more : A → Asks (Result (List ℕ) ReadAnswer)) (x : V) (old new : List ℕ) (r : Result Unit ReadAnswer) →
    start_now ≡ start → Takes view g0 g1 before start now q (Ok x) → TakesText g1 g2 now start_now next (more (view x)) old new r → TakesText g0 g2 before start next (then_asks q more) old new r
text-then view g0 g1 g2 before now next start start_now q more x old new (Ok u) s h k =
    (k.0, k.1, gave-both g0 g1 g2 before now next start start_now (then_asks q more) (more (view x)) (answer (Ok k.0)) s (gave-then g0 g1 before now start q (answer (Ok (view x))) more h) k.2)
text-then view g0 g1 g2 before now next start start_now q more x old new (Err e) s h k =
    refused-both g0 g1 g2 before now next start start_now (then_asks q more) (more (view x)) e s (gave-then g0 g1 before now start q (answer (Ok (view x))) more h) k

pub text-given : (g0 g1 : ℕ) (seen : Option (List Op)) (start : Tree) (given : Result (List ℕ) ReadAnswer) (old new : List ℕ) (r : Result Unit ReadAnswer) → g1 ≡ g0 → AddsGiven given old new r → TakesText g0 g1 seen start seen (answer given) old new r
text-given g0 g1 seen start given old new (Ok u) same h =
    let P : Result (List ℕ) ReadAnswer → Type 0 = λ y. Gave g0 g1 seen start seen (answer given) (answer y) in
    (h.0, h.1, subst P h.2 (gave-none g0 g1 seen seen start (answer given) same (grows-refl seen)))
text-given g0 g1 seen start given old new (Err e) same h = takes-given {V = List ℕ} (λ text. text) g0 g1 seen start given (Err e) same h.1

pub text-behind : {A : Type 0} (g0 g1 : ℕ) (before after : Option (List Op)) (start : Tree) (given : Result A ReadAnswer) (more : A → Asks (Result (List ℕ) ReadAnswer)) (x : A) (old new : List ℕ) (r : Result Unit ReadAnswer) →
    given ≡ Ok x → TakesText g0 g1 before start after (more x) old new r → TakesText g0 g1 before start after (then_asks (answer given) more) old new r
text-behind {A} g0 g1 before after start given more x old new r e h =
    let P : Result A ReadAnswer → Type 0 = λ q. TakesText g0 g1 before start after (then_asks (answer q) more) old new r in
    subst P (sym e) h

-- ---- a refusal that is handed on by `?`

pub handed-on : {V : Type 0} (P : Result V ReadAnswer → Type 0) (r : Result V ReadAnswer) (e : ReadAnswer) → IsErr r → IsErrAnd r (λ x. x ≡ e) → P (Err e) → P r
handed-on P (Ok x) e i a p = cc
handed-on P (Err x) e i a p = subst (λ z. P (Err z)) (sym a) p

-- a read was refused before any was answered
pub takes-refused-read : {V B : Type 0} (view : V → B) (old new : ℕ) (before after : Option (List Op)) (start : Tree) (q : Asks (Result B ReadAnswer)) (r : Result V ReadAnswer) (e : ReadAnswer) →
    IsErr r → IsErrAnd r (λ x. x ≡ e) → is_of_outside e ≡ true → new ≡ old → Grows before after → Takes view old new before start after q r
takes-refused-read {V} {B} view old new before after start q r e i a outside same g =
    let P : Result V ReadAnswer → Type 0 = λ x. Takes view old new before start after q x in
    handed-on P r e i a (refused-first old new before after start q e outside same g)

-- there was no memory before anything was read
pub takes-no-memory : {V B : Type 0} (view : V → B) (given : ℕ) (seen : Option (List Op)) (start : Tree) (q : Asks (Result B ReadAnswer)) (r : Result V ReadAnswer) → IsErr r → IsErrAnd r (λ x. x ≡ Memory) → Takes view given given seen start seen q r
takes-no-memory view given seen start q r i a = takes-refused-read view given given seen seen start q r Memory i a refl refl (grows-refl seen)

pub text-refused-read : (g0 g1 : ℕ) (before after : Option (List Op)) (start : Tree) (q : Asks (Result (List ℕ) ReadAnswer)) (old new : List ℕ) (r : Result Unit ReadAnswer) (e : ReadAnswer) →
    IsErr r → IsErrAnd r (λ x. x ≡ e) → is_of_outside e ≡ true → g1 ≡ g0 → Grows before after → TakesText g0 g1 before start after q old new r
text-refused-read g0 g1 before after start q old new r e i a outside same g =
    let P : Result Unit ReadAnswer → Type 0 = λ x. TakesText g0 g1 before start after q old new x in
    handed-on P r e i a (refused-first g0 g1 before after start q e outside same g)

pub text-no-memory : (given : ℕ) (seen : Option (List Op)) (start : Tree) (q : Asks (Result (List ℕ) ReadAnswer)) (old new : List ℕ) (r : Result Unit ReadAnswer) → IsErr r → IsErrAnd r (λ x. x ≡ Memory) → TakesText given given seen start seen q old new r
text-no-memory given seen start q old new r i a = text-refused-read given given seen seen start q old new r Memory i a refl refl (grows-refl seen)

-- there was no memory for the text behind what was read
pub text-lost : (g0 g1 : ℕ) (before after : Option (List Op)) (start : Tree) (q left : Asks (Result (List ℕ) ReadAnswer)) (old new : List ℕ) (r : Result Unit ReadAnswer) → IsErr r → IsErrAnd r (λ x. x ≡ Memory) → Gave g0 g1 before start after q left → TakesText g0 g1 before start after q old new r
text-lost g0 g1 before after start q left old new r i a gave =
    let P : Result Unit ReadAnswer → Type 0 = λ x. TakesText g0 g1 before start after q old new x in
    handed-on P r Memory i a (left, gave)
