-- Questions one after another, and the lines of `log`.
use Rattle.std.proofs.Common.{◌≡◌, ℕ, zero, suc, ◌+◌, ◌<◌, List, [], ◌++◌, Option, Some, None, Result, Ok, Err, refl, sym, ◌∙◌, ap, subst, append_assoc, append-nil, arith}
use Rattle.std.specs.Prelude.{⊤}
use Rattle.std.specs.Bool.{MatchBool}
use Rattle.hgs_bytes.specs.Bytes.{IsPrefixOf}
use Rattle.hgs_files.specs.Reads.{Grows}
use Rattle.hgs_files.specs.Tree.{Tree, after_all}
use Rattle.hgs_files.specs.declared.op.Op.{Op}
use Rattle.hgs_load.specs.Answer.{is_of_outside, status_of}
use Rattle.hgs_load.specs.Asks.{AddsAnswer, Asks, answer, read, part_of, MayAnswer, MayAnswerWhereTold}
use Rattle.hgs_load.specs.View.{View}
use Rattle.hgs_load.specs.declared.answer.ReadAnswer.{ReadAnswer}
use Rattle.hgs_load.specs.declared.answer.ReadAnswer.TheVariants.{Damaged, Fault, Limit, UnknownPath, NotARepository, Requirement, Memory}
use Rattle.hgs_load.specs.Theorems.AskLemmas.{either, prefix-refl, prefix-trans}
use Rattle.hgs_reader.specs.Line.{line_asks}
use Rattle.hgs_script.specs.declared.result.Answered.{Answered}
use Rattle.hgs_questions.specs.Questions.{line_before, newest_asks, text_asks, with_answer}
use Rattle.hgs_questions.specs.Said.{behind, refused, said, said_of}

-- ---- one question after another

-- what may be answered from a later list on may be so from an earlier one on, and up to a later one
pub may-earlier : {A : Type 0} (start : Tree) (first mid last : List Op) (q : Asks A) (y : A) → IsPrefixOf first mid → MayAnswer start mid q last y → MayAnswer start first q last y
may-earlier start first mid last (answer x) y f h = (prefix-trans first mid last f h.0, h.1)
may-earlier start first mid last (read path from most rest) y f h = (h.0, prefix-trans first mid h.0 f h.1, h.2)

pub may-later : {A : Type 0} (start : Tree) (first mid last : List Op) (q : Asks A) (y : A) → IsPrefixOf mid last → MayAnswer start first q mid y → MayAnswer start first q last y
may-later start first mid last (answer x) y f h = (prefix-trans first mid last h.0 f, h.1)
may-later start first mid last (read path from most rest) y f h = (h.0, h.1, may-later start h.0 mid last (rest (part_of (after_all h.0 start) path from most)) y f h.2)

pub may-with : {A B : Type 0} (start : Tree) (first mid last : List Op) (q : Asks A) (more : A → Asks B) (x : A) (y : B) → MayAnswer start first q mid x → MayAnswer start mid (more x) last y → MayAnswer start first (with_answer q more) last y
may-with {A} {B} start first mid last (answer a) more x y h k =
    let P : A → Type 0 = λ z. MayAnswer start mid (more z) last y in
    may-earlier start first mid last (more a) y h.0 (subst P h.1 k)
may-with start first mid last (read path from most rest) more x y h k = (h.0, h.1, may-with start h.0 mid last (rest (part_of (after_all h.0 start) path from most)) more x y h.2 k)

pub may-apart : {A B : Type 0} (start : Tree) (first last : List Op) (q : Asks A) (more : A → Asks B) (y : B) → MayAnswer start first (with_answer q more) last y → (mid : List Op) × (x : A) × MayAnswer start first q mid x × MayAnswer start mid (more x) last y
may-apart start first last (answer a) more y h = (first, a, (prefix-refl first, refl), h)
may-apart start first last (read path from most rest) more y h =
    let s = may-apart start h.0 last (rest (part_of (after_all h.0 start) path from most)) more y h.2 in
    (s.0, s.1, (h.0, h.1, s.2), s.3)

-- ---- the lines of `log`

-- a refusal is no whole text
refused-not : (e : ReadAnswer) → 0 ≡ status_of e → ⊥
refused-not (Damaged d) h = omega arith
refused-not Fault h = omega arith
refused-not (Limit w) h = omega arith
refused-not UnknownPath h = omega arith
refused-not NotARepository h = omega arith
refused-not (Requirement w) h = omega arith
refused-not Memory h = omega arith

-- what is told behind the lines below the newest one is told behind it too
onto : (start : Tree) (view : View) (count more top : ℕ) (first mid now next : List Op) (text : List ℕ) (w : Answered) (r : Result (List ℕ) ReadAnswer) →
    ((m : List Op) (t : List ℕ) → IsPrefixOf m now → MayAnswer start mid (newest_asks view count top) m (said t) → MayAnswer start mid (newest_asks view more top) next (behind t w)) →
    MayAnswer start first (line_asks view top) mid r → MayAnswer start mid (line_before r (newest_asks view count top)) now (said text) → MayAnswer start first (newest_asks view (suc more) (suc top)) next (behind text w)
onto start view count more top first mid now next text w (Err e) below h k = absurd (refused-not e (ap (λ (a : Answered). a.status) k.1))
onto start view count more top first mid now next text w (Ok head) below h k =
    let s = may-apart start mid now (newest_asks view count top) (λ (a : Answered). answer (behind head a)) (said text) k in
    let a : Answered = s.1 in
    let P : ℕ → Type 0 = λ status. MayAnswer start mid (newest_asks view count top) s.0 (record { status = status; text = a.text }) in
    let whole : MayAnswer start mid (newest_asks view count top) s.0 (said a.text) = subst P (sym (ap (λ (a : Answered). a.status) s.3.1)) s.2 in
    let is : text ≡ head ++ a.text = ap (λ (a : Answered). a.text) s.3.1 in
    let same : behind text w ≡ behind head (behind a.text w) = ap (λ t. let b : Answered = record { status = w.status; text = t } in b) (ap (λ t. t ++ w.text) is ∙ append_assoc head a.text w.text) in
    may-with start first mid next (line_asks view top) (λ line. line_before line (newest_asks view more top)) (Ok head) (behind text w) h
    (may-with start mid next next (newest_asks view more top) (λ (a : Answered). answer (behind head a)) (behind a.text w) (behind text w) (below s.0 a.text s.3.0 whole) (prefix-refl next, same))

-- the first line, whatever comes of it
first-line : (start : Tree) (view : View) (more rev : ℕ) (first now next : List Op) (text : List ℕ) (e : ReadAnswer) → MayAnswer start first (answer (said [])) now (said text) → MayAnswer start now (line_asks view rev) next (Err e) → MayAnswer start first (newest_asks view (suc more) (suc rev)) next (behind text (refused e))
first-line start view more rev first now next text e h k =
    may-with start first next next (line_asks view rev) (λ line. line_before line (newest_asks view more rev)) (Err e) (behind text (refused e)) (may-earlier start first now next (line_asks view rev) (Err e) h.0 k)
    (prefix-refl next, ap (λ t. behind t (refused e)) (ap (λ (a : Answered). a.text) h.1))

-- one more line was told
line-on : (start : Tree) (view : View) (count len rev : ℕ) (first now next : List Op) (text line : List ℕ) → count + suc rev ≡ len → MayAnswer start first (newest_asks view count len) now (said text) → MayAnswer start now (line_asks view rev) next (Ok line) →
    MayAnswer start first (newest_asks view (suc count) len) next (said (text ++ line))
line-on start view zero len rev first now next text line e h k =
    let P : ℕ → Type 0 = λ n. MayAnswer start first (newest_asks view 1 n) next (said (text ++ line)) in
    let is : suc rev ≡ len = omega arith in
    let empty : text ≡ [] = ap (λ (a : Answered). a.text) h.1 in
    subst P is
    (may-with start first next next (line_asks view rev) (λ line. line_before line (newest_asks view 0 rev)) (Ok line) (said (text ++ line)) (may-earlier start first now next (line_asks view rev) (Ok line) h.0 k)
    (prefix-refl next, ap said (ap (λ t. t ++ line) empty ∙ sym (append-nil line))))
line-on start view (suc count) zero rev first now next text line e h k = absurd (omega arith)
line-on start view (suc count) (suc top) rev first now next text line e h k =
    let s = may-apart start first now (line_asks view top) (λ line. line_before line (newest_asks view count top)) (said text) h in
    let less : count + suc rev ≡ top = omega arith in
    onto start view count (suc count) top first s.0 now next text (said line) s.1
    (λ m t f b. line-on start view count top rev s.0 m next t line less b (may-earlier start m now next (line_asks view rev) (Ok line) f k)) s.2 s.3

-- a line was refused, which ends all lists of more lines
line-refused : (start : Tree) (view : View) (count more len rev : ℕ) (first now next : List Op) (text : List ℕ) (refusal : ReadAnswer) → count + suc rev ≡ len → count < more → MayAnswer start first (newest_asks view count len) now (said text) →
    MayAnswer start now (line_asks view rev) next (Err refusal) → MayAnswer start first (newest_asks view more len) next (behind text (refused refusal))
line-refused start view zero zero len rev first now next text refusal e l h k = absurd (omega arith)
line-refused start view zero (suc more) len rev first now next text refusal e l h k =
    let P : ℕ → Type 0 = λ n. MayAnswer start first (newest_asks view (suc more) n) next (behind text (refused refusal)) in
    let is : suc rev ≡ len = omega arith in
    subst P is (first-line start view more rev first now next text refusal h k)
line-refused start view (suc count) zero len rev first now next text refusal e l h k = absurd (omega arith)
line-refused start view (suc count) (suc more) zero rev first now next text refusal e l h k = absurd (omega arith)
line-refused start view (suc count) (suc more) (suc top) rev first now next text refusal e l h k =
    let s = may-apart start first now (line_asks view top) (λ line. line_before line (newest_asks view count top)) (said text) h in
    let less : count + suc rev ≡ top = omega arith in
    let fewer : count < more = omega arith in
    onto start view count more top first s.0 now next text (refused refusal) s.1
    (λ m t f b. line-refused start view count more top rev s.0 m next t refusal less fewer b (may-earlier start m now next (line_asks view rev) (Err refusal) f k)) s.2 s.3

-- ---- where the lists are told

none-behind : (a : List Op) (P : Type 0) → Grows (Some a) None → P
none-behind a P g = let no : ⊥ = cc in absurd no

more-of : (a b : List Op) → Grows (Some a) (Some b) → IsPrefixOf a b
more-of a b g = (g.0, let e = g.1 in cc)

pub told-later : {A : Type 0} (before now next : Option (List Op)) (start : Tree) (q : Asks A) (y : A) → Grows before now → Grows now next → MayAnswerWhereTold before start now q y → MayAnswerWhereTold before start next q y
told-later None now next start q y f g h = tt
told-later (Some first) None next start q y f g h = none-behind first _ f
told-later (Some first) (Some mid) None start q y f g h = tt
told-later (Some first) (Some mid) (Some last) start q y f g h = may-later start first mid last q y (more-of mid last g) h

pub told-at-once : {A : Type 0} (seen : Option (List Op)) (start : Tree) (x y : A) → y ≡ x → MayAnswerWhereTold seen start seen (answer x) y
told-at-once None start x y e = tt
told-at-once (Some l) start x y e = (prefix-refl l, e)

pub told-given : {A : Type 0} (before after : Option (List Op)) (start : Tree) (x y : A) → Grows before after → y ≡ x → MayAnswerWhereTold before start after (answer x) y
told-given None after start x y g e = tt
told-given (Some first) None start x y g e = tt
told-given (Some first) (Some last) start x y g e = (more-of first last g, e)

told-with : {A B : Type 0} (before after : Option (List Op)) (start : Tree) (q : Asks A) (given : A → B) (x : A) → MayAnswerWhereTold before start after q x → MayAnswerWhereTold before start after (with_answer q (λ a. answer (given a))) (given x)
told-with None after start q given x h = tt
told-with (Some first) None start q given x h = tt
told-with (Some first) (Some last) start q given x h = may-with start first last last q (λ a. answer (given a)) x (given x) h (prefix-refl last, refl)

-- a text was added to none, or it was refused
pub text-told : (before after : Option (List Op)) (start : Tree) (q : Asks (Result (List ℕ) ReadAnswer)) (old new : List ℕ) (x : Unit) → old ≡ [] → AddsAnswer before start after q old new (Ok x) → MayAnswerWhereTold before start after (text_asks q) (said new)
text-told before after start q old new x e h =
    let P : List ℕ → Type 0 = λ t. MayAnswerWhereTold before start after (text_asks q) (said t) in
    subst P (sym (h.1 ∙ ap (λ t. t ++ h.0) e)) (told-with before after start q said_of (Ok h.0) h.2)

pub text-refused : (before after : Option (List Op)) (start : Tree) (q : Asks (Result (List ℕ) ReadAnswer)) (old new : List ℕ) (e : ReadAnswer) → AddsAnswer before start after q old new (Err e) → MatchBool (is_of_outside e) ⊤ (MayAnswerWhereTold before start after (text_asks q) (refused e))
text-refused before after start q old new e h = either (is_of_outside e) _ _ (λ m. told-with before after start q said_of (Err e) m) h.1

told-line-on : (before now next : Option (List Op)) (start : Tree) (view : View) (count len rev : ℕ) (text line : List ℕ) → count + suc rev ≡ len → Grows before now → MayAnswerWhereTold before start now (newest_asks view count len) (said text) →
    MayAnswerWhereTold now start next (line_asks view rev) (Ok line) → MayAnswerWhereTold before start next (newest_asks view (suc count) len) (said (text ++ line))
told-line-on None now next start view count len rev text line e g h k = tt
told-line-on (Some first) None next start view count len rev text line e g h k = none-behind first _ g
told-line-on (Some first) (Some mid) None start view count len rev text line e g h k = tt
told-line-on (Some first) (Some mid) (Some last) start view count len rev text line e g h k = line-on start view count len rev first mid last text line e h k

told-line-refused : (before now next : Option (List Op)) (start : Tree) (view : View) (count len rev : ℕ) (text : List ℕ) (refusal : ReadAnswer) → count + suc rev ≡ len → Grows before now → MayAnswerWhereTold before start now (newest_asks view count len) (said text) →
    MayAnswerWhereTold now start next (line_asks view rev) (Err refusal) → MayAnswerWhereTold before start next (newest_asks view len len) (behind text (refused refusal))
told-line-refused None now next start view count len rev text refusal e g h k = tt
told-line-refused (Some first) None next start view count len rev text refusal e g h k = none-behind first _ g
told-line-refused (Some first) (Some mid) None start view count len rev text refusal e g h k = tt
told-line-refused (Some first) (Some mid) (Some last) start view count len rev text refusal e g h k =
    let l : count < len = omega arith in
    line-refused start view count len len rev first mid last text refusal e l h k

-- a call added a line to those told
pub log-on : (before now next : Option (List Op)) (start start_now : Tree) (view : View) (count len rev : ℕ) (old new : List ℕ) (x : Unit) → count + suc rev ≡ len → Grows before now → start_now ≡ start → MayAnswerWhereTold before start now (newest_asks view count len) (said old) →
    AddsAnswer now start_now next (line_asks view rev) old new (Ok x) → MayAnswerWhereTold before start next (newest_asks view (suc count) len) (said new)
log-on before now next start start_now view count len rev old new x e g s h k =
    let Q : Tree → Type 0 = λ t. MayAnswerWhereTold now t next (line_asks view rev) (Ok k.0) in
    let P : List ℕ → Type 0 = λ t. MayAnswerWhereTold before start next (newest_asks view (suc count) len) (said t) in
    subst P (sym k.1) (told-line-on before now next start view count len rev old k.0 e g h (subst Q s k.2))

-- it was refused, and added nothing
pub log-refused : (before now next : Option (List Op)) (start start_now : Tree) (view : View) (count len rev : ℕ) (old new : List ℕ) (refusal : ReadAnswer) → count + suc rev ≡ len → Grows before now → start_now ≡ start → MayAnswerWhereTold before start now (newest_asks view count len) (said old) →
    AddsAnswer now start_now next (line_asks view rev) old new (Err refusal) → MatchBool (is_of_outside refusal) ⊤ (MayAnswerWhereTold before start next (newest_asks view len len) (behind new (refused refusal)))
log-refused before now next start start_now view count len rev old new refusal e g s h k =
    let Q : Tree → Type 0 = λ t. MayAnswerWhereTold now t next (line_asks view rev) (Err refusal) in
    let P : List ℕ → Type 0 = λ t. MayAnswerWhereTold before start next (newest_asks view len len) (behind t (refused refusal)) in
    either (is_of_outside refusal) _ _ (λ m. subst P (sym k.0) (told-line-refused before now next start view count len rev old refusal e g h (subst Q s m))) k.1
