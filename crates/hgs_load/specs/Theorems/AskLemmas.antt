-- One read after another.
use Rattle.std.proofs.Common.{◌≡◌, ℕ, List, [], ◌++◌, Option, Some, None, Result, Ok, Err, refl, sym, ◌∙◌, ap, subst, append_assoc, append-nil}
use Rattle.std.specs.Prelude.{IfSome, Bool, true, false, ⊤}
use Rattle.std.specs.Bool.{MatchBool}
use Rattle.hgs_bytes.specs.Bytes.{IsPrefixOf}
use Rattle.hgs_files.specs.declared.op.Op.{Op}
use Rattle.hgs_files.specs.Tree.{Tree, after_all}
use Rattle.hgs_files.specs.Reads.{Grows}
use Rattle.hgs_bytes.specs.Answer.{Gives}
use Rattle.hgs_load.specs.declared.answer.ReadAnswer.{ReadAnswer}
use Rattle.hgs_load.specs.Answer.{is_of_outside}
use Rattle.hgs_load.specs.Asks.{Asks, answer, read, part_of, MayAnswer, MayAnswerWhereTold, Answers, AddsAnswer, AddsGiven, Continues, then_asks}

pub prefix-refl : {A : Type 0} (l : List A) → IsPrefixOf l l
prefix-refl l = ([], sym (append-nil l))

pub prefix-trans : {A : Type 0} (a b c : List A) → IsPrefixOf a b → IsPrefixOf b c → IsPrefixOf a c
prefix-trans a b c f g = (f.0 ++ g.0, g.1 ∙ ap (λ l. l ++ g.0) f.1 ∙ append_assoc a f.0 g.0)

pub grows-refl : (o : Option (List Op)) → Grows o o
grows-refl None = refl
grows-refl (Some l) = ([], ap (λ x. Some x) (sym (append-nil l)))

some_is : {A : Type 0} (x y : A) → Some x ≡ Some y → x ≡ y
some_is x y e = cc

grows_more : (a : List Op) (b c : Option (List Op)) → Grows (Some a) b → Grows b c → Grows (Some a) c
grows_more a None c f g = cc
grows_more a (Some b) c f g = (f.0 ++ g.0, g.1 ∙ ap (λ x. Some x) (ap (λ l. l ++ g.0) (some_is b (a ++ f.0) f.1) ∙ append_assoc a f.0 g.0))

pub grows-trans : (a b c : Option (List Op)) → Grows a b → Grows b c → Grows a c
grows-trans None b c f g = let P : Option (List Op) → Type 0 = λ o. Grows o c in subst P f g
grows-trans (Some a) b c f g = grows_more a b c f g

-- nothing was asked yet
pub continues-start : {A : Type 0} (seen : Option (List Op)) (start : Tree) (question : Asks A) → Continues seen start seen question question
continues-start None start question = tt
continues-start (Some l) start question = λ last y h. h

told : (now next : Option (List Op)) (P Q : List Op → Type 0) → Grows now next → ((a b : List Op) → now ≡ Some a → next ≡ Some b → IsPrefixOf a b → P a → Q b) → IfSome now P → IfSome next Q
told None next P Q g f h = let R : Option (List Op) → Type 0 = λ o. IfSome o Q in subst R (sym g) tt
told (Some a) next P Q g f h = let R : Option (List Op) → Type 0 = λ o. IfSome o Q in subst R (sym g.1) (f a (a ++ g.0) refl g.1 (g.0, refl) h)

-- one more read was answered
pub continues-read : {A : Type 0} (before now next : Option (List Op)) (start : Tree) (whole : Asks A) (path : List ℕ) (from most : ℕ) (rest : Option (List ℕ) → Asks A) (part : Option (List ℕ)) →
    Continues before start now whole (read path from most rest) → Grows now next → IfSome next (λ log. part ≡ part_of (after_all log start) path from most) → Continues before start next whole (rest part)
continues-read None now next start whole path from most rest part h g p = tt
continues-read {A} (Some first) now next start whole path from most rest part h g p =
    told now next
    (λ seen. (last : List Op) (y : A) → MayAnswer start seen (read path from most rest) last y → MayAnswer start first whole last y)
    (λ seen. (last : List Op) (y : A) → MayAnswer start seen (rest part) last y → MayAnswer start first whole last y)
    g
    (λ a b e f front k last y m.
    let Q : Option (List Op) → Type 0 = λ o. IfSome o (λ log. part ≡ part_of (after_all log start) path from most) in
    let same : part ≡ part_of (after_all b start) path from most = subst Q f p in
    let R : Option (List ℕ) → Type 0 = λ o. MayAnswer start b (rest o) last y in
    k last y (b, front, subst R same m))
    h

-- the question has its answer
pub continues-answer : {A : Type 0} (before now : Option (List Op)) (start : Tree) (whole left : Asks A) (y : A) → Continues before start now whole left → left ≡ answer y → MayAnswerWhereTold before start now whole y
continues-answer None now start whole left y h e = tt
continues-answer (Some first) None start whole left y h e = tt
continues-answer {A} (Some first) (Some seen) start whole left y h e =
    let R : Asks A → Type 0 = λ q. MayAnswer start seen q seen y in
    h seen y (subst R (sym e) (prefix-refl seen, refl))

-- ---- what a call answers

pub either : (b : Bool) (P Q : Type 0) → (P → Q) → MatchBool b ⊤ P → MatchBool b ⊤ Q
either true P Q f m = tt
either false P Q f m = f m

-- what is left goes on to less
pub continues-trans : {A : Type 0} (before now next : Option (List Op)) (start : Tree) (whole left rest : Asks A) → Grows before now → Continues before start now whole left → Continues now start next left rest → Continues before start next whole rest
continues-trans None now next start whole left rest g h k = tt
continues-trans (Some first) None next start whole left rest g h k = cc
continues-trans (Some first) (Some seen) None start whole left rest g h k = tt
continues-trans (Some first) (Some seen) (Some last) start whole left rest g h k = λ l y m. h l y (k l y m)

pub continues-then : {A : Type 0} (before now next : Option (List Op)) (start : Tree) (whole left : Asks A) (y : A) → Grows before now → Continues before start now whole left → MayAnswerWhereTold now start next left y → MayAnswerWhereTold before start next whole y
continues-then None now next start whole left y g h k = tt
continues-then (Some first) None next start whole left y g h k = cc
continues-then (Some first) (Some seen) None start whole left y g h k = tt
continues-then (Some first) (Some seen) (Some last) start whole left y g h k = h last y k

-- ---- one question after another

-- what may be answered from a later list on may be so from an earlier one on
may-earlier : {A : Type 0} (start : Tree) (first mid last : List Op) (q : Asks A) (y : A) → IsPrefixOf first mid → MayAnswer start mid q last y → MayAnswer start first q last y
may-earlier start first mid last (answer x) y f h = (prefix-trans first mid last f h.0, h.1)
may-earlier start first mid last (read path from most rest) y f h = (h.0, prefix-trans first mid h.0 f h.1, h.2)

ok_is : {A : Type 0} (x y : A) → (let a : Result A ReadAnswer = Ok x in a) ≡ Ok y → x ≡ y
ok_is x y e = cc

no_ok : {A : Type 0} (x : A) (e : ReadAnswer) → (let a : Result A ReadAnswer = Ok x in a) ≡ Err e → ⊥
no_ok x e h = cc

err_is : {A : Type 0} (e f : ReadAnswer) → (let a : Result A ReadAnswer = Err e in a) ≡ Err f → e ≡ f
err_is e f h = cc

may-then : {A B : Type 0} (start : Tree) (first mid last : List Op) (q : Asks (Result A ReadAnswer)) (more : A → Asks (Result B ReadAnswer)) (x : A) (y : Result B ReadAnswer) →
    MayAnswer start first q mid (Ok x) → MayAnswer start mid (more x) last y → MayAnswer start first (then_asks q more) last y
may-then {A} {B} start first mid last (answer (Ok a)) more x y h k =
    let P : A → Type 0 = λ z. MayAnswer start mid (more z) last y in
    may-earlier start first mid last (more a) y h.0 (subst P (ok_is x a h.1) k)
may-then start first mid last (answer (Err e)) more x y h k = absurd (no_ok x e h.1)
may-then start first mid last (read path from most rest) more x y h k =
    (h.0, h.1, may-then start h.0 mid last (rest (part_of (after_all h.0 start) path from most)) more x y h.2 k)

may-refuse : {A B : Type 0} (start : Tree) (first last : List Op) (q : Asks (Result A ReadAnswer)) (more : A → Asks (Result B ReadAnswer)) (e : ReadAnswer) →
    MayAnswer start first q last (Err e) → MayAnswer start first (then_asks q more) last (Err e)
may-refuse start first last (answer (Ok a)) more e h = absurd (no_ok a e (sym h.1))
may-refuse start first last (answer (Err f)) more e h = (h.0, ap (λ x. Err x) (err_is e f h.1))
may-refuse start first last (read path from most rest) more e h =
    (h.0, h.1, may-refuse start h.0 last (rest (part_of (after_all h.0 start) path from most)) more e h.2)

told-then : {A B : Type 0} (before now next : Option (List Op)) (start : Tree) (q : Asks (Result A ReadAnswer)) (more : A → Asks (Result B ReadAnswer)) (x : A) (y : Result B ReadAnswer) →
    Grows before now → MayAnswerWhereTold before start now q (Ok x) → MayAnswerWhereTold now start next (more x) y → MayAnswerWhereTold before start next (then_asks q more) y
told-then None now next start q more x y g h k = tt
told-then (Some first) None next start q more x y g h k = cc
told-then (Some first) (Some mid) None start q more x y g h k = tt
told-then (Some first) (Some mid) (Some last) start q more x y g h k = may-then start first mid last q more x y h k

told-refuse : {A B : Type 0} (before now : Option (List Op)) (start : Tree) (q : Asks (Result A ReadAnswer)) (more : A → Asks (Result B ReadAnswer)) (e : ReadAnswer) →
    MayAnswerWhereTold before start now q (Err e) → MayAnswerWhereTold before start now (then_asks q more) (Err e)
told-refuse None now start q more e h = tt
told-refuse (Some first) None start q more e h = tt
told-refuse (Some first) (Some last) start q more e h = may-refuse start first last q more e h

-- the first question was answered, and then the next one with its answer
pub answers-then : {V W A B : Type 0} (view : V → A) (view_next : W → B) (before now next : Option (List Op)) (start start_now : Tree) (q : Asks (Result A ReadAnswer)) (more : A → Asks (Result B ReadAnswer)) (x : V) (r : Result W ReadAnswer) →
    Grows before now → start_now ≡ start → Answers view before start now q (Ok x) → Answers view_next now start_now next (more (view x)) r → Answers view_next before start next (then_asks q more) r
answers-then view view_next before now next start start_now q more x (Ok y) g s h k =
    let P : Tree → Type 0 = λ t. MayAnswerWhereTold now t next (more (view x)) (Ok (view_next y)) in
    told-then before now next start q more (view x) (Ok (view_next y)) g h (subst P s k)
answers-then view view_next before now next start start_now q more x (Err e) g s h k =
    let P : Tree → Type 0 = λ t. MayAnswerWhereTold now t next (more (view x)) (Err e) in
    either (is_of_outside e) _ _ (λ m. told-then before now next start q more (view x) (Err e) g h (subst P s m)) k

-- the first question was refused
pub answers-refused : {V W A B : Type 0} (view : V → A) (view_next : W → B) (before now : Option (List Op)) (start : Tree) (q : Asks (Result A ReadAnswer)) (more : A → Asks (Result B ReadAnswer)) (e : ReadAnswer) →
    Answers view before start now q (Err e) → Answers view_next before start now (then_asks q more) (Err e)
answers-refused view view_next before now start q more e h = either (is_of_outside e) _ _ (λ m. told-refuse before now start q more e m) h

-- what is answered without a read
pub answers-given : {V A : Type 0} (view : V → A) (seen : Option (List Op)) (start : Tree) (given : Result A ReadAnswer) (r : Result V ReadAnswer) → Gives is_of_outside view r given → Answers view seen start seen (answer given) r
answers-given view seen start given (Ok x) h = continues-answer seen seen start (answer given) (answer given) (Ok (view x)) (continues-start seen start (answer given)) (ap answer h)
answers-given view seen start given (Err e) h =
    either (is_of_outside e) _ _ (λ m. continues-answer seen seen start (answer given) (answer given) (Err e) (continues-start seen start (answer given)) (ap answer m)) h

-- ---- the same for calls that add a text

pub adds-then : {V A : Type 0} (view : V → A) (before now next : Option (List Op)) (start start_now : Tree) (q : Asks (Result A ReadAnswer)) (more : A → Asks (Result (List ℕ) ReadAnswer)) (x : V) (old new : List ℕ) (r : Result Unit ReadAnswer) →
    Grows before now → start_now ≡ start → Answers view before start now q (Ok x) → AddsAnswer now start_now next (more (view x)) old new r → AddsAnswer before start next (then_asks q more) old new r
adds-then view before now next start start_now q more x old new (Ok u) g s h k =
    let P : Tree → Type 0 = λ t. MayAnswerWhereTold now t next (more (view x)) (Ok k.0) in
    (k.0, k.1, told-then before now next start q more (view x) (Ok k.0) g h (subst P s k.2))
adds-then view before now next start start_now q more x old new (Err e) g s h k =
    let P : Tree → Type 0 = λ t. MayAnswerWhereTold now t next (more (view x)) (Err e) in
    (k.0, either (is_of_outside e) _ _ (λ m. told-then before now next start q more (view x) (Err e) g h (subst P s m)) k.1)

pub adds-refused : {V A : Type 0} (view : V → A) (before now : Option (List Op)) (start : Tree) (q : Asks (Result A ReadAnswer)) (more : A → Asks (Result (List ℕ) ReadAnswer)) (old new : List ℕ) (e : ReadAnswer) →
    new ≡ old → Answers view before start now q (Err e) → AddsAnswer before start now (then_asks q more) old new (Err e)
adds-refused view before now start q more old new e k h = (k, either (is_of_outside e) _ _ (λ m. told-refuse before now start q more e m) h)

pub adds-given : (seen : Option (List Op)) (start : Tree) (given : Result (List ℕ) ReadAnswer) (old new : List ℕ) (r : Result Unit ReadAnswer) → AddsGiven given old new r → AddsAnswer seen start seen (answer given) old new r
adds-given seen start given old new (Ok u) h = (h.0, h.1, continues-answer seen seen start (answer given) (answer given) (Ok h.0) (continues-start seen start (answer given)) (ap answer h.2))
adds-given seen start given old new (Err e) h =
    (h.0, either (is_of_outside e) _ _ (λ m. continues-answer seen seen start (answer given) (answer given) (Err e) (continues-start seen start (answer given)) (ap answer m)) h.1)

pub adds-behind : {A : Type 0} (before after : Option (List Op)) (start : Tree) (given : Result A ReadAnswer) (more : A → Asks (Result (List ℕ) ReadAnswer)) (x : A) (old new : List ℕ) (r : Result Unit ReadAnswer) →
    given ≡ Ok x → AddsAnswer before start after (more x) old new r → AddsAnswer before start after (then_asks (answer given) more) old new r
adds-behind {A} before after start given more x old new r e h =
    let P : Result A ReadAnswer → Type 0 = λ q. AddsAnswer before start after (then_asks (answer q) more) old new r in
    subst P (sym e) h
