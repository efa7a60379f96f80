-- What a session told, and what came of a load before it.
use Rattle.std.proofs.Common.{◌≡◌, ℕ, ◌+◌, ◌-◌, ◌≤◌, ◌<◌, suc, length, List, [], Option, Some, None, Result, Ok, Err, refl, sym, ◌∙◌, ap, subst, arith, inl, inr, false}
use Rattle.std.specs.Prelude.{⊤}
use Rattle.std.specs.Bool.{MatchBool}
use Rattle.hgs_files.specs.Reads.{Grows, Rose}
use Rattle.hgs_files.specs.Tree.{Tree}
use Rattle.hgs_files.specs.declared.op.Op.{Op}
use Rattle.hgs_load.specs.Answer.{is_of_outside}
use Rattle.hgs_load.specs.Asks.{AddsAnswer, Asks, answer, MayAnswerWhereTold}
use Rattle.hgs_load.specs.Beyond.{MayAnswerBeyond}
use Rattle.hgs_load.specs.View.{View}
use Rattle.hgs_load.specs.declared.answer.ReadAnswer.{ReadAnswer}
use Rattle.hgs_load.specs.declared.answer.ReadAnswer.TheVariants.{Damaged, Fault, Limit, UnknownPath, NotARepository, Requirement, Memory}
use Rattle.hgs_load.specs.Theorems.AskLemmas.{either}
use Rattle.hgs_reader.specs.Line.{line_asks}
use Rattle.hgs_script.specs.declared.job.Question.{Question}
use Rattle.hgs_script.specs.declared.job.Question.TheVariants.{Log}
use Rattle.hgs_script.specs.declared.result.Answered.{Answered}
use Rattle.hgs_questions.specs.Asked.{Asked, Tells, TellsAtOnce, whole, cut, untold, loaded, unloaded, broken, forgone}
use Rattle.hgs_questions.specs.Questions.{front_asks, load_asks, log_asks, named_asks, question_asks, text_asks}
use Rattle.hgs_questions.specs.Said.{behind, refused, Refuses, said, Says, unknown}
use Rattle.hgs_questions.proofs.AnswerLemmas.{log-on, log-refused, told-later, text-refused, text-told, told-at-once, told-given}

-- ---- what a session told

pub tells-whole : (before after : Option (List Op)) (start : Tree) (view : View) (question : Question) (f0 f1 : ℕ) (a answered : Answered) → answered ≡ a → MayAnswerWhereTold before start after (question_asks view question) a → Tells before start after view question f0 f1 answered
tells-whole before after start view question f0 f1 a answered e h =
    let P : Answered → Type 0 = λ z. MayAnswerWhereTold before start after (question_asks view question) z in
    whole (subst P (sym e) h)

pub tells-says : (before after : Option (List Op)) (start : Tree) (view : View) (question : Question) (f0 f1 : ℕ) (a answered : Answered) → Says a answered → MayAnswerWhereTold before start after (question_asks view question) a → Tells before start after view question f0 f1 answered
tells-says before after start view question f0 f1 a answered (inl e) h = tells-whole before after start view question f0 f1 a answered e h
tells-says before after start view question f0 f1 a answered (inr e) h = untold e

-- an answer that takes no read
pub tells-at-once : (view : View) (question : Question) (a answered : Answered) → question_asks view question ≡ answer a → Says a answered → TellsAtOnce view question answered
tells-at-once view question a answered e s = λ seen start faults.
    let P : Asks Answered → Type 0 = λ q. MayAnswerWhereTold seen start seen q a in
    tells-says seen seen start view question faults faults a answered s (subst P (sym e) (told-at-once seen start a a refl))

-- a fault behind what was said before, unless there was no memory for its line
tells-cut : (before after : Option (List Op)) (start : Tree) (view : View) (question : Question) (f0 f1 : ℕ) (text : List ℕ) (answered : Answered) (count : ℕ) → MayAnswerWhereTold before start after (front_asks view question count) (said text) → Rose f0 f1 → Says (behind text (refused Fault)) answered → Tells before start after view question f0 f1 answered
tells-cut before after start view question f0 f1 text answered count h rose (inl e) = cut count text h rose e
tells-cut before after start view question f0 f1 text answered count h rose (inr e) = untold e

-- a refusal, behind what was said before
pub tells-refused : (before after : Option (List Op)) (start : Tree) (view : View) (question : Question) (f0 f1 : ℕ) (text : List ℕ) (answered : Answered) (count : ℕ) (e : ReadAnswer) → MayAnswerWhereTold before start after (front_asks view question count) (said text) →
    MatchBool (is_of_outside e) ⊤ (MayAnswerWhereTold before start after (question_asks view question) (behind text (refused e))) → (e ≡ Fault → Rose f0 f1) → Refuses text e answered → Tells before start after view question f0 f1 answered
tells-refused before after start view question f0 f1 text answered count (Damaged d) h k rose s = tells-says before after start view question f0 f1 (behind text (refused (Damaged d))) answered s k
tells-refused before after start view question f0 f1 text answered count Fault h k rose s = tells-cut before after start view question f0 f1 text answered count h (rose refl) s
tells-refused before after start view question f0 f1 text answered count (Limit w) h k rose s = tells-says before after start view question f0 f1 (behind text (refused (Limit w))) answered s k
tells-refused before after start view question f0 f1 text answered count UnknownPath h k rose s = tells-says before after start view question f0 f1 (behind text (refused UnknownPath)) answered s k
tells-refused before after start view question f0 f1 text answered count NotARepository h k rose s = tells-says before after start view question f0 f1 (behind text (refused NotARepository)) answered s k
tells-refused before after start view question f0 f1 text answered count (Requirement w) h k rose s = tells-says before after start view question f0 f1 (behind text (refused (Requirement w))) answered s k
tells-refused before after start view question f0 f1 text answered count Memory h k rose s = untold s

-- ---- questions of a revision

-- no revision has the name
pub unnamed : (view : View) (question : Question) (o : Option ℕ) (more : ℕ → Asks Answered) (answered : Answered) → question_asks view question ≡ named_asks o more → o ≡ None → Says unknown answered → TellsAtOnce view question answered
unnamed view question o more answered q e s = tells-at-once view question unknown answered (q ∙ ap (λ o. named_asks o more) e) s

pub named-at-once : (view : View) (question : Question) (o : Option ℕ) (text : ℕ → List ℕ) (rev : ℕ) (answered : Answered) → question_asks view question ≡ named_asks o (λ r. answer (said (text r))) → o ≡ Some rev → Says (said (text rev)) answered → TellsAtOnce view question answered
named-at-once view question o text rev answered q e s = tells-at-once view question (said (text rev)) answered (q ∙ ap (λ o. named_asks o (λ r. answer (said (text r)))) e) s

-- a text was added
pub named-added : (before after : Option (List Op)) (start : Tree) (view : View) (question : Question) (f0 f1 : ℕ) (answered : Answered) (o : Option ℕ) (more : ℕ → Asks (Result (List ℕ) ReadAnswer)) (rev : ℕ) (old new : List ℕ) (x : Unit) → question_asks view question ≡ named_asks o (λ r. text_asks (more r)) → o ≡ Some rev → old ≡ [] →
    AddsAnswer before start after (more rev) old new (Ok x) → answered ≡ said new → Tells before start after view question f0 f1 answered
named-added before after start view question f0 f1 answered o more rev old new x q e empty h s =
    let P : Asks Answered → Type 0 = λ a. MayAnswerWhereTold before start after a (said new) in
    tells-whole before after start view question f0 f1 (said new) answered s (subst P (sym (q ∙ ap (λ o. named_asks o (λ r. text_asks (more r))) e)) (text-told before after start (more rev) old new x empty h))

-- it was refused, and nothing was added
pub named-refused : (before after : Option (List Op)) (start : Tree) (view : View) (question : Question) (f0 f1 : ℕ) (answered : Answered) (o : Option ℕ) (more : ℕ → Asks (Result (List ℕ) ReadAnswer)) (rev : ℕ) (old new : List ℕ) (refusal : ReadAnswer) → question_asks view question ≡ named_asks o (λ r. text_asks (more r)) →
    front_asks view question 0 ≡ answer (said []) → o ≡ Some rev → old ≡ [] → Grows before after → AddsAnswer before start after (more rev) old new (Err refusal) → (refusal ≡ Fault → Rose f0 f1) → Refuses new refusal answered → Tells before start after view question f0 f1 answered
named-refused before after start view question f0 f1 answered o more rev old new refusal q front e empty g h rose s =
    let none : new ≡ [] = h.0 ∙ empty in
    let P : Asks Answered → Type 0 = λ a. MayAnswerWhereTold before start after a (refused refusal) in
    let F : Asks Answered → Type 0 = λ a. MayAnswerWhereTold before start after a (said []) in
    let R : List ℕ → Type 0 = λ t. Refuses t refusal answered in
    tells-refused before after start view question f0 f1 [] answered 0 refusal (subst F (sym front) (told-given before after start (said []) (said []) g refl))
    (either (is_of_outside refusal) _ _ (λ m. subst P (sym (q ∙ ap (λ o. named_asks o (λ r. text_asks (more r))) e)) m) (text-refused before after start (more rev) old new refusal h)) rose (subst R none s)

-- ---- counts

pub rose-later : (f0 f1 f2 : ℕ) → f0 ≤ f1 → Rose f1 f2 → Rose f0 f2
rose-later f0 f1 f2 l r = omega arith

pub rose-before : (f0 f1 f2 : ℕ) → Rose f0 f1 → f1 ≤ f2 → Rose f0 f2
rose-before f0 f1 f2 r l = omega arith

pub tells-later : (before after : Option (List Op)) (start : Tree) (view : View) (question : Question) (f0 f1 f2 : ℕ) (answered : Answered) → f0 ≤ f1 → Tells before start after view question f1 f2 answered → Tells before start after view question f0 f2 answered
tells-later before after start view question f0 f1 f2 answered l (whole h) = whole h
tells-later before after start view question f0 f1 f2 answered l (cut count text h rose e) = cut count text h (rose-later f0 f1 f2 l rose) e
tells-later before after start view question f0 f1 f2 answered l (untold e) = untold e

-- ---- the lines of `log`

one-less : (count left len : ℕ) → 0 < left → count + left ≡ len → count + suc (left - 1) ≡ len
one-less count left len some e = omega arith

-- a call added one more line
pub log-more : (before now next : Option (List Op)) (start start_now : Tree) (view view_now : View) (count left : ℕ) (old new : List ℕ) (r : Result Unit ReadAnswer) (x : Unit) → 0 < left → count + left ≡ length view.changelog.entries → Grows before now → start_now ≡ start → view_now ≡ view →
    MayAnswerWhereTold before start now (log_asks view count) (said old) → r ≡ Ok x → AddsAnswer now start_now next (line_asks view_now (left - 1)) old new r → MayAnswerWhereTold before start next (log_asks view (suc count)) (said new)
log-more before now next start start_now view view_now count left old new r x some e g s v h is k =
    let P : View → Type 0 = λ w. AddsAnswer now start_now next (line_asks w (left - 1)) old new r in
    let Q : Result Unit ReadAnswer → Type 0 = λ z. AddsAnswer now start_now next (line_asks view (left - 1)) old new z in
    log-on before now next start start_now view count (length view.changelog.entries) (left - 1) old new x (one-less count left (length view.changelog.entries) some e) g s h (subst Q is (subst P v k))

-- a call was refused behind so many lines
pub log-cut : (before now next : Option (List Op)) (start start_now : Tree) (view view_now : View) (count left f0 f1 f2 : ℕ) (old new : List ℕ) (r : Result Unit ReadAnswer) (refusal : ReadAnswer) (answered : Answered) → 0 < left → count + left ≡ length view.changelog.entries → Grows before now → Grows now next → start_now ≡ start → view_now ≡ view →
    MayAnswerWhereTold before start now (log_asks view count) (said old) → r ≡ Err refusal → AddsAnswer now start_now next (line_asks view_now (left - 1)) old new r → f0 ≤ f1 → (r ≡ Err Fault → Rose f1 f2) → Refuses new refusal answered → Tells before start next view Log f0 f2 answered
log-cut before now next start start_now view view_now count left f0 f1 f2 old new r refusal answered some e g more s v h is k l rose says =
    let P : View → Type 0 = λ w. AddsAnswer now start_now next (line_asks w (left - 1)) old new r in
    let Q : Result Unit ReadAnswer → Type 0 = λ z. AddsAnswer now start_now next (line_asks view (left - 1)) old new z in
    let adds : AddsAnswer now start_now next (line_asks view (left - 1)) old new (Err refusal) = subst Q is (subst P v k) in
    let T : List ℕ → Type 0 = λ t. MayAnswerWhereTold before start next (log_asks view count) (said t) in
    tells-refused before next start view Log f0 f2 new answered count refusal (subst T (sym adds.0) (told-later before now next start (log_asks view count) (said old) g more h))
    (log-refused before now next start start_now view count (length view.changelog.entries) (left - 1) old new refusal (one-less count left (length view.changelog.entries) some e) g s h adds)
    (λ f. rose-later f0 f1 f2 l (rose (is ∙ ap (λ z. Err z) f))) says

-- all lines were told
pub log-whole : (before after : Option (List Op)) (start : Tree) (view : View) (count left f0 f1 : ℕ) (text : List ℕ) (answered : Answered) → left ≤ 0 → count + left ≡ length view.changelog.entries → MayAnswerWhereTold before start after (log_asks view count) (said text) → answered ≡ said text → Tells before start after view Log f0 f1 answered
log-whole before after start view count left f0 f1 text answered none e h is =
    let P : ℕ → Type 0 = λ n. MayAnswerWhereTold before start after (log_asks view n) (said text) in
    let all : count ≡ length view.changelog.entries = omega arith in
    tells-whole before after start view Log f0 f1 (said text) answered is (subst P all h)

-- ---- what came of the load

says-unloaded : (told : List (List Op)) (before after : Option (List Op)) (start : Tree) (old new : Option View) (question : Question) (f0 f1 : ℕ) (answered : Answered) (e : ReadAnswer) → is_of_outside e ≡ false → MayAnswerBeyond told before start after (load_asks old) (Err e) → new ≡ old → Says (refused e) answered →
    Asked told before start after old new question f0 f1 answered
says-unloaded told before after start old new question f0 f1 answered e out h same (inl s) = unloaded e out h same s
says-unloaded told before after start old new question f0 f1 answered e out h same (inr s) = forgone same s

says-broken : (told : List (List Op)) (before after : Option (List Op)) (start : Tree) (old new : Option View) (question : Question) (f0 f1 : ℕ) (answered : Answered) → Rose f0 f1 → new ≡ old → Says (refused Fault) answered → Asked told before start after old new question f0 f1 answered
says-broken told before after start old new question f0 f1 answered rose same (inl s) = broken rose same s
says-broken told before after start old new question f0 f1 answered rose same (inr s) = forgone same s

pub asked-refused : (told : List (List Op)) (before after : Option (List Op)) (start : Tree) (old new : Option View) (question : Question) (f0 f1 : ℕ) (answered : Answered) (text : List ℕ) (e : ReadAnswer) → text ≡ [] → MatchBool (is_of_outside e) ⊤ (MayAnswerBeyond told before start after (load_asks old) (Err e)) → (e ≡ Fault → Rose f0 f1) →
    new ≡ old → Refuses text e answered → Asked told before start after old new question f0 f1 answered
asked-refused told before after start old new question f0 f1 answered text (Damaged d) empty h rose same s =
    let P : List ℕ → Type 0 = λ t. Says (behind t (refused (Damaged d))) answered in
    says-unloaded told before after start old new question f0 f1 answered (Damaged d) refl h same (subst P empty s)
asked-refused told before after start old new question f0 f1 answered text Fault empty h rose same s =
    let P : List ℕ → Type 0 = λ t. Says (behind t (refused Fault)) answered in
    says-broken told before after start old new question f0 f1 answered (rose refl) same (subst P empty s)
asked-refused told before after start old new question f0 f1 answered text (Limit w) empty h rose same s =
    let P : List ℕ → Type 0 = λ t. Says (behind t (refused (Limit w))) answered in
    says-unloaded told before after start old new question f0 f1 answered (Limit w) refl h same (subst P empty s)
asked-refused told before after start old new question f0 f1 answered text UnknownPath empty h rose same s =
    let P : List ℕ → Type 0 = λ t. Says (behind t (refused UnknownPath)) answered in
    says-unloaded told before after start old new question f0 f1 answered UnknownPath refl h same (subst P empty s)
asked-refused told before after start old new question f0 f1 answered text NotARepository empty h rose same s =
    let P : List ℕ → Type 0 = λ t. Says (behind t (refused NotARepository)) answered in
    says-unloaded told before after start old new question f0 f1 answered NotARepository refl h same (subst P empty s)
asked-refused told before after start old new question f0 f1 answered text (Requirement w) empty h rose same s =
    let P : List ℕ → Type 0 = λ t. Says (behind t (refused (Requirement w))) answered in
    says-unloaded told before after start old new question f0 f1 answered (Requirement w) refl h same (subst P empty s)
asked-refused told before after start old new question f0 f1 answered text Memory empty h rose same s = forgone same s

-- the question was answered over the same start, of what the load came to
pub asked-loaded : (told : List (List Op)) (before mid after : Option (List Op)) (start start_now : Tree) (old new : Option View) (view : View) (question : Question) (f0 f1 f2 : ℕ) (answered : Answered) → Grows before mid → MayAnswerBeyond told before start mid (load_asks old) (Ok view) → Grows mid after → start_now ≡ start → f0 ≤ f1 → new ≡ Some view →
    Tells mid start_now after view question f1 f2 answered → Asked told before start after old new question f0 f2 answered
asked-loaded told before mid after start start_now old new view question f0 f1 f2 answered g h k s l n t =
    let P : Tree → Type 0 = λ t. Tells mid t after view question f0 f2 answered in
    loaded view mid (record { grown = g; answer = h }) k n (subst P s (tells-later mid after start_now view question f0 f1 f2 answered l t))
