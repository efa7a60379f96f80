-- What readers are told by files at rest.
use Rattle.std.proofs.Common.{◌≡◌, ℕ, suc, ◌-◌, ◌<◌, List, [], ◌++◌, map, refl, sym, ◌∙◌, ap, subst, arith, append_assoc, Bool, true, false}
use Rattle.std.specs.Prelude.{Option, Some, None, Result, Ok, Err, IfOk, slice_get, ⊤}
use Rattle.std.specs.Bool.{MatchBool}
use Rattle.std.specs.Option.{option_map}
use Rattle.std.proofs.lemmas.Option.{slice_get-map}
use Rattle.hgs_files.specs.declared.op.Op.{Op}
use Rattle.hgs_files.specs.Tree.{Tree, after_all}
use Rattle.hgs_load.specs.Answer.{is_of_outside, refusal_line}
use Rattle.hgs_load.specs.Asks.{AddsAnswer, AddsGiven, Answers, Asks, at_rest}
use Rattle.hgs_load.specs.Load.{Refreshes, asks_of}
use Rattle.hgs_load.specs.declared.load.LoadMachine.{LoadMachine}
use Rattle.hgs_load.specs.Open.{open_asks}
use Rattle.hgs_load.specs.Refresh.{refresh_asks}
use Rattle.hgs_load.specs.View.{View}
use Rattle.hgs_load.specs.Theorems.AskLemmas.{either}
use Rattle.hgs_load.specs.Theorems.RestLemmas.{adds_at_rest, adds_refused_at_rest, answers_at_rest, refused_at_rest, told_at_rest}
use Rattle.hgs_load.specs.declared.answer.ReadAnswer.{ReadAnswer}
use Rattle.hgs_reader.specs.Contents.{cat_asks}
use Rattle.hgs_reader.specs.Line.{line_asks}
use Rattle.hgs_reader.specs.Names.{named}
use Rattle.hgs_world.specs.Questions.{IsLoaded, body_text, line_then, lines_below, load_answer, of_named, told}

-- ---- files at rest

-- a text was added, or a refusal was not
pub adds_steady : (a b l : List Op) (s u : Tree) (q : Asks (Result (List ℕ) ReadAnswer)) (old new : List ℕ) (r : Result Unit ReadAnswer) → a ≡ l → b ≡ a → s ≡ u → AddsAnswer (Some a) s (Some b) q old new r → AddsGiven (at_rest (after_all l u) q) old new r
adds_steady a b l s u q old new (Ok x) e f g h =
    subst (λ (v : Tree). AddsGiven (at_rest (after_all l v) q) old new (Ok x)) g (adds_at_rest (Some a) (Some b) l s q old new x (ap (λ k. Some k) e) (ap (λ k. Some k) f) h)
adds_steady a b l s u q old new (Err x) e f g h =
    subst (λ (v : Tree). AddsGiven (at_rest (after_all l v) q) old new (Err x)) g (adds_refused_at_rest (Some a) (Some b) l s q old new x (ap (λ k. Some k) e) (ap (λ k. Some k) f) h)

pub still : {A : Type 0} {a b : List A} → Some a ≡ Some b → a ≡ b
still e = cc

inner : (b : Bool) (P : Type 0) → b ≡ false → MatchBool b ⊤ P → P
inner true P e m = absurd (let no : ⊥ = cc in no)
inner false P e m = m

-- ---- lines

line_more : (t : Tree) (view : View) (n : ℕ) (whole old new : List ℕ) → whole ≡ old ++ lines_below t view (suc n) → (text : List ℕ) × (new ≡ old ++ text) × (at_rest t (line_asks view n) ≡ Ok text) → whole ≡ new ++ lines_below t view n
line_more t view n whole old new w a =
    let rest = lines_below t view n in
    w ∙ ap (λ r. old ++ line_then r rest) a.2 ∙ sym (append_assoc old a.0 rest) ∙ ap (λ l. l ++ rest) (sym a.1)

line_last : (t : Tree) (view : View) (n : ℕ) (whole old : List ℕ) (e : ReadAnswer) → whole ≡ old ++ lines_below t view (suc n) → at_rest t (line_asks view n) ≡ Err e → whole ≡ old ++ refusal_line e
line_last t view n whole old e w a = w ∙ ap (λ r. old ++ line_then r (lines_below t view n)) a

one_less : (n : ℕ) → 0 < n → suc (n - 1) ≡ n
one_less n h = omega arith

pub line_on : (t : Tree) (view : View) (left : ℕ) (whole old new : List ℕ) (r : Result Unit ReadAnswer) (x : Unit) → 0 < left → r ≡ Ok x → whole ≡ old ++ lines_below t view left → AddsGiven (at_rest t (line_asks view (left - 1))) old new r → whole ≡ new ++ lines_below t view (left - 1)
line_on t view left whole old new r x some e w h =
    line_more t view (left - 1) whole old new (subst (λ k. whole ≡ old ++ lines_below t view k) (sym (one_less left some)) w) (subst (AddsGiven (at_rest t (line_asks view (left - 1))) old new) e h)

pub line_refused : (t : Tree) (view : View) (left : ℕ) (whole old new last : List ℕ) (r : Result Unit ReadAnswer) (e : ReadAnswer) → 0 < left → r ≡ Err e → is_of_outside e ≡ false → whole ≡ old ++ lines_below t view left → AddsGiven (at_rest t (line_asks view (left - 1))) old new r
    → last ≡ new ++ refusal_line e → last ≡ whole
line_refused t view left whole old new last r e some is out w h n =
    let a = subst (AddsGiven (at_rest t (line_asks view (left - 1))) old new) is h in
    n ∙ ap (λ l. l ++ refusal_line e) a.0 ∙ sym (line_last t view (left - 1) whole old e (subst (λ k. whole ≡ old ++ lines_below t view k) (sym (one_less left some)) w) (inner (is_of_outside e) _ out a.1))

-- ---- bodies

pub body_given : (t : Tree) (view : View) (name path : List ℕ) (rev : ℕ) (text : List ℕ) (r : Result Unit ReadAnswer) (x : Unit) → named view name ≡ Some rev → r ≡ Ok x → AddsGiven (at_rest t (cat_asks view rev path)) [] text r → text ≡ body_text t view name path
body_given t view name path rev text r x e is h =
    let a = subst (AddsGiven (at_rest t (cat_asks view rev path)) [] text) is h in
    a.1 ∙ sym (ap told a.2) ∙ sym (ap (λ o. of_named o (λ rev. told (at_rest t (cat_asks view rev path)))) e)

pub body_refused : (t : Tree) (view : View) (name path : List ℕ) (rev : ℕ) (text line : List ℕ) (r : Result Unit ReadAnswer) (e : ReadAnswer) → named view name ≡ Some rev → r ≡ Err e → is_of_outside e ≡ false → AddsGiven (at_rest t (cat_asks view rev path)) [] text r → line ≡ refusal_line e → line ≡ body_text t view name path
body_refused t view name path rev text line r e n is out h l =
    let a = subst (AddsGiven (at_rest t (cat_asks view rev path)) [] text) is h in
    let given : at_rest t (cat_asks view rev path) ≡ Err e = inner (is_of_outside e) _ out a.1 in
    l ∙ sym (ap told given) ∙ sym (ap (λ o. of_named o (λ rev. told (at_rest t (cat_asks view rev path)))) n)

-- ---- loads

pub refreshed : (a b : List Op) (s : Tree) (old new : View) (r : Result Unit ReadAnswer) → b ≡ a → Refreshes (Some a) s (Some b) (refresh_asks old) old new r → IsLoaded (load_answer (after_all a s) (Some old)) (record { last = Some old; load = None }) (record { last = Some new; load = None }) r
refreshed a b s old new (Ok x) f h = (new, sym (told_at_rest (Some b) a s (refresh_asks old) (Ok new) (ap (λ k. Some k) f) h), refl)
refreshed a b s old new (Err e) f h =
    (ap (λ v. record { last = Some v; load = None }) h.0, either (is_of_outside e) _ _ (λ m. sym (told_at_rest (Some b) a s (refresh_asks old) (Err e) (ap (λ k. Some k) f) m)) h.1)

pub loaded_first : (a b : List Op) (s : Tree) (view : View) → b ≡ a → Answers {V = View} (λ session. session) (Some a) s (Some b) open_asks (Ok view) → IsLoaded (load_answer (after_all a s) None) (record { last = None; load = None }) (record { last = Some view; load = None }) (Ok tt)
loaded_first a b s view f h = (view, answers_at_rest (λ v. v) (Some a) (Some b) a s open_asks view refl (ap (λ k. Some k) f) h, refl)

pub refused_first : (a b : List Op) (s : Tree) (e : ReadAnswer) → b ≡ a → Answers {V = View} (λ session. session) (Some a) s (Some b) open_asks (Err e) → IsLoaded (load_answer (after_all a s) None) (record { last = None; load = None }) (record { last = None; load = None }) (Err e)
refused_first a b s e f h = (refl, refused_at_rest {V = View} (λ v. v) (Some a) (Some b) a s open_asks e refl (ap (λ k. Some k) f) h)

-- ---- one of the readers

pub sight_there : {A B : Type 0} (f : A → B) (xs : List A) (n : ℕ) (x : A) → slice_get xs n ≡ Some x → slice_get (map f xs) n ≡ Some (f x)
sight_there f xs n x e = slice_get-map f xs n ∙ ap (option_map f) e

pub if_ok_both : {T E : Type 0} (r : Result T E) (P Q R : T → Type 0) → ((x : T) → P x → Q x → R x) → IfOk r P → IfOk r Q → IfOk r R
if_ok_both (Ok x) P Q R f h k = f x h k
if_ok_both (Err e) P Q R f h k = tt

-- the same of a reader with this session, and without a load
pub refreshed_reader : (a b : List Op) (s : Tree) (o : Option View) (load : Option LoadMachine) (old new : View) (r : Result Unit ReadAnswer) → o ≡ Some old → load ≡ None → b ≡ a → Refreshes (Some a) s (Some b) (refresh_asks old) old new r
    → IsLoaded (load_answer (after_all a s) o) (record { last = o; load = option_map asks_of load }) (record { last = Some new; load = option_map asks_of load }) r
refreshed_reader a b s o load old new r e n f h =
    subst (λ l. IsLoaded (load_answer (after_all a s) o) (record { last = o; load = option_map asks_of l }) (record { last = Some new; load = option_map asks_of l }) r) (sym n)
    (subst (λ x. IsLoaded (load_answer (after_all a s) x) (record { last = x; load = None }) (record { last = Some new; load = None }) r) (sym e) (refreshed a b s old new r f h))
