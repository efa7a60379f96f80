-- The lines so far and those to come are all lines.
use Rattle.std.proofs.Common.{◌≡◌, ℕ, zero, suc, ◌-◌, ◌<◌, List, [], ◌++◌, length, take, Bool, true, false, Option, Some, None, Result, Ok, Err, OnOk, refl, sym, ◌∙◌, ap, subst, arith, append_assoc, append-nil}
use Rattle.std.specs.Prelude.{⊤, IfErr, IsErr}
use Rattle.std.specs.Bool.{MatchBool}
use Rattle.std.proofs.lemmas.List.{take_at}
use Rattle.hgs_files.specs.declared.op.Op.{Op}
use Rattle.hgs_files.specs.Streams.{IsWritten}
use Rattle.hgs_files.specs.Tree.{Tree, after_all}
use Rattle.hgs_load.specs.declared.answer.ReadAnswer.{ReadAnswer}
use Rattle.hgs_load.specs.Answer.{is_of_outside}
use Rattle.hgs_load.specs.Asks.{at_rest, AddsGiven, Answers}
use Rattle.hgs_reader.specs.Line.{line_asks, line_at}
use Rattle.hgs_load.specs.View.{View}
use Rattle.hgs_load.specs.Open.{open_asks}
use Rattle.hgs_load.specs.Theorems.AskLemmas.{either}
use Rattle.hgs_load.specs.Theorems.RestLemmas.{answers_at_rest, refused_at_rest}
use Rattle.hgs_top.specs.declared.stopped.Stopped.{Stopped}
use Rattle.hgs_top.specs.declared.stopped.Stopped.TheVariants.{Refused, Unwritten}
use Rattle.hgs_top.specs.declared.window.Window.{Window}
use Rattle.hgs_top.specs.Outcome.{Outcome, refused, line_then, lines_down, lines_of_view, log_of_view, log_outcome}
use Rattle.hgs_top.specs.Run.{OfTree, IsTold, IsFrontWritten, IsCut, IsGathered, IsUnwritten, StopsAt}
use Rattle.hgs_top.specs.Windows.{chunk_in, chunk_span, held_asks}
use Rattle.hgs_top.proofs.WindowLemmas.{IsOf, held_at_rest, held_is_found}
use Rattle.hgs_top.proofs.Written.{adds_on, cut_on, nothing}

-- of the view's lines so many are left; those before were written or gathered
pub record IsHalfWay (t : Tree) (view : View) (left : ℕ) (old new : Option (List ℕ)) (gathered : List ℕ) : Type 0 where
  pub done : List ℕ
  pub written : IsWritten old new done
  pub text : done ++ gathered ++ (lines_down (λ rev. at_rest t (line_asks view rev)) left).text ≡ (lines_of_view t view).text
  pub refusal : (lines_down (λ rev. at_rest t (line_asks view rev)) left).refusal ≡ (lines_of_view t view).refusal

pub nothing_written : (o : Option (List ℕ)) → IsWritten o o []
nothing_written o = nothing o

-- nothing was written, and all lines are left
pub at_first : (t : Tree) (view : View) (left : ℕ) (o : Option (List ℕ)) (gathered : List ℕ) → left ≡ length view.changelog.entries → gathered ≡ [] → IsHalfWay t view left o o gathered
at_first t view left o gathered l e = record {
  done = [];
  written = nothing_written o;
  text = ap (λ g. g ++ (lines_down (λ rev. at_rest t (line_asks view rev)) left).text) e ∙ ap (λ n. (lines_down (λ rev. at_rest t (line_asks view rev)) n).text) l;
  refusal = ap (λ n. (lines_down (λ rev. at_rest t (line_asks view rev)) n).refusal) l;
}

next_line : (line : ℕ → Result (List ℕ) ReadAnswer) (left : ℕ) → 0 < left → lines_down line left ≡ line_then (line (left - 1)) (lines_down line (left - 1))
next_line line zero h = absurd (omega arith)
next_line line (suc n) h = let e : n ≡ suc n - 1 = omega arith in ap (λ k. line_then (line k) (lines_down line k)) e

-- one more line was gathered, and some of them written
pub half_on : (t : Tree) (view : View) (left : ℕ) (old mid new : Option (List ℕ)) (g0 g1 g2 text : List ℕ) → 0 < left → IsHalfWay t view left old mid g0 → at_rest t (line_asks view (left - 1)) ≡ Ok text → g1 ≡ g0 ++ text →
    (d : List ℕ) × IsWritten mid new d × (d ++ g2 ≡ g1) → IsHalfWay t view (left - 1) old new g2
half_on t view left old mid new g0 g1 g2 text pos h line g w =
    let lines : ℕ → Result (List ℕ) ReadAnswer = λ rev. at_rest t (line_asks view rev) in
    let rest = (lines_down lines (left - 1)).text in
    let next : lines_down lines left ≡ line_then (Ok text) (lines_down lines (left - 1)) = next_line lines left pos ∙ ap (λ r. line_then r (lines_down lines (left - 1))) line in
    record {
      done = h.done ++ w.0;
      written = adds_on old mid new h.done w.0 (h.done ++ w.0) h.written w.1 refl;
      text = ap (λ l. l ++ rest) (append_assoc h.done w.0 g2 ∙ ap (λ l. h.done ++ l) (w.2 ∙ g)) ∙ ap (λ l. l ++ rest) (sym (append_assoc h.done g0 text)) ∙ append_assoc (h.done ++ g0) text rest
          ∙ ap (λ (o : Outcome). h.done ++ g0 ++ o.text) (sym next) ∙ h.text;
      refusal = ap (λ (o : Outcome). o.refusal) (sym next) ∙ h.refusal;
    }

-- a line was refused
pub half_refused : (t : Tree) (view : View) (left : ℕ) (old mid : Option (List ℕ)) (g0 g1 : List ℕ) (e : ReadAnswer) → 0 < left → IsHalfWay t view left old mid g0 → g1 ≡ g0 → MatchBool (is_of_outside e) ⊤ (at_rest t (line_asks view (left - 1)) ≡ Err e) →
    IsGathered (lines_of_view t view) old mid g1 (Err (Refused e))
half_refused t view left old mid g0 g1 e pos h g line =
    let lines : ℕ → Result (List ℕ) ReadAnswer = λ rev. at_rest t (line_asks view rev) in
    let rest = (lines_down lines left).text in (
      h.done,
      h.written,
      rest,
      ap (λ l. h.done ++ l ++ rest) g ∙ h.text,
      either (is_of_outside e) _ _
          (λ r. let next : lines_down lines left ≡ refused e = next_line lines left pos ∙ ap (λ q. line_then q (lines_down lines (left - 1))) r in (
            ap (λ (o : Outcome). o.text) next,
            sym h.refusal ∙ ap (λ (o : Outcome). o.refusal) next,
          ))
          line,
    )

-- the sink took a front of what was gathered
pub half_unwritten : (t : Tree) (view : View) (left : ℕ) (old mid new : Option (List ℕ)) (g0 g1 text : List ℕ) → 0 < left → IsHalfWay t view left old mid g0 → at_rest t (line_asks view (left - 1)) ≡ Ok text → g1 ≡ g0 ++ text →
    IsCut mid new g1 → IsCut old new (lines_of_view t view).text
half_unwritten t view left old mid new g0 g1 text pos h line g f =
    let lines : ℕ → Result (List ℕ) ReadAnswer = λ rev. at_rest t (line_asks view rev) in
    let rest = (lines_down lines (left - 1)).text in
    let next : lines_down lines left ≡ line_then (Ok text) (lines_down lines (left - 1)) = next_line lines left pos ∙ ap (λ r. line_then r (lines_down lines (left - 1))) line in
    cut_on old mid new h.done g1 rest (lines_of_view t view).text h.written f
    (ap (λ l. h.done ++ (l ++ rest)) g ∙ ap (λ l. h.done ++ l) (append_assoc g0 text rest) ∙ sym (append_assoc h.done g0 (text ++ rest)) ∙ ap (λ (o : Outcome). h.done ++ g0 ++ o.text) (sym next) ∙ h.text)

-- ---- where the log is told

pub of_each : (seen : Option (List Op)) (start : Tree) (P Q : Tree → Type 0) → ((t : Tree) → P t → Q t) → OfTree seen start P → OfTree seen start Q
of_each None start P Q f h = tt
of_each (Some l) start P Q f h = f (after_all l start) h

pub of_all : (seen : Option (List Op)) (start : Tree) (P : Tree → Type 0) → ((t : Tree) → P t) → OfTree seen start P
of_all None start P f = tt
of_all (Some l) start P f = f (after_all l start)

-- the window holds the chunk of the next line, which is that of the files
abbrev pub HasLine : Tree → View → ℕ → Option (List ℕ) → Option (List ℕ) → List ℕ → Window → Type 0
HasLine t view left old new gathered window =
    IsHalfWay t view left old new gathered × IsOf t view window × (line_at view (left - 1) (chunk_in window (chunk_span view.changelog (left - 1))) ≡ at_rest t (line_asks view (left - 1)))

module _ (seen0 seen1 seen2 : Option (List Op)) (start0 start1 : Tree) (view : View) (left : ℕ) (old mid : Option (List ℕ)) (g : List ℕ) (window : Window) (s1 : seen1 ≡ seen0) (s2 : seen2 ≡ seen1) (st : start1 ≡ start0) where
  here : (r : Result Window ReadAnswer) → Answers (λ (w : Window). w) seen1 start1 seen2 (held_asks view window (left - 1)) r → Answers (λ (w : Window). w) seen0 start0 seen2 (held_asks view window (left - 1)) r
  here r a =
      let P : Option (List Op) → Type 0 = λ o. Answers (λ (w : Window). w) o start1 seen2 (held_asks view window (left - 1)) r in
      let Q : Tree → Type 0 = λ t. Answers (λ (w : Window). w) seen0 t seen2 (held_asks view window (left - 1)) r in
      subst Q st (subst P s1 a)

  pub held_told : (next : Window) → OfTree seen0 start0 (λ t. IsHalfWay t view left old mid g × IsOf t view window) → Answers (λ (w : Window). w) seen1 start1 seen2 (held_asks view window (left - 1)) (Ok next) → OfTree seen0 start0 (λ t. HasLine t view left old mid g next)
  held_told next h a = by seen0 refl h (here (Ok next) a)
    where
      by : (seen : Option (List Op)) → seen ≡ seen0 → OfTree seen start0 (λ t. IsHalfWay t view left old mid g × IsOf t view window) → Answers (λ (w : Window). w) seen0 start0 seen2 (held_asks view window (left - 1)) (Ok next) → OfTree seen start0 (λ t. HasLine t view left old mid g next)
      by None q h b = tt
      by (Some l) q h b =
          let found = answers_at_rest (λ (w : Window). w) seen0 seen2 l start0 (held_asks view window (left - 1)) next (sym q) (s2 ∙ s1) b in
          let k = held_at_rest (after_all l start0) view window next (left - 1) h.1 found in
          (h.0, k.0, k.1)

  pub unheld_told : (e : ReadAnswer) → 0 < left → OfTree seen0 start0 (λ t. IsHalfWay t view left old mid g × IsOf t view window) → Answers (λ (w : Window). w) seen1 start1 seen2 (held_asks view window (left - 1)) (Err e) → OfTree seen0 start0 (λ t. IsGathered (lines_of_view t view) old mid g (Err (Refused e)))
  unheld_told e pos h a = by seen0 refl h (here (Err e) a)
    where
      by : (seen : Option (List Op)) → seen ≡ seen0 → OfTree seen start0 (λ t. IsHalfWay t view left old mid g × IsOf t view window) → Answers (λ (w : Window). w) seen0 start0 seen2 (held_asks view window (left - 1)) (Err e) → OfTree seen start0 (λ t. IsGathered (lines_of_view t view) old mid g (Err (Refused e)))
      by None q h b = tt
      by (Some l) q h b =
          let t = after_all l start0 in
          half_refused t view left old mid g g e pos h.0 refl
          (either (is_of_outside e) _ _ (λ m. absurd (held_is_found t view window (left - 1) e m)) (refused_at_rest (λ (w : Window). w) seen0 seen2 l start0 (held_asks view window (left - 1)) e (sym q) (s2 ∙ s1) b))

module _ (seen : Option (List Op)) (start : Tree) (view : View) (left : ℕ) (old mid : Option (List ℕ)) (g0 g1 : List ℕ) (window : Window) (pos : 0 < left) (h : OfTree seen start (λ t. HasLine t view left old mid g0 window)) where
  abbrev line : Result (List ℕ) ReadAnswer
  line = line_at view (left - 1) (chunk_in window (chunk_span view.changelog (left - 1)))

  pub refused_told : (e : ReadAnswer) → AddsGiven line g0 g1 (Err e) → OfTree seen start (λ t. IsGathered (lines_of_view t view) old mid g1 (Err (Refused e)))
  refused_told e a = of_each seen start (λ t. HasLine t view left old mid g0 window) (λ t. IsGathered (lines_of_view t view) old mid g1 (Err (Refused e))) (λ t k. half_refused t view left old mid g0 g1 e pos k.0 a.0 (either (is_of_outside e) _ _ (λ m. sym k.2 ∙ m) a.1)) h

  pub next_told : (new : Option (List ℕ)) (g2 : List ℕ) (u : Unit) → AddsGiven line g0 g1 (Ok u) → (d : List ℕ) × IsWritten mid new d × (d ++ g2 ≡ g1) → OfTree seen start (λ t. IsHalfWay t view (left - 1) old new g2 × IsOf t view window)
  next_told new g2 u a w = of_each seen start (λ t. HasLine t view left old mid g0 window) (λ t. IsHalfWay t view (left - 1) old new g2 × IsOf t view window) (λ t k. (half_on t view left old mid new g0 g1 g2 a.0 pos k.0 (sym k.2 ∙ a.2) a.1 w, k.1)) h

  pub unwritten_told : (new : Option (List ℕ)) (u : Unit) → AddsGiven line g0 g1 (Ok u) → IsCut mid new g1 → OfTree seen start (λ t. IsCut old new (lines_of_view t view).text)
  unwritten_told new u a w = of_each seen start (λ t. HasLine t view left old mid g0 window) (λ t. IsCut old new (lines_of_view t view).text) (λ t k. half_unwritten t view left old mid new g0 g1 a.0 pos k.0 (sym k.2 ∙ a.2) a.1 w) h

-- ---- the whole of `log`

-- what holds of the lines of the opened view holds of the outcome
pub opened : (seen0 seen1 : Option (List Op)) (start0 start1 : Tree) (view : View) (P : Outcome → Type 0) → seen1 ≡ seen0 → start1 ≡ start0 → Answers (λ (s : View). s) seen0 start0 seen1 open_asks (Ok view) →
    OfTree seen1 start1 (λ t. P (lines_of_view t view)) → OfTree seen0 start0 (λ t. P (log_outcome t))
opened None seen1 start0 start1 view P s st a h = tt
opened (Some l) seen1 start0 start1 view P s st a h =
    let t = after_all l start0 in
    let S : Option (List Op) → Type 0 = λ o. OfTree o start1 (λ t. P (lines_of_view t view)) in
    let T : Tree → Type 0 = λ q. P (lines_of_view (after_all l q) view) in
    let found : at_rest t open_asks ≡ Ok view = answers_at_rest (λ (v : View). v) (Some l) seen1 l start0 open_asks view refl s a in
    subst P (sym (ap (log_of_view t) found)) (subst T st (subst S s h))

-- the loading was refused
pub unopened : (says : Tree → Result View ReadAnswer → Outcome) (seen0 seen1 : Option (List Op)) (start : Tree) (e : ReadAnswer) (o : Option (List ℕ)) → ((t : Tree) → says t (Err e) ≡ refused e) → seen1 ≡ seen0
    → Answers (λ (s : View). s) seen0 start seen1 open_asks (Err e) → OfTree seen0 start (λ t. IsTold (says t (at_rest t open_asks)) o o (Err (Refused e)))
unopened says None seen1 start e o same s a = tt
unopened says (Some l) seen1 start e o same s a =
    told_by (is_of_outside e) (refused_at_rest (λ (v : View). v) (Some l) seen1 l start open_asks e refl s a)
  where
    told_by : (b : Bool) → MatchBool b ⊤ (at_rest (after_all l start) open_asks ≡ Err e)
        → MatchBool b (IsFrontWritten o o (says (after_all l start) (at_rest (after_all l start) open_asks)).text) (((says (after_all l start) (at_rest (after_all l start) open_asks)).refusal ≡ Some e) × IsWritten o o (says (after_all l start) (at_rest (after_all l start) open_asks)).text)
    told_by true m = (0, nothing_written o)
    told_by false m =
        let is = ap (says (after_all l start)) m ∙ same (after_all l start) in
        let P : List ℕ → Type 0 = λ x. IsWritten o o x in
        (ap (λ (q : Outcome). q.refusal) is, subst P (sym (ap (λ (q : Outcome). q.text) is)) (nothing_written o))

-- the last of the lines were written, or a front of them
pub last_told : (o : Outcome) (old mid new : Option (List ℕ)) (g : List ℕ) (u : Unit) (r : Result Unit Stopped) → IsGathered o old mid g (Ok u) → OnOk r (IsWritten mid new g) → IfErr r (λ e. IsUnwritten e × IsCut mid new g) → IsTold o old new r
last_told o old mid new g u (Ok x) h a b = (h.3, adds_on old mid new h.0 g o.text h.1 a h.2)
last_told o old mid new g u (Err (Refused e)) h a b = absurd b.0
last_told o old mid new g u (Err (Unwritten f)) h a b = cut_on old mid new h.0 g [] o.text h.1 b.1 (ap (λ l. h.0 ++ l) (append-nil g) ∙ h.2)

front_of_whole : (x y z : List ℕ) → x ++ y ≡ z → take (length x) z ≡ x
front_of_whole x y z e = ap (take (length x)) (sym e) ∙ take_at x y (length x) refl

before_by : (b : Bool) (o : Outcome) (old mid new : Option (List ℕ)) (g done rest : List ℕ) (e : ReadAnswer) → IsWritten old mid done → done ++ g ++ rest ≡ o.text → MatchBool b ⊤ ((rest ≡ []) × (o.refusal ≡ Some e)) → IsWritten mid new g →
    MatchBool b (IsFrontWritten old new o.text) ((o.refusal ≡ Some e) × IsWritten old new o.text)
before_by true o old mid new g done rest e w t m a = (length (done ++ g), adds_on old mid new done g (take (length (done ++ g)) o.text) w a (sym (front_of_whole (done ++ g) rest o.text t)))
before_by false o old mid new g done rest e w t m a = (m.1, adds_on old mid new done g o.text w a (sym (append-nil (done ++ g)) ∙ ap (λ l. done ++ g ++ l) (sym m.0) ∙ t))

-- the lines before the refusal were written, or a front of them
pub before_told : (o : Outcome) (old mid new : Option (List ℕ)) (g : List ℕ) (e : ReadAnswer) (r : Result Unit Stopped) → IsGathered o old mid g (Err (Refused e)) → IfErr r (λ s. StopsAt s e mid new g) → IsErr r → IsTold o old new r
before_told o old mid new g e (Ok x) h a b = cc
before_told o old mid new g e (Err (Refused f)) h a b =
    let P : ReadAnswer → Type 0 = λ q. IsTold o old new (Err (Refused q)) in
    subst P (sym a.0) (before_by (is_of_outside e) o old mid new g h.0 h.2 e h.1 h.3 h.4 a.1)
before_told o old mid new g e (Err (Unwritten f)) h a b = cut_on old mid new h.0 g h.2 o.text h.1 a (sym (append_assoc h.0 g h.2) ∙ h.3)
