-- What a question reads, one part after another.
use Rattle.std.proofs.Common.{◌≡◌, ℕ, zero, suc, ◌-◌, ◌<◌, Bool, true, false, List, Option, Some, Result, Ok, Err, refl, sym, subst, arith}
use Rattle.std.specs.Bool.{MatchBool}
use Rattle.hgs_files.specs.declared.op.Op.{Op}
use Rattle.hgs_files.specs.Reads.{Grows}
use Rattle.hgs_files.specs.Tree.{Tree}
use Rattle.hgs_load.specs.declared.answer.ReadAnswer.{ReadAnswer}
use Rattle.hgs_load.specs.Answer.{is_of_outside}
use Rattle.hgs_load.specs.Asks.{Asks, answer, then_asks}
use Rattle.hgs_load.specs.Given.{Gave, GaveRefused, TakesText}
use Rattle.hgs_load.specs.Open.{open_asks}
use Rattle.hgs_load.specs.View.{View}
use Rattle.hgs_load.specs.Theorems.GivenLemmas.{gave-none, gave-then, gave-both}
use Rattle.hgs_reader.specs.Line.{line_at}
use Rattle.hgs_reader.specs.Names.{named}
use Rattle.hgs_top.specs.Given.{reads_of_rev, contents_reads, ReadsOnly}
use Rattle.hgs_top.specs.declared.window.Window.{Window}
use Rattle.hgs_top.specs.Outcome.{Subject, contents_asks}
use Rattle.hgs_top.specs.Windows.{behind_line, chunk_in, chunk_span, held_asks, lines_behind}

-- a refusal left something of the question
abbrev left_of : {B : Type 0} → ℕ → ℕ → Option (List Op) → Tree → Option (List Op) → Asks (Result B ReadAnswer) → Type 0
left_of {B} g0 g1 before start after q = (left : Asks (Result B ReadAnswer)) × Gave g0 g1 before start after q left

pub refused-left : {B : Type 0} (b : Bool) (g0 g1 : ℕ) (before after : Option (List Op)) (start : Tree) (q : Asks (Result B ReadAnswer)) (e : ReadAnswer) → MatchBool b (left_of g0 g1 before start after q) (Gave g0 g1 before start after q (answer (Err e))) → left_of g0 g1 before start after q
refused-left true g0 g1 before after start q e m = m
refused-left false g0 g1 before after start q e m = (answer (Err e), m)

-- the first part was refused
pub only-refused : {A : Type 0} (g0 g1 : ℕ) (before after : Option (List Op)) (start : Tree) (q : Asks (Result A ReadAnswer)) (more : A → Asks (Result Unit ReadAnswer)) (e : ReadAnswer) → GaveRefused g0 g1 before start after q e → ReadsOnly g0 g1 before start after (then_asks q more)
only-refused g0 g1 before after start q more e h =
    let l = refused-left (is_of_outside e) g0 g1 before after start q e h in
    (then_asks l.0 more, gave-then g0 g1 before after start q l.0 more l.1)

-- the first part was answered, and what is behind it was not asked
pub only-first : {A : Type 0} (g0 g1 : ℕ) (before after : Option (List Op)) (start : Tree) (q : Asks (Result A ReadAnswer)) (more : A → Asks (Result Unit ReadAnswer)) (x : A) → Gave g0 g1 before start after q (answer (Ok x)) → ReadsOnly g0 g1 before start after (then_asks q more)
only-first g0 g1 before after start q more x h = (more x, gave-then g0 g1 before after start q (answer (Ok x)) more h)

-- the first part was answered, and what is behind it was asked
pub only-behind : {A : Type 0} (g0 g1 g2 : ℕ) (before now next : Option (List Op)) (start start_now : Tree) (q : Asks (Result A ReadAnswer)) (more : A → Asks (Result Unit ReadAnswer)) (x : A) → start_now ≡ start → Gave g0 g1 before start now q (answer (Ok x)) → ReadsOnly g1 g2 now start_now next (more x) → ReadsOnly g0 g2 before start next (then_asks q more)
only-behind g0 g1 g2 before now next start start_now q more x s h k =
    (k.0, gave-both g0 g1 g2 before now next start start_now (then_asks q more) (more x) k.0 s (gave-then g0 g1 before now start q (answer (Ok x)) more h) k.1)

pub only-none : (given : ℕ) (seen : Option (List Op)) (start : Tree) (q : Asks (Result Unit ReadAnswer)) → Grows seen seen → ReadsOnly given given seen start seen q
only-none given seen start q g = (q, gave-none given given seen seen start q refl g)

text-only : (g0 g1 : ℕ) (before after : Option (List Op)) (start : Tree) (q : Asks (Result (List ℕ) ReadAnswer)) (more : List ℕ → Asks (Result Unit ReadAnswer)) (old new : List ℕ) (r : Result Unit ReadAnswer) → TakesText g0 g1 before start after q old new r → ReadsOnly g0 g1 before start after (then_asks q more)
text-only g0 g1 before after start q more old new (Ok u) h = only-first g0 g1 before after start q more h.0 h.2
text-only g0 g1 before after start q more old new (Err e) h = only-refused g0 g1 before after start q more e h

-- what is asked of a changeset that a name names
pub contents-only : (g0 g1 g2 : ℕ) (before now next : Option (List Op)) (start start_now : Tree) (view : View) (name : List ℕ) (subject : Subject) (rev : ℕ) (old new : List ℕ) (r : Result Unit ReadAnswer) → start_now ≡ start → Gave g0 g1 before start now open_asks (answer (Ok view)) → Some rev ≡ named view name
    → TakesText g1 g2 now start_now next (contents_asks view rev subject) old new r → ReadsOnly g0 g2 before start next (contents_reads name subject)
contents-only g0 g1 g2 before now next start start_now view name subject rev old new r s opened found h =
    let P : Option ℕ → Type 0 = λ o. ReadsOnly g1 g2 now start_now next (reads_of_rev view subject o) in
    only-behind g0 g1 g2 before now next start start_now open_asks (λ view. reads_of_rev view subject (named view name)) view s opened
    (subst P found (text-only g1 g2 now next start_now (contents_asks view rev subject) (λ text. answer (Ok tt)) old new r h))

-- ---- lines

none : 0 < 0 → ⊥
none h = omega (arith, h)

module _ (g0 g1 g2 : ℕ) (before now next : Option (List Op)) (start start_now : Tree) (whole : Asks (Result Unit ReadAnswer)) (view : View) (window : Window) (begun : start_now ≡ start) where
  -- the window of the next line is there
  pub held-on : (left : ℕ) (held : Window) → 0 < left → Gave g0 g1 before start now whole (lines_behind view window left) → Gave g1 g2 now start_now next (held_asks view window (left - 1)) (answer (Ok held))
      → Gave g0 g2 before start next whole (behind_line (line_at view (left - 1) (chunk_in held (chunk_span view.changelog (left - 1)))) (lines_behind view held (left - 1)))
  held-on zero held some gave h = absurd (none some)
  held-on (suc left) held some gave h =
      let less : suc left - 1 ≡ left = omega arith in
      let N : ℕ → Type 0 = λ n. Gave g1 g2 now start_now next (held_asks view window n) (answer (Ok held)) in
      let more : Window → Asks (Result Unit ReadAnswer) = λ w. behind_line (line_at view left (chunk_in w (chunk_span view.changelog left))) (lines_behind view w left) in
      let Q : ℕ → Type 0 = λ n. Gave g0 g2 before start next whole (behind_line (line_at view n (chunk_in held (chunk_span view.changelog n))) (lines_behind view held n)) in
      subst Q (sym less)
      (gave-both g0 g1 g2 before now next start start_now whole (lines_behind view window (suc left)) (more held) begun gave (gave-then g1 g2 now next start_now (held_asks view window left) (answer (Ok held)) more (subst N less h)))

  pub held-refused : (left : ℕ) (e : ReadAnswer) → 0 < left → Gave g0 g1 before start now whole (lines_behind view window left) → GaveRefused g1 g2 now start_now next (held_asks view window (left - 1)) e → ReadsOnly g0 g2 before start next whole
  held-refused zero e some gave h = absurd (none some)
  held-refused (suc left) e some gave h =
      let less : suc left - 1 ≡ left = omega arith in
      let N : ℕ → Type 0 = λ n. GaveRefused g1 g2 now start_now next (held_asks view window n) e in
      let more : Window → Asks (Result Unit ReadAnswer) = λ w. behind_line (line_at view left (chunk_in w (chunk_span view.changelog left))) (lines_behind view w left) in
      let l = only-refused g1 g2 now next start_now (held_asks view window left) more e (subst N less h) in
      (l.0, gave-both g0 g1 g2 before now next start start_now whole (lines_behind view window (suc left)) l.0 begun gave l.1)

-- the line was made
pub line-on : (g0 g1 : ℕ) (before after : Option (List Op)) (start : Tree) (whole rest : Asks (Result Unit ReadAnswer)) (line : Result (List ℕ) ReadAnswer) (text : List ℕ) → line ≡ Ok text → Gave g0 g1 before start after whole (behind_line line rest) → Gave g0 g1 before start after whole rest
line-on g0 g1 before after start whole rest line text is gave =
    let P : Result (List ℕ) ReadAnswer → Type 0 = λ r. Gave g0 g1 before start after whole (behind_line r rest) in
    subst P is gave
