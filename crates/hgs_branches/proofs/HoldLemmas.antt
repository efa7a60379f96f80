-- Windows as they were read of files that others may change meanwhile, and the changesets in them.
use Rattle.std.proofs.Common.{◌≡◌, ℕ, zero, suc, ◌+◌, ◌-◌, ◌<◌, ◌≤◌, Bool, true, false, List, [], ◌∷◌, ◌++◌, length, take, drop, Option, Some, None, Result, Ok, Err, slice_get, if◌then◌else◌, refl, sym, ◌∙◌, ap, subst, arith}
use Rattle.std.specs.Prelude.{IfSome, nat_lt, unwrap_or, ⊤}
use Rattle.std.specs.Bool.{MatchBool}
use Rattle.std.proofs.lemmas.Bool.Decides.{nat_tests}
use Rattle.std.proofs.lemmas.List.{drop-take, take-take, drop-drop}
use Rattle.hgs_bytes.specs.Bytes.{IsPrefixOf}
use Rattle.hgs_files.specs.declared.op.Op.{Op}
use Rattle.hgs_files.specs.Reads.{Grows}
use Rattle.hgs_files.specs.Tree.{Tree, after_all}
use Rattle.hgs_index.specs.ChangeText.{Change}
use Rattle.hgs_index.specs.declared.entry.Entry.{Entry}
use Rattle.hgs_index.specs.declared.kinds.Span.{Span}
use Rattle.hgs_revlog.specs.Log.{Log}
use Rattle.hgs_revlog.specs.Text.{span_in}
use Rattle.hgs_load.specs.declared.answer.ReadAnswer.{ReadAnswer}
use Rattle.hgs_load.specs.Answer.{is_of_outside}
use Rattle.hgs_load.specs.Asks.{answer, part_of, MayAnswer, MayAnswerWhereTold}
use Rattle.hgs_load.specs.Theorems.AskLemmas.{either, prefix-refl, prefix-trans}
use Rattle.hgs_load.specs.Theorems.PartLemmas.{part_is}
use Rattle.hgs_load.specs.View.{View}
use Rattle.hgs_reader.specs.Line.{change_asks, change_at, changeset_asks, chunks_path}
use Rattle.hgs_branch.specs.declared.changeset.OnBranch.{OnBranch}
use Rattle.hgs_branches.specs.Read.{IsMade, IsRead}
use Rattle.hgs_branches.specs.Windows.{chunk_in, chunk_span, held_asks, held_run, no_window, window_asks, window_of}
use Rattle.hgs_branches.specs.declared.window.Run.{Run}
use Rattle.hgs_branches.specs.declared.window.Window.{Window}
use Rattle.hgs_branches.proofs.WindowLemmas.{Covers, CoversFrom, place_is, window_is}

-- ---- lists

-- a part of what was read of a file is what a read of that part alone gives, wherever the file ends
part_again : (from a n w : ℕ) (file : List ℕ) → from ≤ a → a + n ≤ from + w → take n (drop (a - from) (take w (drop from file))) ≡ take n (drop a file)
part_again from a n w file low high =
    let k = a - from in
    let m = w - k in
    let split : w ≡ k + m = omega (arith, low, high) in
    let back : from + k ≡ a = omega (arith, low) in
    ap (λ v. take n (drop k (take v (drop from file)))) split ∙ ap (take n) (drop-take k m (drop from file)) ∙ take-take n m (drop k (drop from file)) (omega (arith, low, high)) ∙ ap (take n) (drop-drop k from file ∙ ap (λ i. drop i file) back)

-- ---- moments

-- the window is what a read of it gives in this tree
abbrev pub IsOf : Tree → View → Window → Type 0
IsOf t view window = unwrap_or window.part [] ≡ take window.run.span.len (drop window.run.span.from (unwrap_or (t (chunks_path view.changelog.inline)) []))

-- and so it was at a moment
abbrev pub WasOf : Tree → List Op → List Op → View → Window → Type 0
WasOf start first last view window = (log : List Op) × IsPrefixOf first log × IsPrefixOf log last × IsOf (after_all log start) view window

abbrev pub IsHeld : Option (List Op) → Tree → Option (List Op) → View → Window → Type 0
IsHeld before start now view window = IfSome before (λ first. IfSome now (λ last. WasOf start first last view window))

some_is : {A : Type 0} (x y : A) → Some x ≡ Some y → x ≡ y
some_is x y e = cc

grown : (first last : List Op) → Grows (Some first) (Some last) → IsPrefixOf first last
grown first last g = (g.0, some_is last (first ++ g.0) g.1)

pub none_held : (seen : Option (List Op)) (start : Tree) (view : View) (rev : ℕ) → IsHeld seen start seen view (no_window rev)
none_held None start view rev = tt
none_held (Some l) start view rev = (l, prefix-refl l, prefix-refl l, refl)

pub none_covers : (log : Log) (rev : ℕ) → CoversFrom log (no_window rev).run rev
none_covers log rev r lo hi = absurd (omega (arith, lo, hi))

ok_is : (x y : Window) → (let r : Result Window ReadAnswer = Ok x in r) ≡ Ok y → x ≡ y
ok_is x y e = cc

was_next : (start : Tree) (first mid last : List Op) (view : View) (window next : Window) (rev upto : ℕ) → IsPrefixOf first mid → IsPrefixOf mid last → WasOf start first mid view window → MayAnswer start mid (held_asks view window rev upto) last (Ok next) → WasOf start first last view next
was_next start first mid last view window next rev upto f g was h = by (nat_lt rev window.run.end) h
  where
    path : List ℕ
    path = chunks_path view.changelog.inline

    run : Run
    run = window_of view.changelog rev upto

    by : (b : Bool) → MayAnswer start mid (if b then answer (Ok window) else window_asks path run) last (Ok next) → WasOf start first last view next
    by true k =
        let P : Window → Type 0 = λ w. IsOf (after_all was.0 start) view w in
        (was.0, was.1, prefix-trans was.0 mid last was.2 g, subst P (sym (ok_is next window k.1)) was.3)
    by false k =
        let w : Window = record { run = run; part = part_of (after_all k.0 start) path run.span.from run.span.len } in
        let P : Window → Type 0 = λ w. IsOf (after_all k.0 start) view w in
        (k.0, prefix-trans first mid k.0 f k.1, k.2.0, subst P (sym (ok_is next w k.2.1)) (part_is (after_all k.0 start path) run.span.from run.span.len))

pub held_next : (before now next : Option (List Op)) (start later : Tree) (view : View) (window held : Window) (rev upto : ℕ) → later ≡ start → Grows before now → Grows now next → IsHeld before start now view window → MayAnswerWhereTold now later next (held_asks view window rev upto) (Ok held) → IsHeld before start next view held
held_next None now next start later view window held rev upto s f g was h = tt
held_next (Some first) None next start later view window held rev upto s f g was h = cc
held_next (Some first) (Some mid) None start later view window held rev upto s f g was h = tt
held_next (Some first) (Some mid) (Some last) start later view window held rev upto s f g was h =
    let P : Tree → Type 0 = λ t. MayAnswer t mid (held_asks view window rev upto) last (Ok held) in
    was_next start first mid last view window held rev upto (grown first mid f) (grown mid last g) was (subst P s h)

-- the window that is held has the chunk
pub covers_next : (view : View) (window held : Window) (rev upto : ℕ) → rev < upto → upto ≤ length view.changelog.entries → CoversFrom view.changelog window.run rev → held.run ≡ held_run view window rev upto → CoversFrom view.changelog held.run rev × (rev < held.run.end)
covers_next view window held rev upto lt there c is = by (nat_lt rev window.run.end) refl is
  where
    P : Run → Type 0
    P run = CoversFrom view.changelog run rev × (rev < run.end)

    by : (b : Bool) → nat_lt rev window.run.end ≡ b → held.run ≡ (if b then window.run else window_of view.changelog rev upto) → P held.run
    by true e k = subst P (sym k) (c, grind (arith, nat_tests, e))
    by false e k = let r = window_is view.changelog rev upto lt there in subst P (sym k) (r.covers, r.some)

pub covers_behind : (log : Log) (run : Run) (rev : ℕ) → CoversFrom log run rev → CoversFrom log run (rev + 1)
covers_behind log run rev c r lo hi = c r (omega (arith, lo)) hi

-- ---- changesets

same_chunk : (t : Tree) (view : View) (window : Window) (chunk : Span) → IsOf t view window → Covers window.run.span chunk → chunk_in window chunk ≡ take chunk.len (drop chunk.from (unwrap_or (t (chunks_path view.changelog.inline)) []))
same_chunk t view window chunk is c =
    ap (λ l. take chunk.len (drop (chunk.from - window.run.span.from) l)) is ∙ part_again window.run.span.from chunk.from chunk.len window.run.span.len (unwrap_or (t (chunks_path view.changelog.inline)) []) c.low c.high

may_change : (inline : Bool) (start : Tree) (first log last : List Op) (rev : ℕ) (e : Entry) (given : List ℕ → Result Change ReadAnswer) → IsPrefixOf first log → IsPrefixOf log last →
    MayAnswer start first (changeset_asks inline rev (Some e) given) last (given (take (span_in inline rev e).len (drop (span_in inline rev e).from (unwrap_or (after_all log start (chunks_path inline)) []))))
may_change false start first log last rev e given f g = (log, f, (g, ap given (sym (part_is (after_all log start (chunks_path false)) (span_in false rev e).from (span_in false rev e).len))))
may_change true start first log last rev e given f g = (log, f, (g, ap given (sym (part_is (after_all log start (chunks_path true)) (span_in true rev e).from (span_in true rev e).len))))

change_was : (start : Tree) (first last : List Op) (view : View) (window : Window) (rev : ℕ) (e : Entry) → slice_get view.changelog.entries rev ≡ Some e → Covers window.run.span (chunk_span view.changelog rev) → WasOf start first last view window →
    MayAnswer start first (change_asks view rev) last (change_at view rev (chunk_in window (chunk_span view.changelog rev)))
change_was start first last view window rev e at c was =
    let t = after_all was.0 start in
    let place = place_is view.changelog rev e at in
    let bytes : chunk_in window (chunk_span view.changelog rev) ≡ take (span_in view.changelog.inline rev e).len (drop (span_in view.changelog.inline rev e).from (unwrap_or (t (chunks_path view.changelog.inline)) [])) =
    same_chunk t view window (chunk_span view.changelog rev) was.3 c ∙ ap (λ (s : Span). take s.len (drop s.from (unwrap_or (t (chunks_path view.changelog.inline)) []))) place in
    let Y : Result Change ReadAnswer → Type 0 = λ y. MayAnswer start first (changeset_asks view.changelog.inline rev (Some e) (change_at view rev)) last y in
    let Q : Option Entry → Type 0 = λ o. MayAnswer start first (changeset_asks view.changelog.inline rev o (change_at view rev)) last (change_at view rev (chunk_in window (chunk_span view.changelog rev))) in
    subst Q (sym at) (subst Y (sym (ap (change_at view rev) bytes)) (may_change view.changelog.inline start first was.0 last rev e (change_at view rev) was.1 was.2))

-- what the window has of a chunk answers for its changeset
pub change_held : (before now : Option (List Op)) (start : Tree) (view : View) (window : Window) (rev : ℕ) (e : Entry) → slice_get view.changelog.entries rev ≡ Some e → Covers window.run.span (chunk_span view.changelog rev) → IsHeld before start now view window →
    MayAnswerWhereTold before start now (change_asks view rev) (change_at view rev (chunk_in window (chunk_span view.changelog rev)))
change_held None now start view window rev e at c was = tt
change_held (Some first) None start view window rev e at c was = tt
change_held (Some first) (Some last) start view window rev e at c was = change_was start first last view window rev e at c was

pub made_read : (before now : Option (List Op)) (start : Tree) (view : View) (window : Window) (rev : ℕ) (c : OnBranch) → Covers window.run.span (chunk_span view.changelog rev) → IsHeld before start now view window → IsMade view rev (chunk_in window (chunk_span view.changelog rev)) c → IsRead before start now view rev c
made_read before now start view window rev c covers was m =
    let P : Result Change ReadAnswer → Type 0 = λ y. MayAnswerWhereTold before start now (change_asks view rev) y in
    record { entry = m.entry; there = m.there; p1 = m.p1; p2 = m.p2; change = m.change; answer = subst P m.text (change_held before now start view window rev m.entry m.there covers was); branch = m.branch }
