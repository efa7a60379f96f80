-- Windows of the file in which the chunks of a changelog stand.
use Rattle.std.proofs.Common.{◌≡◌, ℕ, zero, suc, ◌+◌, ◌-◌, ◌<◌, ◌≤◌, Bool, true, false, ◌&&◌, nat_le, List, [], take, drop, Option, Some, None, Result, Ok, Err, slice_get, if◌then◌else◌, refl, sym, ◌∙◌, ap, subst, arith}
use Rattle.std.specs.Prelude.{unwrap_or}
use Rattle.std.specs.Option.{option_map}
use Rattle.std.proofs.lemmas.Bool.Decides.{nat_tests}
use Rattle.std.proofs.lemmas.List.{drop-take, take-take, drop-drop}
use Rattle.hgs_files.specs.Tree.{Tree}
use Rattle.hgs_index.specs.declared.entry.Entry.{Entry}
use Rattle.hgs_index.specs.declared.kinds.Span.{Span}
use Rattle.hgs_revlog.specs.Log.{Log}
use Rattle.hgs_revlog.specs.Text.{span_in}
use Rattle.hgs_load.specs.declared.answer.ReadAnswer.{ReadAnswer}
use Rattle.hgs_load.specs.Asks.{answer, at_rest, part_of}
use Rattle.hgs_load.specs.View.{View}
use Rattle.hgs_load.specs.Theorems.PartLemmas.{part_is}
use Rattle.hgs_reader.specs.Line.{changeset_asks, chunks_path, line_at, line_asks}
use Rattle.hgs_top.specs.declared.window.Window.{Window}
use Rattle.hgs_top.specs.Windows.{span_or_empty, chunk_span, most_window, back_to, goes_back, back_over, window_of, stands_in, chunk_in, no_window, window_asks, held_asks}

-- ---- lists

-- a part of what was read of a file is what a read of that part alone gives, wherever the file ends
pub part_again : (from a n w : ℕ) (file : List ℕ) → from ≤ a → a + n ≤ from + w → take n (drop (a - from) (take w (drop from file))) ≡ take n (drop a file)
part_again from a n w file low high =
    let k = a - from in
    let m = w - k in
    let split : w ≡ k + m = omega (arith, low, high) in
    let back : from + k ≡ a = omega (arith, low) in
    ap (λ v. take n (drop k (take v (drop from file)))) split ∙ ap (take n) (drop-take k m (drop from file)) ∙ take-take n m (drop k (drop from file)) (omega (arith, low, high)) ∙ ap (take n) (drop-drop k from file ∙ ap (λ i. drop i file) back)

-- ---- how far a window goes back

both : (a b : Bool) → (a && b) ≡ true → (a ≡ true) × (b ≡ true)
both true true e = (refl, refl)
both true false e = cc
both false b e = cc

at_most : (a b : ℕ) → nat_le a b ≡ true → a ≤ b
at_most a b e = grind (arith, nat_tests, e)

is_most : (a b : ℕ) → a ≤ b → nat_le a b ≡ true
is_most a b e = grind (arith, nat_tests, e)

both_most : (a b c d : ℕ) → a ≤ b → c ≤ d → (nat_le a b && nat_le c d) ≡ true
both_most a b c d e f = ap (λ x. x && nat_le c d) (is_most a b e) ∙ is_most c d f

next_back : (chunk : ℕ → Span) (window : Span) (first : ℕ) → 0 < first → back_over chunk window first ≡ if goes_back window (chunk (first - 1)) then back_over chunk (back_to window (chunk (first - 1))) (first - 1) else window
next_back chunk window zero h = absurd (omega (arith, h))
next_back chunk window (suc n) h = let e : n ≡ suc n - 1 = omega arith in ap (λ k. if goes_back window (chunk k) then back_over chunk (back_to window (chunk k)) k else window) e

-- one chunk more
pub back_on : (log : Log) (window : Span) (first : ℕ) (chunk : Span) → 0 < first → option_map (span_in log.inline (first - 1)) (slice_get log.entries (first - 1)) ≡ Some chunk → chunk.from ≤ window.from → window.len + (window.from - chunk.from) ≤ most_window →
    back_over (chunk_span log) (back_to window chunk) (first - 1) ≡ back_over (chunk_span log) window first
back_on log window first chunk some at low near =
    let is : chunk_span log (first - 1) ≡ chunk = ap span_or_empty at in
    sym (next_back (chunk_span log) window first some ∙ ap (λ c. if goes_back window c then back_over (chunk_span log) (back_to window c) (first - 1) else window) is
    ∙ ap (λ b. if b then back_over (chunk_span log) (back_to window chunk) (first - 1) else window) (both_most chunk.from window.from (back_to window chunk).len most_window low near))

-- a window holds what it began with
record Covers (window chunk : Span) : Type 0 where
  low : window.from ≤ chunk.from
  high : chunk.from + chunk.len ≤ window.from + window.len

wider : (window before chunk : Span) → goes_back window before ≡ true → Covers window chunk → Covers (back_to window before) chunk
wider window before chunk g c =
    let less = at_most before.from window.from (both (nat_le before.from window.from) (nat_le (back_to window before).len most_window) g).0 in
    let l = c.low in
    let h = c.high in
    record { low = omega (arith, less, l); high = omega (arith, less, h) }

back_covers : (place : ℕ → Span) (window chunk : Span) (n : ℕ) → Covers window chunk → Covers (back_over place window n) chunk
back_covers place window chunk zero c = c
back_covers place window chunk (suc n) c = by (λ e. back_covers place (back_to window (place n)) chunk n (wider window (place n) chunk e c)) (goes_back window (place n)) refl
  where
    by : (goes_back window (place n) ≡ true → Covers (back_over place (back_to window (place n)) n) chunk) → (b : Bool) → goes_back window (place n) ≡ b → Covers (if b then back_over place (back_to window (place n)) n else window) chunk
    by more true e = more e
    by more false e = c

window_covers : (log : Log) (rev : ℕ) → Covers (window_of log rev) (chunk_span log rev)
window_covers log rev = back_covers (chunk_span log) (chunk_span log rev) (chunk_span log rev) rev (record { low = omega arith; high = omega arith })

-- ---- files at rest

-- the window is what a read of it gives in this tree
abbrev pub IsOf : Tree → View → Window → Type 0
IsOf t view window = unwrap_or window.part [] ≡ take window.span.len (drop window.span.from (unwrap_or (t (chunks_path view.changelog.inline)) []))

pub none_is_of : (t : Tree) (view : View) → IsOf t view no_window
none_is_of t view = refl

-- what a window gives of a chunk is what a read of the chunk gives
same_chunk : (t : Tree) (view : View) (window : Window) (chunk : Span) → IsOf t view window → Covers window.span chunk → chunk_in window chunk ≡ take chunk.len (drop chunk.from (unwrap_or (t (chunks_path view.changelog.inline)) []))
same_chunk t view window chunk is c =
    ap (λ l. take chunk.len (drop (chunk.from - window.span.from) l)) is ∙ part_again window.span.from chunk.from chunk.len window.span.len (unwrap_or (t (chunks_path view.changelog.inline)) []) c.low c.high

-- the line of a changeset at rest is that of its chunk
line_at_rest : (inline : Bool) (t : Tree) (rev : ℕ) (e : Entry) (given : List ℕ → Result (List ℕ) ReadAnswer) →
    at_rest t (changeset_asks inline rev (Some e) given) ≡ given (take (span_in inline rev e).len (drop (span_in inline rev e).from (unwrap_or (t (chunks_path inline)) [])))
line_at_rest false t rev e given = ap given (part_is (t (chunks_path false)) (span_in false rev e).from (span_in false rev e).len)
line_at_rest true t rev e given = ap given (part_is (t (chunks_path true)) (span_in true rev e).from (span_in true rev e).len)

none_at_rest : (inline : Bool) (t : Tree) (rev : ℕ) (given : List ℕ → Result (List ℕ) ReadAnswer) → at_rest t (changeset_asks inline rev None given) ≡ given []
none_at_rest false t rev given = refl
none_at_rest true t rev given = refl

line_in_window : (t : Tree) (view : View) (window : Window) (rev : ℕ) → IsOf t view window → Covers window.span (chunk_span view.changelog rev) → line_at view rev (chunk_in window (chunk_span view.changelog rev)) ≡ at_rest t (line_asks view rev)
line_in_window t view window rev is c = by (slice_get view.changelog.entries rev) refl
  where
    by : (o : Option Entry) → slice_get view.changelog.entries rev ≡ o → line_at view rev (chunk_in window (chunk_span view.changelog rev)) ≡ at_rest t (line_asks view rev)
    by None e =
        let place : chunk_span view.changelog rev ≡ record { from = 0; len = 0 } = ap (λ q. span_or_empty (option_map (span_in view.changelog.inline rev) q)) e in
        ap (λ s. line_at view rev (chunk_in window s)) place ∙ sym (none_at_rest view.changelog.inline t rev (line_at view rev)) ∙ ap (λ q. at_rest t (changeset_asks view.changelog.inline rev q (line_at view rev))) (sym e)
    by (Some entry) e =
        let place : chunk_span view.changelog rev ≡ span_in view.changelog.inline rev entry = ap (λ q. span_or_empty (option_map (span_in view.changelog.inline rev) q)) e in
        ap (line_at view rev) (same_chunk t view window (chunk_span view.changelog rev) is c
        ∙ ap (λ (s : Span). take s.len (drop s.from (unwrap_or (t (chunks_path view.changelog.inline)) []))) place)
        ∙ sym (line_at_rest view.changelog.inline t rev entry (line_at view rev)) ∙ ap (λ q. at_rest t (changeset_asks view.changelog.inline rev q (line_at view rev))) (sym e)

ok_is : (x y : Window) → (let r : Result Window ReadAnswer = Ok x in r) ≡ Ok y → x ≡ y
ok_is x y e = cc

-- The window that holds a chunk is what a read of it gives, and gives the changeset's line.
pub held_at_rest : (t : Tree) (view : View) (window next : Window) (rev : ℕ) → IsOf t view window → at_rest t (held_asks view window rev) ≡ Ok next → IsOf t view next × (line_at view rev (chunk_in next (chunk_span view.changelog rev)) ≡ at_rest t (line_asks view rev))
held_at_rest t view window next rev is held = by (stands_in window.span (chunk_span view.changelog rev)) refl held
  where
    chunk : Span
    chunk = chunk_span view.changelog rev

    found : (w : Window) → IsOf t view w → Covers w.span chunk → w ≡ next → IsOf t view next × (line_at view rev (chunk_in next chunk) ≡ at_rest t (line_asks view rev))
    found w is c e =
        let P : Window → Type 0 = λ x. IsOf t view x × (line_at view rev (chunk_in x chunk) ≡ at_rest t (line_asks view rev)) in
        subst P e (is, line_in_window t view w rev is c)

    path : List ℕ
    path = chunks_path view.changelog.inline

    span : Span
    span = window_of view.changelog rev

    by : (b : Bool) → stands_in window.span chunk ≡ b → at_rest t (if b then answer (Ok window) else window_asks path span) ≡ Ok next → IsOf t view next × (line_at view rev (chunk_in next chunk) ≡ at_rest t (line_asks view rev))
    by true e h =
        let two = both (nat_le window.span.from chunk.from) (nat_le (chunk.from + chunk.len) (window.span.from + window.span.len)) e in
        found window is (record { low = at_most window.span.from chunk.from two.0; high = at_most (chunk.from + chunk.len) (window.span.from + window.span.len) two.1 }) (ok_is window next h)
    by false e h =
        let w : Window = record { span = span; part = part_of t path span.from span.len } in
        found w (part_is (t path) span.from span.len) (window_covers view.changelog rev) (ok_is w next h)

no_refusal : (w : Window) (e : ReadAnswer) → (let r : Result Window ReadAnswer = Ok w in r) ≡ Err e → ⊥
no_refusal w e h = cc

-- files at rest refuse no window
pub held_is_found : (t : Tree) (view : View) (window : Window) (rev : ℕ) (e : ReadAnswer) → at_rest t (held_asks view window rev) ≡ Err e → ⊥
held_is_found t view window rev e h = by (stands_in window.span (chunk_span view.changelog rev)) h
  where
    path : List ℕ
    path = chunks_path view.changelog.inline

    span : Span
    span = window_of view.changelog rev

    by : (b : Bool) → at_rest t (if b then answer (Ok window) else window_asks path span) ≡ Err e → ⊥
    by true h = no_refusal window e h
    by false h = no_refusal (record { span = span; part = part_of t path span.from span.len }) e h
