-- Windows of the file in which the chunks of a changelog stand.
use Rattle.std.proofs.Common.{◌≡◌, ℕ, zero, suc, ◌+◌, ◌-◌, ◌<◌, ◌≤◌, Bool, true, false, ◌&&◌, nat_le, List, [], take, drop, Option, Some, None, Result, Ok, Err, slice_get, if◌then◌else◌, length, ◌⊎◌, inl, inr, refl, sym, ◌∙◌, ap, subst, arith}
use Rattle.std.specs.Prelude.{IfSome, nat_lt, unwrap_or, ◌==◌, ◌≢◌}
use Rattle.std.specs.Option.{option_map}
use Rattle.std.proofs.lemmas.Bool.Decides.{nat_tests}
use Rattle.std.proofs.lemmas.List.{drop-take, take-take, drop-drop}
use Rattle.hgs_index.specs.declared.entry.Entry.{Entry}
use Rattle.hgs_index.specs.declared.kinds.Span.{Span}
use Rattle.hgs_revlog.specs.Log.{Log}
use Rattle.hgs_revlog.specs.Text.{span_in}
use Rattle.hgs_branches.specs.declared.window.Run.{Run}
use Rattle.hgs_branches.specs.Read.{stored_between}
use Rattle.hgs_branches.specs.Windows.{chunk_span, goes_on, longer, most_window, on_over, span_or_empty, window_of}
use Rattle.hgs_branches.proofs.SumLemmas.{get_there, between_more, between_none}

-- ---- how far a window goes on

both : (a b : Bool) → (a && b) ≡ true → (a ≡ true) × (b ≡ true)
both true true e = (refl, refl)
both true false e = cc
both false b e = cc

same_both : (a b : Bool) → a ≡ true → b ≡ true → (a && b) ≡ true
same_both true true e f = refl
same_both true false e f = f
same_both false b e f = cc

goes : (span chunk : Span) → span.from + span.len ≡ chunk.from → span.len + chunk.len ≤ most_window → goes_on span chunk ≡ true
goes span chunk e le = same_both (span.from + span.len == chunk.from) (nat_le (longer span chunk).len most_window) (grind (arith, nat_tests, e)) (grind (arith, nat_tests, le))

pub gone : (span chunk : Span) → goes_on span chunk ≡ true → (span.from + span.len ≡ chunk.from) × (span.len + chunk.len ≤ most_window)
gone span chunk g =
    let two = both (span.from + span.len == chunk.from) (nat_le (longer span chunk).len most_window) g in
    let a = two.0 in
    let b = two.1 in (grind (arith, nat_tests, a), grind (arith, nat_tests, b))

next_on : (chunk : ℕ → Span) (span : Span) (end upto : ℕ) → end < upto → on_over chunk (record { span = span; end = end }) (upto - end) ≡ if goes_on span (chunk end) then on_over chunk (record { span = longer span (chunk end); end = suc end }) (upto - suc end) else record { span = span; end = end }
next_on chunk span end upto lt =
    let e : upto - end ≡ suc (upto - suc end) = omega (arith, lt) in ap (on_over chunk (record { span = span; end = end })) e

-- one chunk more
pub on_more : (log : Log) (span chunk : Span) (end upto : ℕ) → end < upto → option_map (span_in log.inline end) (slice_get log.entries end) ≡ Some chunk → span.from + span.len ≡ chunk.from → span.len + chunk.len ≤ most_window →
    on_over (chunk_span log) (record { span = longer span chunk; end = suc end }) (upto - suc end) ≡ on_over (chunk_span log) (record { span = span; end = end }) (upto - end)
on_more log span chunk end upto lt at behind few =
    let is : chunk_span log end ≡ chunk = ap span_or_empty at in
    sym (next_on (chunk_span log) span end upto lt ∙ ap (λ c. if goes_on span c then on_over (chunk_span log) (record { span = longer span c; end = suc end }) (upto - suc end) else record { span = span; end = end }) is
    ∙ ap (λ b. if b then on_over (chunk_span log) (record { span = longer span chunk; end = suc end }) (upto - suc end) else record { span = span; end = end }) (goes span chunk behind few))

-- no more
pub on_stop : (log : Log) (span chunk : Span) (end upto : ℕ) → end < upto → option_map (span_in log.inline end) (slice_get log.entries end) ≡ Some chunk → ((span.from + span.len ≡ chunk.from) → (span.len + chunk.len ≤ most_window) → ⊥) →
    (let run : Run = record { span = span; end = end } in run) ≡ on_over (chunk_span log) (record { span = span; end = end }) (upto - end)
on_stop log span chunk end upto lt at never =
    let is : chunk_span log end ≡ chunk = ap span_or_empty at in
    sym (next_on (chunk_span log) span end upto lt ∙ ap (λ c. if goes_on span c then on_over (chunk_span log) (record { span = longer span c; end = suc end }) (upto - suc end) else record { span = span; end = end }) is ∙ by (goes_on span chunk) refl)
  where
    by : (b : Bool) → goes_on span chunk ≡ b → (if b then on_over (chunk_span log) (record { span = longer span chunk; end = suc end }) (upto - suc end) else record { span = span; end = end }) ≡ record { span = span; end = end }
    by true e = let g = gone span chunk e in absurd (never g.0 g.1)
    by false e = refl

-- there are no more
pub on_end : (log : Log) (span : Span) (end upto : ℕ) → upto ≤ end → (let run : Run = record { span = span; end = end } in run) ≡ on_over (chunk_span log) (record { span = span; end = end }) (upto - end)
on_end log span end upto le = let e : 0 ≡ upto - end = omega (arith, le) in ap (on_over (chunk_span log) (record { span = span; end = end })) e

-- ---- what a window has

-- the span has all of the chunk
pub record Covers (span chunk : Span) : Type 0 where
  pub low : span.from ≤ chunk.from
  pub high : chunk.from + chunk.len ≤ span.from + span.len

-- and all of each from this changeset on
abbrev pub CoversFrom : Log → Run → ℕ → Type 0
CoversFrom log run rev = (r : ℕ) → rev ≤ r → r < run.end → Covers run.span (chunk_span log r)

-- a window from this changeset on, with nothing but whole chunks
pub record IsRun (log : Log) (rev upto : ℕ) (run : Run) : Type 0 where
  pub some : rev < run.end
  pub within : run.end ≤ upto
  pub covers : CoversFrom log run rev
  pub sum : run.span.len ≡ stored_between log.entries rev run.end

len_in : (b : Bool) (rev : ℕ) (e : Entry) → (span_in b rev e).len ≡ e.stored
len_in false rev e = refl
len_in true rev e = refl

pub place_is : (log : Log) (rev : ℕ) (e : Entry) → slice_get log.entries rev ≡ Some e → chunk_span log rev ≡ span_in log.inline rev e
place_is log rev e at = ap (λ q. span_or_empty (option_map (span_in log.inline rev) q)) at

chunk_len : (log : Log) (rev : ℕ) (e : Entry) → slice_get log.entries rev ≡ Some e → (chunk_span log rev).len ≡ e.stored
chunk_len log rev e at = ap (λ (s : Span). s.len) (place_is log rev e at) ∙ len_in log.inline rev e

lt_or_same : (a b : ℕ) → a < suc b → (a < b) ⊎ (a ≡ b)
lt_or_same a b lt = by (nat_lt a b) refl
  where
    by : (c : Bool) → nat_lt a b ≡ c → (a < b) ⊎ (a ≡ b)
    by true e = inl (grind (arith, nat_tests, e))
    by false e = inr (grind (arith, nat_tests, e, lt))

covers_more : (log : Log) (run : Run) (rev : ℕ) → goes_on run.span (chunk_span log run.end) ≡ true → CoversFrom log run rev → CoversFrom log (record { span = longer run.span (chunk_span log run.end); end = suc run.end }) rev
covers_more log run rev g c r lo hi = by (lt_or_same r run.end hi)
  where
    chunk : Span
    chunk = chunk_span log run.end

    by : ((r < run.end) ⊎ (r ≡ run.end)) → Covers (longer run.span chunk) (chunk_span log r)
    by (inl lt) = let k = c r lo lt in let l = k.low in let h = k.high in record { low = l; high = omega (arith, h) }
    by (inr e) =
        let two = gone run.span chunk g in
        let at = two.0 in
        let P : ℕ → Type 0 = λ n. Covers (longer run.span chunk) (chunk_span log n) in
        subst P (sym e) (record { low = omega (arith, at); high = omega (arith, at) })

run_more : (log : Log) (rev upto n : ℕ) (run : Run) → upto ≤ length log.entries → run.end + n ≡ upto → IsRun log rev upto run → IsRun log rev upto (on_over (chunk_span log) run n)
run_more log rev upto zero run there e is = is
run_more log rev upto (suc n) run there e is = by (run_more log rev upto n next there (omega (arith, e))) (goes_on run.span (chunk_span log run.end)) refl
  where
    chunk : Span
    chunk = chunk_span log run.end

    next : Run
    next = record { span = longer run.span chunk; end = suc run.end }

    entry : (x : Entry) × (slice_get log.entries run.end ≡ Some x)
    entry = get_there log.entries run.end (omega (arith, e, there))

    longer_run : goes_on run.span chunk ≡ true → IsRun log rev upto next
    longer_run g =
        let s = is.some in
        let sum = is.sum in
        let len = chunk_len log run.end entry.0 entry.1 in
        let more = between_more log.entries rev run.end entry.0 (omega (arith, s)) entry.1 in
        record { some = omega (arith, s); within = omega (arith, e); covers = covers_more log run rev g is.covers; sum = omega (arith, sum, len, more) }

    by : (IsRun log rev upto next → IsRun log rev upto (on_over (chunk_span log) next n)) → (b : Bool) → goes_on run.span chunk ≡ b → IsRun log rev upto (if b then on_over (chunk_span log) next n else run)
    by rec true g = rec (longer_run g)
    by rec false g = is

first_covers : (log : Log) (rev : ℕ) → CoversFrom log (record { span = chunk_span log rev; end = suc rev }) rev
first_covers log rev r lo hi =
    let e : rev ≡ r = omega (arith, lo, hi) in
    let P : ℕ → Type 0 = λ n. Covers (chunk_span log rev) (chunk_span log n) in
    subst P e (record { low = omega arith; high = omega arith })

pub window_is : (log : Log) (rev upto : ℕ) → rev < upto → upto ≤ length log.entries → IsRun log rev upto (window_of log rev upto)
window_is log rev upto lt there =
    let entry = get_there log.entries rev (omega (arith, lt, there)) in
    let len = chunk_len log rev entry.0 entry.1 in
    let none = between_none log.entries rev in
    let more = between_more log.entries rev rev entry.0 (omega arith) entry.1 in
    run_more log rev upto (upto - suc rev) (record { span = chunk_span log rev; end = suc rev }) there (omega (arith, lt))
    (record { some = omega arith; within = omega (arith, lt); covers = first_covers log rev; sum = omega (arith, len, none, more) })
