-- What is left behind an event, and a loop's next event or a fault in place of it.
use Rattle.std.proofs.Common.{◌≡◌, ℕ, zero, suc, ◌-◌, ◌<◌, ◌≤◌, Bool, true, false, List, [], ◌∷◌, ◌++◌, length, Option, Some, None, Result, Ok, Err, refl, sym, ◌∙◌, ap, arith}
use Rattle.std.specs.Prelude.{codes, if◌then◌else◌}
use Rattle.std.specs.Option.{option_map}
use Rattle.hgs_bytes.specs.Bytes.{same}
use Rattle.hgs_model.specs.declared.command.Command.TheVariants.{Commit, Import}
use Rattle.hgs_input.specs.declared.fault.InputFault.{InputFault}
use Rattle.hgs_input.specs.Import.{import_from}
use Rattle.hgs_input.specs.Read.{Rest, Reading, ◌>>=◌, bad_at, place, next_line, required_at, more, record_from, is_memory}
use Rattle.hgs_schedule.specs.declared.event.Event.{Event}
use Rattle.hgs_schedule.specs.declared.event.Event.TheVariants as events
use Rattle.hgs_schedule.specs.Read.{event_of, event_at, next_event, events_from}
use Rattle.hgs_schedule.specs.Theorems.ReadLemmas.{bound, ok_is, line_fewer, line_at_end, RecordsStand, ImportsStand, record_fewer, import_fewer, Refused, free}

-- ---- fewer bytes are left

behind_fewer : RecordsStand → ImportsStand → (at readers : ℕ) (line : List ℕ) (r : Rest) (p : Option Event × Rest) → event_at at readers line r ≡ Ok p → length p.1.bytes ≤ length r.bytes
behind_fewer stand imports at readers line r p e = by (same line (codes "end")) (same line (codes "begin commit")) (same line (codes "begin import")) (event_of readers line) e
  where
    kept : (q : Option Event × Rest) → ◌≡◌ {A = Result (Option Event × Rest) InputFault} (Ok q) (Ok p) → q.1 ≡ r → length p.1.bytes ≤ length r.bytes
    kept q k h = let a = ap (λ x. length x.1.bytes) (ok_is {A = Option Event × Rest} q p k) in let b = ap (λ (x : Rest). length x.bytes) h in omega (arith, a, b)

    by : (s t u : Bool) (o : Option Event) → (if s then Ok (None, r)
        else if t then (record_from r >>= λ c. Ok (Some (events.Begin (Commit c.0)), c.1))
        else if u then (import_from r >>= λ c. Ok (Some (events.Begin (Import c.0)), c.1))
        else required_at at (option_map (λ e. Some e) o) r) ≡ Ok p → length p.1.bytes ≤ length r.bytes
    by true t u o k = kept (None, r) k refl
    by false true u o k =
        let b = bound (record_from r) (λ c. Ok (Some (events.Begin (Commit c.0)), c.1)) p k in
        let few = record_fewer stand r b.value b.is in
        let same = ap (λ x. length x.1.bytes) (ok_is {A = Option Event × Rest} (Some (events.Begin (Commit b.value.0)), b.value.1) p b.gives) in
        omega (arith, few, same)
    by false false true o k =
        let b = bound (import_from r) (λ c. Ok (Some (events.Begin (Import c.0)), c.1)) p k in
        let few = import_fewer imports r b.value b.is in
        let same = ap (λ x. length x.1.bytes) (ok_is {A = Option Event × Rest} (Some (events.Begin (Import b.value.0)), b.value.1) p b.gives) in
        omega (arith, few, same)
    by false false false None k = cc
    by false false false (Some e) k = kept (Some e, r) k refl

pub event_fewer : RecordsStand → ImportsStand → (readers : ℕ) (r : Rest) (p : Option Event × Rest) → next_event readers r ≡ Ok p → length p.1.bytes < length r.bytes
event_fewer stand imports readers r p e =
    let b = bound (next_line r) (λ l. event_at (place r) readers l.0 l.1) p e in
    let first = line_fewer r b.value b.is in
    let behind_line = behind_fewer stand imports (place r) readers b.value.0 b.value.1 p b.gives in
    omega (arith, first, behind_line)

-- ---- the loop

-- where the bytes are at an end, the next line is cut
pub at_end : (readers : ℕ) (r : Rest) → length r.bytes ≤ 0 → next_event readers r ≡ Err (bad_at r.whole)
at_end readers r h = ap (λ x. x >>= λ l. event_at (place r) readers l.0 l.1) (line_at_end r h)

abbrev with_event : ℕ → ℕ → List Event → Rest → Reading (List Event)
with_event readers n done r = next_event readers r >>= λ p. more done p.0 p.1 (λ all rest. events_from readers n all rest)

step : (readers n m : ℕ) (done : List Event) (r : Rest) → length r.bytes ≤ n → m ≡ n - 1 → events_from readers n done r ≡ with_event readers m done r
step readers zero m done r room e = sym (ap (λ x. x >>= λ p. more done p.0 p.1 (λ all rest. events_from readers m all rest)) (at_end readers r room))
step readers (suc n) m done r room e = let k : n ≡ m = omega (arith, e) in ap (λ j. with_event readers j done r) k

pub event_refused : (readers n : ℕ) (done : List Event) (r : Rest) (e : InputFault) (all : Reading (List Event)) → length r.bytes ≤ n → events_from readers n done r ≡ all → Refused e (next_event readers r) → Refused e all
event_refused readers n done r e all room is h =
    free (is_memory e) (next_event readers r ≡ Err e) (all ≡ Err e)
    (λ k. sym is ∙ step readers n (n - 1) done r room refl ∙ ap (λ x. x >>= λ p. more done p.0 p.1 (λ all rest. events_from readers (n - 1) all rest)) k) h

pub events_end : (readers n : ℕ) (done : List Event) (r rest : Rest) (all : Reading (List Event)) → length r.bytes ≤ n → events_from readers n done r ≡ all → next_event readers r ≡ Ok (None, rest) → all ≡ Ok (done, rest)
events_end readers n done r rest all room is e = sym is ∙ step readers n (n - 1) done r room refl ∙ ap (λ x. x >>= λ p. more done p.0 p.1 (λ all rest. events_from readers (n - 1) all rest)) e

pub event_more : (readers n m : ℕ) (done new : List Event) (event : Event) (r rest : Rest) (all : Reading (List Event)) → length r.bytes ≤ n → m ≡ n - 1 → events_from readers n done r ≡ all →
    next_event readers r ≡ Ok (Some event, rest) → new ≡ done ++ event ∷ [] → events_from readers m new rest ≡ all
event_more readers n m done new event r rest all room less is e grown =
    ap (λ d. events_from readers m d rest) grown
    ∙ sym (ap (λ x. x >>= λ p. more done p.0 p.1 (λ all rest. events_from readers m all rest)) e)
    ∙ sym (step readers n m done r room less) ∙ is
