-- What is read of a front of an input: the same as of the whole, or that it is cut.
use Rattle.std.proofs.Common.{◌≡◌, inl, ℕ, zero, suc, ◌+◌, ◌≤◌, Bool, true, false, List, [], ◌∷◌, ◌++◌, length, Option, Some, None, Ok, refl, ap, arith, length-append, codes}
use Rattle.std.specs.Prelude.{if◌then◌else◌}
use Rattle.std.specs.Option.{option_map}
use Rattle.hgs_bytes.specs.Bytes.{same}
use Rattle.hgs_model.specs.declared.command.Command.TheVariants.{Commit, Import}
use Rattle.hgs_input.specs.Front.{left, Alike}
use Rattle.hgs_input.specs.Import.{import_from}
use Rattle.hgs_input.specs.Read.{Rest, Reading, ◌>>=◌, required_at, more, record_from}
use Rattle.hgs_schedule.specs.declared.event.Event.{Event}
use Rattle.hgs_schedule.specs.declared.event.Event.TheVariants as events
use Rattle.hgs_schedule.specs.Read.{readers_of, event_of, event_at, next_event, events_from, schedule_from}
use Rattle.hgs_schedule.proofs.ReadLemmas.{event_fewer, at_end}
use Rattle.hgs_schedule.specs.Theorems.FrontLemmas.{alike_read, bind_alike, required_at_alike, behind_line_alike, form_alike, ImportsAlike, RecordsAlike}
use Rattle.hgs_schedule.specs.Theorems.ReadLemmas.{ImportsStand, RecordsStand}
use Rattle.hgs_schedule.specs.Theorems.WholeLemmas.{ReadsAlike}

said_alike : RecordsAlike → ImportsAlike → (at readers w : ℕ) (line tail bytes : List ℕ) → Alike w tail (event_at at readers line (left w bytes)) (event_at at readers line (left (w + length tail) (bytes ++ tail)))
said_alike alike imports at readers w line tail bytes = by (same line (codes "end")) (same line (codes "begin commit")) (same line (codes "begin import")) (option_map (λ e. Some e) (event_of readers line))
  where
    front : Rest
    front = left w bytes

    all : Rest
    all = left (w + length tail) (bytes ++ tail)

    of_commit : Rest → Reading (Option Event)
    of_commit r = record_from r >>= λ c. Ok (Some (events.Begin (Commit c.0)), c.1)

    of_import : Rest → Reading (Option Event)
    of_import r = import_from r >>= λ c. Ok (Some (events.Begin (Import c.0)), c.1)

    by : (s t u : Bool) (o : Option (Option Event)) → Alike w tail
        (if s then Ok (None, front) else if t then of_commit front else if u then of_import front else required_at at o front)
        (if s then Ok (None, all) else if t then of_commit all else if u then of_import all else required_at at o all)
    by true t u o = alike_read w tail bytes None
    by false true u o =
        bind_alike w tail (record_from front) (record_from all) (λ c. Ok (Some (events.Begin (Commit c.0)), c.1)) (λ c. Ok (Some (events.Begin (Commit c.0)), c.1)) (alike w tail bytes)
        (λ c rest e. alike_read w tail rest (Some (events.Begin (Commit c))))
    by false false true o =
        bind_alike w tail (import_from front) (import_from all) (λ c. Ok (Some (events.Begin (Import c.0)), c.1)) (λ c. Ok (Some (events.Begin (Import c.0)), c.1)) (imports w tail bytes)
        (λ c rest e. alike_read w tail rest (Some (events.Begin (Import c))))
    by false false false o = required_at_alike at w tail bytes o

event_alike : RecordsAlike → ImportsAlike → (readers w : ℕ) (tail bytes : List ℕ) → Alike w tail (next_event readers (left w bytes)) (next_event readers (left (w + length tail) (bytes ++ tail)))
event_alike alike imports readers w tail bytes = behind_line_alike w tail bytes (λ at words rest. event_at at readers words rest) (λ at words rest. said_alike alike imports at readers w words tail rest)

events_alike : RecordsStand → ImportsStand → RecordsAlike → ImportsAlike → (readers n m : ℕ) (done : List Event) (w : ℕ) (tail bytes : List ℕ) → length bytes ≤ n → length (bytes ++ tail) ≤ m →
    Alike w tail (events_from readers n done (left w bytes)) (events_from readers m done (left (w + length tail) (bytes ++ tail)))
events_alike stand imports alike alike_imports readers zero m done w tail bytes a b = inl refl
events_alike stand imports alike alike_imports readers (suc n) zero done w tail bytes a b =
    let size = length-append bytes tail in
    inl (ap (λ x. x >>= λ p. more done p.0 p.1 (λ all rest. events_from readers n all rest)) (at_end readers (left w bytes) (omega (arith, size, b))))
events_alike stand imports alike alike_imports readers (suc n) (suc m) done w tail bytes a b =
    bind_alike w tail (next_event readers (left w bytes)) (next_event readers (left (w + length tail) (bytes ++ tail)))
    (λ p. more done p.0 p.1 (λ all rest. events_from readers n all rest)) (λ p. more done p.0 p.1 (λ all rest. events_from readers m all rest))
    (event_alike alike alike_imports readers w tail bytes) (λ o rest e. by o rest e (λ x. events_alike stand imports alike alike_imports readers n m (done ++ x ∷ []) w tail rest))
  where
    by : (o : Option Event) (rest : List ℕ) → next_event readers (left w bytes) ≡ Ok (o, left w rest) →
        ((x : Event) → length rest ≤ n → length (rest ++ tail) ≤ m → Alike w tail (events_from readers n (done ++ x ∷ []) (left w rest)) (events_from readers m (done ++ x ∷ []) (left (w + length tail) (rest ++ tail)))) →
        Alike w tail (more done o (left w rest) (λ all rest. events_from readers n all rest)) (more done o (left (w + length tail) (rest ++ tail)) (λ all rest. events_from readers m all rest))
    by None rest e k = alike_read w tail rest done
    by (Some x) rest e k =
        let fewer = event_fewer stand imports readers (left w bytes) (Some x, left w rest) e in
        let p = length-append bytes tail in
        let q = length-append rest tail in
        k x (omega (arith, fewer, a)) (omega (arith, fewer, b, p, q))

pub schedule_alike : RecordsStand → ImportsStand → RecordsAlike → ImportsAlike → ReadsAlike schedule_from
schedule_alike stand imports alike alike_imports w tail bytes =
    bind_alike w tail _ _ _ _ (form_alike readers_of w tail bytes)
    (λ readers r1 e1. bind_alike w tail _ _ _ _ (events_alike stand imports alike alike_imports readers (length r1) (length (r1 ++ tail)) [] w tail r1 (omega arith) (omega arith))
    (λ all r2 e2. alike_read w tail r2 (record { readers = readers; events = all })))
