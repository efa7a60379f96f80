-- The bytes that are a schedule are read as it.
use Rattle.std.proofs.Common.{◌≡◌, inl, inr, ℕ, zero, suc, ◌<◌, ◌≤◌, Bool, false, List, [], ◌∷◌, ◌++◌, length, Option, Some, None, Ok, Err, refl, sym, ◌∙◌, ap, arith, append_assoc, length-append, codes}
use Rattle.std.specs.Prelude.{if◌then◌else◌}
use Rattle.std.specs.List.{concat}
use Rattle.std.specs.Option.{option_map}
use Rattle.std.proofs.lemmas.Bool.{le-leb}
use Rattle.std.proofs.lemmas.List.{append-nil}
use Rattle.hgs_bytes.specs.Bytes.{same}
use Rattle.hgs_bytes.specs.Text.{Lacks, line}
use Rattle.hgs_index.specs.declared.kinds.Which.TheVariants.{Record}
use Rattle.hgs_model.specs.declared.command.NewChange.{NewChange}
use Rattle.hgs_model.specs.declared.command.Command.TheVariants.{Commit, Import}
use Rattle.hgs_model.specs.Valid.{IsNewChange}
use Rattle.hgs_input.specs.declared.fault.InputFault.TheVariants.{Limit}
use Rattle.hgs_input.specs.Front.{left}
use Rattle.hgs_input.specs.Import.{IsImportText, import_from}
use Rattle.hgs_input.specs.Record.{Wording, most_input, record_text}
use Rattle.hgs_input.specs.Read.{Reading, ◌>>=◌, place, next_line, required_at, required, more, record_from}
use Rattle.hgs_schedule.specs.declared.event.Event.{Event}
use Rattle.hgs_schedule.specs.declared.event.Event.TheVariants as events
use Rattle.hgs_schedule.specs.declared.event.Schedule.{Schedule}
use Rattle.hgs_schedule.specs.Read.{readers_of, event_of, event_at, next_event, events_from, schedule_from, read_schedule}
use Rattle.hgs_schedule.specs.Schedule.{IsEventText, AreEventTexts, IsSchedule}
use Rattle.hgs_schedule.specs.Theorems.LineLemmas.{lacks_lf, line_back, form_back, unlike}
use Rattle.hgs_schedule.specs.Theorems.ReadLemmas.{then_ok, none_some, ImportsRead, RecordsRead}
use Rattle.hgs_schedule.specs.Theorems.WholeLemmas.{alone, looked-whole, read_left}

-- a line that says an event is no other word
no_word : (readers : ℕ) (said word : List ℕ) (event : Event) → event_of readers word ≡ None → event_of readers said ≡ Some event → same said word ≡ false
no_word readers said word event none says = unlike said word (λ is. none_some event (sym none ∙ ap (event_of readers) (sym is) ∙ says))

-- ---- one event

next_back : (readers w : ℕ) (said rest : List ℕ) (answer : Reading (Option Event)) → Lacks 10 said → event_at (place (left w (line said ++ rest))) readers said (left w rest) ≡ answer → next_event readers (left w (line said ++ rest)) ≡ answer
next_back readers w said rest answer lacks e =
    let r = left w (line said ++ rest) in
    then_ok (next_line r) (said, left w rest) (λ l. event_at (place r) readers l.0 l.1) answer (line_back w said rest lacks) e

line_event : (readers w : ℕ) (said rest : List ℕ) (event : Event) → Lacks 10 said → event_of readers said ≡ Some event → next_event readers (left w (line said ++ rest)) ≡ Ok (Some event, left w rest)
line_event readers w said rest event lacks says =
    let at = place (left w (line said ++ rest)) in
    let r = left w rest in
    let commit : Reading (Option Event) = record_from r >>= λ c. Ok (Some (events.Begin (Commit c.0)), c.1) in
    let imported : Reading (Option Event) = import_from r >>= λ c. Ok (Some (events.Begin (Import c.0)), c.1) in
    let said_is : Reading (Option Event) = required_at at (option_map (λ e. Some e) (event_of readers said)) r in
    next_back readers w said rest (Ok (Some event, r)) lacks
    (ap (λ t. if t then Ok (None, r) else if same said (codes "begin commit") then commit else if same said (codes "begin import") then imported else said_is) (no_word readers said (codes "end") event refl says)
    ∙ ap (λ t. if t then commit else if same said (codes "begin import") then imported else said_is) (no_word readers said (codes "begin commit") event refl says)
    ∙ ap (λ t. if t then imported else said_is) (no_word readers said (codes "begin import") event refl says)
    ∙ ap (λ o. required_at at (option_map (λ e. Some e) o) r) says)

commit_event : RecordsRead → (readers w : ℕ) (says : Wording) (c : NewChange) (rest : List ℕ) → IsNewChange c →
    next_event readers (left w ((line (codes "begin commit") ++ record_text says c) ++ rest)) ≡ Ok (Some (events.Begin (Commit c)), left w rest)
commit_event read readers w says c rest valid =
    let behind_line = record_text says c ++ rest in
    ap (λ b. next_event readers (left w b)) (append_assoc (line (codes "begin commit")) (record_text says c) rest)
    ∙ next_back readers w (codes "begin commit") behind_line (Ok (Some (events.Begin (Commit c)), left w rest)) (lacks_lf (codes "begin commit") refl)
    (then_ok (record_from (left w behind_line)) (c, left w rest) (λ c. Ok (Some (events.Begin (Commit c.0)), c.1)) (Ok (Some (events.Begin (Commit c)), left w rest)) (read says c w rest valid) refl)

import_event : ImportsRead → (readers w : ℕ) (records : List ℕ) (changes : List NewChange) (rest : List ℕ) → IsImportText records changes →
    next_event readers (left w ((line (codes "begin import") ++ records) ++ rest)) ≡ Ok (Some (events.Begin (Import changes)), left w rest)
import_event read readers w records changes rest are =
    let behind_line = records ++ rest in
    ap (λ b. next_event readers (left w b)) (append_assoc (line (codes "begin import")) records rest)
    ∙ next_back readers w (codes "begin import") behind_line (Ok (Some (events.Begin (Import changes)), left w rest)) (lacks_lf (codes "begin import") refl)
    (then_ok (import_from (left w behind_line)) (changes, left w rest) (λ c. Ok (Some (events.Begin (Import c.0)), c.1)) (Ok (Some (events.Begin (Import changes)), left w rest)) (read records changes w rest are) refl)

text_event : RecordsRead → ImportsRead → (readers w : ℕ) (text rest : List ℕ) (event : Event) → IsEventText readers text event → next_event readers (left w (text ++ rest)) ≡ Ok (Some event, left w rest)
text_event read imports readers w text rest event (inl h) =
    ap (λ t. next_event readers (left w (t ++ rest))) h.is ∙ line_event readers w h.said rest event h.lacks h.says
text_event read imports readers w text rest event (inr (inl h)) =
    ap (λ t. next_event readers (left w (t ++ rest))) h.is ∙ commit_event read readers w h.says h.change rest h.valid ∙ ap (λ e. Ok (Some e, left w rest)) h.begins
text_event read imports readers w text rest event (inr (inr h)) =
    ap (λ t. next_event readers (left w (t ++ rest))) h.is ∙ import_event imports readers w h.records h.changes rest h.are ∙ ap (λ e. Ok (Some e, left w rest)) h.begins

end_event : (readers w : ℕ) (rest : List ℕ) → next_event readers (left w (line (codes "end") ++ rest)) ≡ Ok (None, left w rest)
end_event readers w rest = next_back readers w (codes "end") rest (Ok (None, left w rest)) (lacks_lf (codes "end") refl) refl

-- ---- all events

text_some : (readers : ℕ) (text : List ℕ) (event : Event) → IsEventText readers text event → 0 < length text
text_some readers text event (inl h) = let a = ap length h.is ∙ length-append h.said (10 ∷ []) in omega (arith, a)
text_some readers text event (inr (inl h)) = let a = ap length h.is ∙ length-append (line (codes "begin commit")) (record_text h.says h.change) in omega (arith, a)
text_some readers text event (inr (inr h)) = let a = ap length h.is ∙ length-append (line (codes "begin import")) h.records in omega (arith, a)

events_back : RecordsRead → ImportsRead → (readers n w : ℕ) (done : List Event) (texts : List (List ℕ)) (new : List Event) (rest : List ℕ) → length (concat texts ++ line (codes "end")) ≤ n → AreEventTexts readers texts new →
    events_from readers n done (left w ((concat texts ++ line (codes "end")) ++ rest)) ≡ Ok (done ++ new, left w rest)
events_back read imports readers zero w done texts new rest room are = let size = length-append (concat texts) (line (codes "end")) in absurd (omega (arith, size, room))
events_back read imports readers (suc n) w done [] [] rest room are =
    then_ok (next_event readers (left w (line (codes "end") ++ rest))) (None, left w rest) (λ p. more done p.0 p.1 (λ all rest. events_from readers n all rest)) (Ok (done ++ [], left w rest)) (end_event readers w rest)
    (ap (λ t. Ok (t, left w rest)) (sym (append-nil done)))
events_back read imports readers (suc n) w done [] (event ∷ new) rest room are = absurd are
events_back read imports readers (suc n) w done (text ∷ texts) [] rest room are = absurd are
events_back read imports readers (suc n) w done (text ∷ texts) (event ∷ new) rest room are =
    let last = line (codes "end") in
    let behind_text = (concat texts ++ last) ++ rest in
    let is : ((text ++ concat texts) ++ last) ++ rest ≡ text ++ behind_text = ap (λ t. t ++ rest) (append_assoc text (concat texts) last) ∙ append_assoc text (concat texts ++ last) rest in
    let some = text_some readers text event are.0 in
    let size = ap length (append_assoc text (concat texts) last) ∙ length-append text (concat texts ++ last) in
    ap (λ b. events_from readers (suc n) done (left w b)) is
    ∙ then_ok (next_event readers (left w (text ++ behind_text))) (Some event, left w behind_text) (λ p. more done p.0 p.1 (λ all rest. events_from readers n all rest)) (Ok (done ++ event ∷ new, left w rest))
    (text_event read imports readers w text behind_text event are.0)
    (events_back read imports readers n w (done ++ event ∷ []) texts new rest (omega (arith, room, some, size)) are.1 ∙ ap (λ t. Ok (t, left w rest)) (append_assoc done (event ∷ []) new))

-- ---- the whole

pub schedule_back : RecordsRead → ImportsRead → (bytes : List ℕ) (s : Schedule) → IsSchedule bytes s → read_schedule bytes ≡ Ok s
schedule_back read imports bytes s h =
    let w = length bytes in
    let texts = concat h.texts ++ line (codes "end") in
    let is : bytes ≡ line h.first ++ (texts ++ []) = h.is ∙ ap (λ t. line h.first ++ t) (sym (append-nil texts)) in
    let n = length (texts ++ []) in
    let same_length = ap length (append-nil texts) in
    ap (read_left schedule_from) (looked-whole bytes h.size)
    ∙ ap (λ b. schedule_from (left w b) >>= alone) is
    ∙ then_ok (schedule_from (left w (line h.first ++ (texts ++ [])))) (s, left w []) alone (Ok s)
    (then_ok (required readers_of (left w (line h.first ++ (texts ++ [])))) (s.readers, left w (texts ++ [])) (λ n. events_from n.0 (length n.1.bytes) [] n.1 >>= λ all. Ok (record { readers = n.0; events = all.0 }, all.1)) (Ok (s, left w []))
    (form_back readers_of w h.first (texts ++ []) s.readers h.lacks h.readers)
    (then_ok (events_from s.readers n [] (left w (texts ++ []))) (s.events, left w []) (λ all. Ok (record { readers = s.readers; events = all.0 }, all.1)) (Ok (s, left w []))
    (events_back read imports s.readers n w [] h.texts s.events [] (omega (arith, same_length)) h.events) refl))
    (ap (λ t. (if t then Ok tt else Err (Limit Record)) >>= λ _. Ok s) (le-leb w most_input h.size))
