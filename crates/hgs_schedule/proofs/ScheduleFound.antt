-- What is read is a schedule, which the bytes are.
use Rattle.std.proofs.Common.{◌≡◌, inl, inr, ℕ, zero, suc, ◌≤◌, Bool, true, false, List, [], ◌∷◌, ◌++◌, length, Option, Some, None, Ok, refl, sym, ◌∙◌, ap, subst, append_assoc, codes}
use Rattle.std.specs.Prelude.{if◌then◌else◌}
use Rattle.std.specs.List.{concat}
use Rattle.std.specs.Option.{option_map}
use Rattle.std.proofs.lemmas.List.{append-nil}
use Rattle.hgs_bytes.specs.Bytes.{same}
use Rattle.hgs_bytes.specs.Text.{line}
use Rattle.hgs_model.specs.declared.command.NewChange.{NewChange}
use Rattle.hgs_model.specs.declared.command.Command.TheVariants.{Commit, Import}
use Rattle.hgs_input.specs.Import.{import_from}
use Rattle.hgs_input.specs.Record.{most_input, record_text}
use Rattle.hgs_input.specs.Read.{Rest, Reading, ◌>>=◌, place, next_line, required_at, required, more, record_from, looked_at, start_of}
use Rattle.hgs_schedule.specs.declared.event.Event.{Event}
use Rattle.hgs_schedule.specs.declared.event.Event.TheVariants as events
use Rattle.hgs_schedule.specs.declared.event.Schedule.{Schedule}
use Rattle.hgs_schedule.specs.Read.{readers_of, event_of, event_at, next_event, events_from, schedule_from, read_schedule}
use Rattle.hgs_schedule.specs.Schedule.{IsEventText, AreEventTexts, IsSchedule}
use Rattle.hgs_schedule.specs.Theorems.LineLemmas.{Before, before_both, LineFound, line_found, form_found}
use Rattle.hgs_schedule.specs.Theorems.ReadLemmas.{bound, ok_is, ImportsStand, RecordsStand}
use Rattle.hgs_schedule.specs.Theorems.WholeLemmas.{alone, none_behind, alone_is, nil_is, looked-whole, looked-length}
use Rattle.hgs_bytes.specs.Theorems.ByteLemmas.{same-eq}

-- ---- one event

-- what is read as an event, or as the end
abbrev Found : ℕ → Rest → Option Event → Rest → Type 0
Found readers r None rest = Before r (line (codes "end")) rest
Found readers r (Some event) rest = (text : List ℕ) × IsEventText readers text event × Before r text rest

record_text_found : RecordsStand → (r mid : Rest) (c : NewChange) (rest : Rest) (readers : ℕ) → Before r (line (codes "begin commit")) mid → record_from mid ≡ Ok (c, rest) → Found readers r (Some (events.Begin (Commit c))) rest
record_text_found stand r mid c rest readers before e =
    let h = stand mid rest c e in
    let text = record_text h.says c in (
      line (codes "begin commit") ++ text,
      inr (inl (record { says = h.says; change = c; is = refl; valid = h.valid; begins = refl })),
      before_both r mid rest (line (codes "begin commit")) text before (record { is = h.text; whole = h.whole }),
    )

import_text_found : ImportsStand → (r mid : Rest) (changes : List NewChange) (rest : Rest) (readers : ℕ) → Before r (line (codes "begin import")) mid → import_from mid ≡ Ok (changes, rest) → Found readers r (Some (events.Begin (Import changes))) rest
import_text_found imports r mid changes rest readers before e =
    let h = imports mid rest changes e in (
      line (codes "begin import") ++ h.text,
      inr (inr (record { records = h.text; changes = changes; is = refl; are = h.records; begins = refl })),
      before_both r mid rest (line (codes "begin import")) h.text before (record { is = h.is; whole = h.whole }),
    )

said_found : RecordsStand → ImportsStand → (readers at : ℕ) (r mid : Rest) (said : List ℕ) (p : Option Event × Rest) → LineFound r said mid → event_at at readers said mid ≡ Ok p → Found readers r p.0 p.1
said_found stand imports readers at r mid said p found e = by (same said (codes "end")) (same said (codes "begin commit")) (same said (codes "begin import")) (event_of readers said) refl refl refl refl e
  where
    Goal : Option Event × Rest → Type 0
    Goal q = Found readers r q.0 q.1

    by : (s t u : Bool) (o : Option Event) → same said (codes "end") ≡ s → same said (codes "begin commit") ≡ t → same said (codes "begin import") ≡ u → event_of readers said ≡ o →
        ◌≡◌ {A = Reading (Option Event)} (if s then Ok (None, mid)
        else if t then (record_from mid >>= λ c. Ok (Some (events.Begin (Commit c.0)), c.1))
        else if u then (import_from mid >>= λ c. Ok (Some (events.Begin (Import c.0)), c.1))
        else required_at at (option_map (λ e. Some e) o) mid) (Ok p) →
        Goal p
    by true t u o a b d c k = subst Goal (ok_is {A = Option Event × Rest} (None, mid) p k) (subst (λ l. Before r (line l) mid) (same-eq said (codes "end") a) found.before)
    by false true u o a b d c k =
        let x = bound (record_from mid) (λ c. Ok (Some (events.Begin (Commit c.0)), c.1)) p k in
        subst Goal (ok_is {A = Option Event × Rest} (Some (events.Begin (Commit x.value.0)), x.value.1) p x.gives)
        (record_text_found stand r mid x.value.0 x.value.1 readers (subst (λ l. Before r (line l) mid) (same-eq said (codes "begin commit") b) found.before) x.is)
    by false false true o a b d c k =
        let x = bound (import_from mid) (λ c. Ok (Some (events.Begin (Import c.0)), c.1)) p k in
        subst Goal (ok_is {A = Option Event × Rest} (Some (events.Begin (Import x.value.0)), x.value.1) p x.gives)
        (import_text_found imports r mid x.value.0 x.value.1 readers (subst (λ l. Before r (line l) mid) (same-eq said (codes "begin import") d) found.before) x.is)
    by false false false None a b d c k = cc
    by false false false (Some event) a b d c k =
        subst Goal (ok_is {A = Option Event × Rest} (Some event, mid) p k)
        (line said, inl (record { said = said; is = refl; lacks = found.lacks; says = c }), found.before)

event_found : RecordsStand → ImportsStand → (readers : ℕ) (r : Rest) (p : Option Event × Rest) → next_event readers r ≡ Ok p → Found readers r p.0 p.1
event_found stand imports readers r p e =
    let b = bound (next_line r) (λ l. event_at (place r) readers l.0 l.1) p e in
    said_found stand imports readers (place r) r b.value.1 b.value.0 p (line_found r b.value b.is) b.gives

-- ---- all events

-- events that are read behind others, and the last line
record EventsFound (readers : ℕ) (done : List Event) (r : Rest) (all : List Event) (rest : Rest) : Type 0 where
  new : List Event
  texts : List (List ℕ)
  is : all ≡ done ++ new
  are : AreEventTexts readers texts new
  before : Before r (concat texts ++ line (codes "end")) rest

events_found : RecordsStand → ImportsStand → (readers n : ℕ) (done : List Event) (r : Rest) (p : List Event × Rest) → events_from readers n done r ≡ Ok p → EventsFound readers done r p.0 p.1
events_found stand imports readers zero done r p e = cc
events_found stand imports readers (suc n) done r p e =
    let b = bound (next_event readers r) (λ q. more done q.0 q.1 (λ all rest. events_from readers n all rest)) p e in
    by b.value.0 b.value.1 (event_found stand imports readers r b.value b.is) b.gives (λ x. events_found stand imports readers n (done ++ x ∷ []))
  where
    by : (o : Option Event) (mid : Rest) → Found readers r o mid → more done o mid (λ all rest. events_from readers n all rest) ≡ Ok p →
        ((x : Event) (r : Rest) (p : List Event × Rest) → events_from readers n (done ++ x ∷ []) r ≡ Ok p → EventsFound readers (done ++ x ∷ []) r p.0 p.1) → EventsFound readers done r p.0 p.1
    by None mid found k next =
        let P : List Event × Rest → Type 0 = λ q. EventsFound readers done r q.0 q.1 in
        subst P (ok_is {A = List Event × Rest} (done, mid) p k) (record { new = []; texts = []; is = sym (append-nil done); are = tt; before = found })
    by (Some x) mid found k next =
        let g = next x mid p k in
        let text = found.0 in
        let last = line (codes "end") in
        let both = before_both r mid p.1 text (concat g.texts ++ last) found.2 g.before in
        record {
          new = x ∷ g.new;
          texts = text ∷ g.texts;
          is = g.is ∙ append_assoc done (x ∷ []) g.new;
          are = (found.1, g.are);
          before = subst (λ t. Before r t p.1) (sym (append_assoc text (concat g.texts) last)) both;
        }

-- ---- the whole

pub schedule_found : RecordsStand → ImportsStand → (bytes : List ℕ) (s : Schedule) → read_schedule bytes ≡ Ok s → IsSchedule bytes s
schedule_found stand imports bytes s e =
    let r = start_of bytes in
    let a = bound (schedule_from r) alone s e in
    let b = bound (required readers_of r) (λ n. events_from n.0 (length n.1.bytes) [] n.1 >>= λ all. Ok (record { readers = n.0; events = all.0 }, all.1)) a.value a.is in
    let n = b.value in
    let c = bound (events_from n.0 (length n.1.bytes) [] n.1) (λ all. Ok (record { readers = n.0; events = all.0 }, all.1)) a.value b.gives in
    let all = c.value in
    let made : Schedule = record { readers = n.0; events = all.0 } in
    let same = ok_is {A = Schedule × Rest} (made, all.1) a.value c.gives in
    let first = form_found readers_of r n b.is in
    let rest = events_found stand imports n.0 (length n.1.bytes) [] n.1 all c.is in
    let given : alone (made, all.1) ≡ Ok s = ap alone same ∙ a.gives in
    let none = none_behind all.1 made s given in
    let done : made ≡ s = alone_is made all.1 s given in
    let before = before_both r n.1 all.1 (line first.said) (concat rest.texts ++ line (codes "end")) first.found.before rest.before in
    let whole : all.1.whole ≡ length (looked_at bytes) = before.whole in
    let room = none.room in
    let few = looked-length bytes (subst (λ k. k ≤ most_input) whole room) in
    let is : bytes ≡ line first.said ++ (concat rest.texts ++ line (codes "end")) =
    sym (looked-whole bytes few) ∙ before.is ∙ ap (λ t. (line first.said ++ (concat rest.texts ++ line (codes "end"))) ++ t) (nil_is all.1.bytes none.none) ∙ append-nil (line first.said ++ (concat rest.texts ++ line (codes "end"))) in
    subst (IsSchedule bytes) done (record {
      first = first.said;
      texts = rest.texts;
      is = is;
      lacks = first.found.lacks;
      readers = first.says;
      events = subst (AreEventTexts n.0 rest.texts) (sym rest.is) rest.are;
      size = few;
    })
