-- The events of a schedule that is read can come.
use Rattle.std.proofs.Common.{◌≡◌, ◌⊎◌, inl, inr, ℕ, ◌<◌, suc, Bool, true, false, ◌&&◌, List, [], ◌∷◌, Option, Some, None, subst, arith, codes}
use Rattle.std.specs.Prelude.{nat_le, nat_lt, not, if◌then◌else◌}
use Rattle.std.specs.List.{AllByRecursion}
use Rattle.std.specs.Option.{option_map, option_or}
use Rattle.std.proofs.lemmas.Bool.{leb-true}
use Rattle.hgs_bytes.specs.Bytes.{same}
use Rattle.hgs_bytes.specs.Text.{split}
use Rattle.hgs_index.specs.MarkName.{is_mark_name}
use Rattle.hgs_model.specs.declared.command.Command.{Command}
use Rattle.hgs_model.specs.declared.command.NewChange.{NewChange}
use Rattle.hgs_model.specs.declared.command.Command.TheVariants.{Move, Mark, Unmark}
use Rattle.hgs_model.specs.Valid.{AreNewChanges, IsValid}
use Rattle.hgs_input.specs.Import.{IsImportText}
use Rattle.hgs_input.specs.Read.{behind, and_then, where_true}
use Rattle.hgs_schedule.specs.declared.event.Event.{Event}
use Rattle.hgs_schedule.specs.declared.event.Event.TheVariants as events
use Rattle.hgs_schedule.specs.declared.event.Schedule.{Schedule}
use Rattle.hgs_schedule.specs.Read.{most_readers, number_of, reader_of, word_event, count_behind, written_of, bytes_event, reader_behind, reader_event, cat_of, has_space, phase_question_of, target_of, move_of, mark_of, unmark_of, begin_of, asked_of, event_of}
use Rattle.hgs_schedule.specs.Schedule.{IsEventText, AreEventTexts, IsSchedule, CanCome, CanBePlayed}
use Rattle.hgs_schedule.specs.Theorems.ReadLemmas.{some_is, or_some, map_some, then_some, where_some, both}

-- ---- readers

reader_below : (readers : ℕ) (text : List ℕ) (n : ℕ) → reader_of readers text ≡ Some n → n < readers
reader_below readers text n e =
    let a = then_some (number_of text) (λ n. where_true (nat_lt n readers) n) n e in
    let w = where_some (nat_lt a.0 readers) a.0 n a.2 in
    let below = leb-true (suc a.0) readers w.0 in
    let is = w.1 in
    omega (arith, below, is)

behind_below : (word : List ℕ) (readers : ℕ) (line : List ℕ) (n : ℕ) → reader_behind word readers line ≡ Some n → n < readers
behind_below word readers line n e = let a = then_some (behind word line) (reader_of readers) n e in reader_below readers a.0 n a.2

-- an event that says a reader and no more
says_reader : (make : ℕ → Event) (word : List ℕ) (readers : ℕ) (line : List ℕ) (event : Event) → ((n : ℕ) → n < readers → CanCome readers (make n)) →
    option_map make (reader_behind word readers line) ≡ Some event → CanCome readers event
says_reader make word readers line event can e =
    let a = map_some make (reader_behind word readers line) event e in
    subst (CanCome readers) a.2 (can a.0 (behind_below word readers line a.0 a.1))

reader_can : (readers : ℕ) (line : List ℕ) (event : Event) → reader_event readers line ≡ Some event → CanCome readers event
reader_can readers line event e = by_open (or_some _ _ event e)
  where
    by_bookmarks : option_map (λ n. events.Bookmarks n) (reader_behind (codes "bookmarks ") readers line) ≡ Some event → CanCome readers event
    by_bookmarks h = says_reader (λ n. events.Bookmarks n) (codes "bookmarks ") readers line event (λ n below. below) h

    by_log : (option_map (λ n. events.Log n) (reader_behind (codes "log ") readers line) ≡ Some event) ⊎ (option_map (λ n. events.Bookmarks n) (reader_behind (codes "bookmarks ") readers line) ≡ Some event) → CanCome readers event
    by_log (inl h) = says_reader (λ n. events.Log n) (codes "log ") readers line event (λ n below. below) h
    by_log (inr h) = by_bookmarks h

    by_load : (option_map (λ n. events.Load n) (reader_behind (codes "load ") readers line) ≡ Some event)
        ⊎ (option_or (option_map (λ n. events.Log n) (reader_behind (codes "log ") readers line)) (option_map (λ n. events.Bookmarks n) (reader_behind (codes "bookmarks ") readers line)) ≡ Some event) → CanCome readers event
    by_load (inl h) = says_reader (λ n. events.Load n) (codes "load ") readers line event (λ n below. below) h
    by_load (inr h) = by_log (or_some _ _ event h)

    by_read : (option_map (λ n. events.Read n) (reader_behind (codes "read ") readers line) ≡ Some event)
        ⊎ (option_or (option_map (λ n. events.Load n) (reader_behind (codes "load ") readers line))
        (option_or (option_map (λ n. events.Log n) (reader_behind (codes "log ") readers line)) (option_map (λ n. events.Bookmarks n) (reader_behind (codes "bookmarks ") readers line))) ≡ Some event) → CanCome readers event
    by_read (inl h) = says_reader (λ n. events.Read n) (codes "read ") readers line event (λ n below. below) h
    by_read (inr h) = by_load (or_some _ _ event h)

    by_open : (option_map (λ n. events.Open n) (reader_behind (codes "open ") readers line) ≡ Some event)
        ⊎ (option_or (option_map (λ n. events.Read n) (reader_behind (codes "read ") readers line))
        (option_or (option_map (λ n. events.Load n) (reader_behind (codes "load ") readers line))
        (option_or (option_map (λ n. events.Log n) (reader_behind (codes "log ") readers line)) (option_map (λ n. events.Bookmarks n) (reader_behind (codes "bookmarks ") readers line)))) ≡ Some event) → CanCome readers event
    by_open (inl h) = says_reader (λ n. events.Open n) (codes "open ") readers line event (λ n below. below) h
    by_open (inr h) = by_read (or_some _ _ event h)

cat_can : (readers : ℕ) (line : List ℕ) (event : Event) → cat_of readers line ≡ Some event → CanCome readers event
cat_can readers line event e =
    let a = then_some (behind (codes "cat ") line) _ event e in
    let b = then_some (split 32 a.0) _ event a.2 in
    let c = then_some (reader_of readers b.0.0) _ event b.2 in
    let d = then_some (split 32 b.0.1) _ event c.2 in
    subst (CanCome readers) (some_is (events.Cat c.0 d.0.0 d.0.1) event d.2) (reader_below readers b.0.0 c.0 c.1)

phase_can : (readers : ℕ) (line : List ℕ) (event : Event) → phase_question_of readers line ≡ Some event → CanCome readers event
phase_can readers line event e =
    let a = then_some (behind (codes "phase ") line) _ event e in
    let b = then_some (split 32 a.0) _ event a.2 in
    let c = then_some (reader_of readers b.0.0) _ event b.2 in
    let w = where_some (not (has_space b.0.1)) (events.Phase c.0 b.0.1) event c.2 in
    subst (CanCome readers) w.1 (reader_below readers b.0.0 c.0 c.1)

-- ---- commands

begin_can : (line : List ℕ) (command : Command) → begin_of line ≡ Some command → IsValid command
begin_can line command e = by_move (or_some _ _ command e)
  where
    by_mark : (mark_of line ≡ Some command) ⊎ (unmark_of line ≡ Some command) → IsValid command
    by_mark (inl h) =
        let a = then_some (behind (codes "begin bookmark ") line) _ command h in
        let b = then_some (split 32 a.0) _ command a.2 in
        let w = where_some (is_mark_name b.0.1) (Mark b.0.1 b.0.0) command b.2 in
        subst IsValid w.1 w.0
    by_mark (inr h) =
        let a = then_some (behind (codes "begin unbookmark ") line) _ command h in
        let w = where_some (is_mark_name a.0) (Unmark a.0) command a.2 in
        subst IsValid w.1 tt

    by_move : (move_of line ≡ Some command) ⊎ (option_or (mark_of line) (unmark_of line) ≡ Some command) → IsValid command
    by_move (inl h) =
        let a = then_some (behind (codes "begin phase ") line) _ command h in
        let b = then_some (split 32 a.0) _ command a.2 in
        let c = then_some (target_of b.0.1) _ command b.2 in
        subst IsValid (some_is (Move b.0.0 c.0.0 c.0.1) command c.2) tt
    by_move (inr h) = by_mark (or_some _ _ command h)

asked_can : (readers : ℕ) (line : List ℕ) (event : Event) → asked_of readers line ≡ Some event → CanCome readers event
asked_can readers line event e = by_begin (or_some _ _ event e)
  where
    by_cat : (cat_of readers line ≡ Some event) ⊎ (phase_question_of readers line ≡ Some event) → CanCome readers event
    by_cat (inl h) = cat_can readers line event h
    by_cat (inr h) = phase_can readers line event h

    by_begin : (option_map (λ c. events.Begin c) (begin_of line) ≡ Some event) ⊎ (option_or (cat_of readers line) (phase_question_of readers line) ≡ Some event) → CanCome readers event
    by_begin (inl h) =
        let a = map_some (λ c. events.Begin c) (begin_of line) event h in
        subst (CanCome readers) a.2 (begin_can line a.0 a.1)
    by_begin (inr h) = by_cat (or_some _ _ event h)

-- ---- words and numbers of bytes

word_can : (readers : ℕ) (line : List ℕ) (event : Event) → word_event line ≡ Some event → CanCome readers event
word_can readers line event e = by (same line (codes "write")) (same line (codes "until publish")) (same line (codes "until clean")) (same line (codes "finish")) (same line (codes "recover")) e
  where
    by : (a b c d f : Bool) → ◌≡◌ {A = Option Event} (if a then Some (events.Write None) else if b then Some events.UntilPublish else if c then Some events.UntilClean else if d then Some events.Finish else where_true f events.Recover) (Some event) → CanCome readers event
    by true b c d f h = subst (CanCome readers) (some_is (events.Write None) event h) tt
    by false true c d f h = subst (CanCome readers) (some_is events.UntilPublish event h) tt
    by false false true d f h = subst (CanCome readers) (some_is events.UntilClean event h) tt
    by false false false true f h = subst (CanCome readers) (some_is events.Finish event h) tt
    by false false false false true h = subst (CanCome readers) (some_is events.Recover event h) tt
    by false false false false false h = cc

bytes_can : (readers : ℕ) (line : List ℕ) (event : Event) → bytes_event line ≡ Some event → CanCome readers event
bytes_can readers line event e = by_written (or_some _ _ event e)
  where
    by_fail : (option_map (λ n. events.Fail n) (count_behind (codes "fail ") line) ≡ Some event) ⊎ (option_map (λ n. events.Stop n) (count_behind (codes "stop ") line) ≡ Some event) → CanCome readers event
    by_fail (inl h) = let a = map_some (λ n. events.Fail n) (count_behind (codes "fail ") line) event h in subst (CanCome readers) a.2 tt
    by_fail (inr h) = let a = map_some (λ n. events.Stop n) (count_behind (codes "stop ") line) event h in subst (CanCome readers) a.2 tt

    by_written : (written_of line ≡ Some event) ⊎ (option_or (option_map (λ n. events.Fail n) (count_behind (codes "fail ") line)) (option_map (λ n. events.Stop n) (count_behind (codes "stop ") line)) ≡ Some event) → CanCome readers event
    by_written (inl h) =
        let a = then_some (count_behind (codes "write ") line) (λ n. where_true (nat_le 1 n) (events.Write (Some n))) event h in
        let w = where_some (nat_le 1 a.0) (events.Write (Some a.0)) event a.2 in
        subst (CanCome readers) w.1 (leb-true 1 a.0 w.0)
    by_written (inr h) = by_fail (or_some _ _ event h)

line_can : (readers : ℕ) (line : List ℕ) (event : Event) → event_of readers line ≡ Some event → CanCome readers event
line_can readers line event e = by_word (or_some _ _ event e)
  where
    by_reader : (reader_event readers line ≡ Some event) ⊎ (asked_of readers line ≡ Some event) → CanCome readers event
    by_reader (inl h) = reader_can readers line event h
    by_reader (inr h) = asked_can readers line event h

    by_bytes : (bytes_event line ≡ Some event) ⊎ (option_or (reader_event readers line) (asked_of readers line) ≡ Some event) → CanCome readers event
    by_bytes (inl h) = bytes_can readers line event h
    by_bytes (inr h) = by_reader (or_some _ _ event h)

    by_word : (word_event line ≡ Some event) ⊎ (option_or (bytes_event line) (option_or (reader_event readers line) (asked_of readers line)) ≡ Some event) → CanCome readers event
    by_word (inl h) = word_can readers line event h
    by_word (inr h) = by_bytes (or_some _ _ event h)

-- ---- the schedule

-- the changesets of an import's records can be imported
abbrev ImportsValid : Type 0
ImportsValid = (text : List ℕ) (changes : List NewChange) → IsImportText text changes → AreNewChanges changes

text_can : ImportsValid → (readers : ℕ) (text : List ℕ) (event : Event) → IsEventText readers text event → CanCome readers event
text_can valid readers text event (inl h) = line_can readers h.said event h.says
text_can valid readers text event (inr (inl h)) = subst (CanCome readers) h.begins h.valid
text_can valid readers text event (inr (inr h)) = subst (CanCome readers) h.begins (valid h.records h.changes h.are)

texts_can : ImportsValid → (readers : ℕ) (texts : List (List ℕ)) (all : List Event) → AreEventTexts readers texts all → AllByRecursion (CanCome readers) all
texts_can valid readers [] [] h = tt
texts_can valid readers [] (event ∷ all) h = absurd h
texts_can valid readers (text ∷ texts) [] h = absurd h
texts_can valid readers (text ∷ texts) (event ∷ all) h = (text_can valid readers text event h.0, texts_can valid readers texts all h.1)

pub schedule_can : ImportsValid → (bytes : List ℕ) (s : Schedule) → IsSchedule bytes s → CanBePlayed s
schedule_can valid bytes s h =
    let a = then_some (behind (codes "play ") h.first) (λ text. and_then (number_of text) (λ n. where_true (nat_le 1 n && nat_le n most_readers) n)) s.readers h.readers in
    let b = then_some (number_of a.0) (λ n. where_true (nat_le 1 n && nat_le n most_readers) n) s.readers a.2 in
    let w = where_some (nat_le 1 b.0 && nat_le b.0 most_readers) b.0 s.readers b.2 in
    let t = both (nat_le 1 b.0) (nat_le b.0 most_readers) w.0 in
    let least = leb-true 1 b.0 t.0 in
    let most = leb-true b.0 most_readers t.1 in
    let is = w.1 in
    record { least = omega (arith, least, is); most = omega (arith, most, is); events = texts_can valid s.readers h.texts s.events h.events }
