-- The text of a schedule is one of it.
use Rattle.std.proofs.Common.{◌≡◌, inl, inr, ℕ, suc, ◌<◌, ◌≤◌, ◌^◌, Bool, true, ◌&&◌, List, [], ◌∷◌, ◌++◌, length, Option, Some, None, refl, ◌∙◌, ap, arith, codes}
use Rattle.std.specs.Prelude.{nat_le, nat_lt, not, decimal, map}
use Rattle.std.specs.List.{AllByRecursion}
use Rattle.std.specs.Option.{option_map, option_or}
use Rattle.std.proofs.lemmas.Bool.{le-leb}
use Rattle.std.proofs.lemmas.List.{append-nil}
use Rattle.hgs_bytes.specs.Text.{Lacks, line, split}
use Rattle.hgs_index.specs.MarkName.{is_mark_name}
use Rattle.hgs_model.specs.declared.command.Command.{Command}
use Rattle.hgs_model.specs.declared.command.Command.TheVariants.{Commit, Import, Move, Mark, Unmark}
use Rattle.hgs_model.specs.declared.command.NewChange.{NewChange}
use Rattle.hgs_model.specs.declared.phase.Phase.{Phase}
use Rattle.hgs_model.specs.Phase.{phase_name}
use Rattle.hgs_model.specs.Valid.{AreNewChanges}
use Rattle.hgs_input.specs.Import.{IsImportText, import_text}
use Rattle.hgs_input.specs.Record.{Wording, most_input}
use Rattle.hgs_input.specs.Read.{and_then, where_true}
use Rattle.hgs_schedule.specs.declared.event.Event.{Event}
use Rattle.hgs_schedule.specs.declared.event.Event.TheVariants as events
use Rattle.hgs_schedule.specs.declared.event.Schedule.{Schedule}
use Rattle.hgs_schedule.specs.Read.{most_number, most_readers, number_of, reader_of, readers_of, word_event, bytes_event, reader_event, cat_of, has_space, phase_question_of, target_of, move_of, mark_of, unmark_of, begin_of, asked_of, event_of}
use Rattle.hgs_schedule.specs.Schedule.{IsEventText, AreEventTexts, IsSchedule, CanCome, CanBePlayed, force_text, event_line, event_text, schedule_text, IsWord, CanBeWritten}
use Rattle.hgs_bytes.specs.Theorems.TextLemmas.{lacks-append, split_over}
use Rattle.hgs_schedule.specs.Theorems.LineLemmas.{lacks_lf, spaced, no_space, Words, target_back, target_line}
use Rattle.hgs_schedule.specs.Theorems.ReadLemmas.{and_then_back}

-- ---- numbers

number_back : Words → (n : ℕ) → n < 2 ^ 64 → number_of (decimal n) ≡ Some n
number_back words n small = words.numbers most_number n (omega (arith, small)) (omega arith)

reader_back : Words → (readers n : ℕ) → readers ≤ 64 → n < readers → reader_of readers (decimal n) ≡ Some n
reader_back words readers n most below =
    and_then_back (number_of (decimal n)) n (λ n. where_true (nat_lt n readers) n) (Some n) (number_back words n (omega (arith, most, below))) (ap (λ t. where_true t n) (le-leb (suc n) readers below))

reader_digits : Words → (byte readers n : ℕ) → byte < 45 → readers ≤ 64 → n < readers → Lacks byte (decimal n)
reader_digits words byte readers n low most below = words.digits byte n low (omega (arith, most, below))

-- ---- what each kind of line says

abbrev others : ℕ → List ℕ → Option Event
others readers said = option_or (reader_event readers said) (asked_of readers said)

of_bytes : (readers : ℕ) (said : List ℕ) (event : Event) → word_event said ≡ None → bytes_event said ≡ Some event → event_of readers said ≡ Some event
of_bytes readers said event a b = ap (λ o. option_or o (option_or (bytes_event said) (others readers said))) a ∙ ap (λ o. option_or o (others readers said)) b

of_reader : (readers : ℕ) (said : List ℕ) (event : Event) → word_event said ≡ None → bytes_event said ≡ None → reader_event readers said ≡ Some event → event_of readers said ≡ Some event
of_reader readers said event a b c =
    ap (λ o. option_or o (option_or (bytes_event said) (others readers said))) a ∙ ap (λ o. option_or o (others readers said)) b ∙ ap (λ o. option_or o (asked_of readers said)) c

of_asked : (readers : ℕ) (said : List ℕ) (event : Event) → word_event said ≡ None → bytes_event said ≡ None → reader_event readers said ≡ None → asked_of readers said ≡ Some event → event_of readers said ≡ Some event
of_asked readers said event a b c d =
    ap (λ o. option_or o (option_or (bytes_event said) (others readers said))) a ∙ ap (λ o. option_or o (others readers said)) b ∙ ap (λ o. option_or o (asked_of readers said)) c ∙ d

cat_back : Words → (readers reader : ℕ) (rev path : List ℕ) → readers ≤ 64 → reader < readers → Lacks 32 rev → cat_of readers (event_line (events.Cat reader rev path)) ≡ Some (events.Cat reader rev path)
cat_back words readers reader rev path most below word =
    let rest = rev ++ 32 ∷ path in
    and_then_back (split 32 (decimal reader ++ 32 ∷ rest)) (decimal reader, rest) (λ p. and_then (reader_of readers p.0) (λ reader. and_then (split 32 p.1) (λ q. Some (events.Cat reader q.0 q.1)))) (Some (events.Cat reader rev path))
    (split_over 32 (decimal reader) rest (reader_digits words 32 readers reader (omega arith) most below))
    (and_then_back (reader_of readers (decimal reader)) reader (λ reader. and_then (split 32 rest) (λ q. Some (events.Cat reader q.0 q.1))) (Some (events.Cat reader rev path)) (reader_back words readers reader most below)
    (and_then_back (split 32 rest) (rev, path) (λ q. Some (events.Cat reader q.0 q.1)) (Some (events.Cat reader rev path)) (split_over 32 rev path word) refl))

phase_back : Words → (readers reader : ℕ) (rev : List ℕ) → readers ≤ 64 → reader < readers → Lacks 32 rev → phase_question_of readers (event_line (events.Phase reader rev)) ≡ Some (events.Phase reader rev)
phase_back words readers reader rev most below word =
    and_then_back (split 32 (decimal reader ++ 32 ∷ rev)) (decimal reader, rev) (λ p. and_then (reader_of readers p.0) (λ reader. where_true (not (has_space p.1)) (events.Phase reader p.1))) (Some (events.Phase reader rev))
    (split_over 32 (decimal reader) rev (reader_digits words 32 readers reader (omega arith) most below))
    (and_then_back (reader_of readers (decimal reader)) reader (λ reader. where_true (not (has_space rev)) (events.Phase reader rev)) (Some (events.Phase reader rev)) (reader_back words readers reader most below)
    (ap (λ t. where_true (not t) (events.Phase reader rev)) (no_space rev word)))

move_back : (rev : List ℕ) (phase : Phase) (force : Bool) → Lacks 32 rev → move_of (event_line (events.Begin (Move rev phase force))) ≡ Some (Move rev phase force)
move_back rev phase force word =
    let target = phase_name phase ++ force_text force in
    and_then_back (split 32 (rev ++ 32 ∷ target)) (rev, target) (λ p. and_then (target_of p.1) (λ t. Some (Move p.0 t.0 t.1))) (Some (Move rev phase force)) (split_over 32 rev target word)
    (and_then_back (target_of target) (phase, force) (λ t. Some (Move rev t.0 t.1)) (Some (Move rev phase force)) (target_back phase force) refl)

mark_back : (name rev : List ℕ) → Lacks 32 rev → is_mark_name name ≡ true → mark_of (event_line (events.Begin (Mark name rev))) ≡ Some (Mark name rev)
mark_back name rev word valid =
    and_then_back (split 32 (rev ++ 32 ∷ name)) (rev, name) (λ p. where_true (is_mark_name p.1) (Mark p.1 p.0)) (Some (Mark name rev)) (split_over 32 rev name word)
    (ap (λ t. where_true t (Mark name rev)) valid)

-- ---- the line of an event

-- where a line says a command, it says an event
begun : (readers : ℕ) (said : List ℕ) (command : Command) → begin_of said ≡ Some command → asked_of readers said ≡ Some (events.Begin command)
begun readers said command e = ap (λ o. option_or (option_map (λ c. events.Begin c) o) (option_or (cat_of readers said) (phase_question_of readers said))) e

move_begins : (rev : List ℕ) (phase : Phase) (force : Bool) → Lacks 32 rev → begin_of (event_line (events.Begin (Move rev phase force))) ≡ Some (Move rev phase force)
move_begins rev phase force word =
    let said = event_line (events.Begin (Move rev phase force)) in
    ap (λ o. option_or o (option_or (mark_of said) (unmark_of said))) (move_back rev phase force word)

mark_begins : (name rev : List ℕ) → Lacks 32 rev → is_mark_name name ≡ true → begin_of (event_line (events.Begin (Mark name rev))) ≡ Some (Mark name rev)
mark_begins name rev word valid =
    let said = event_line (events.Begin (Mark name rev)) in
    ap (λ o. option_or o (unmark_of said)) (mark_back name rev word valid)

-- a line says each event but that a commit begins, and no LF stands in it
record Said (readers : ℕ) (event : Event) : Type 0 where
  lacks : Lacks 10 (event_line event)
  says : event_of readers (event_line event) ≡ Some event

said_move : (readers : ℕ) (rev : List ℕ) (phase : Phase) (force : Bool) → IsWord rev → Said readers (events.Begin (Move rev phase force))
said_move readers rev phase force word =
    let event = events.Begin (Move rev phase force) in
    record {
      lacks = lacks-append 10 (codes "begin phase ") (rev ++ 32 ∷ (phase_name phase ++ force_text force)) (lacks_lf (codes "begin phase ") refl) (spaced rev (phase_name phase ++ force_text force) word.1 (target_line phase force));
      says = of_asked readers (event_line event) event refl refl refl (begun readers (event_line event) (Move rev phase force) (move_begins rev phase force word.0));
    }

said_mark : Words → (readers : ℕ) (name rev : List ℕ) → IsWord rev → is_mark_name name ≡ true → Said readers (events.Begin (Mark name rev))
said_mark words readers name rev word valid =
    let event = events.Begin (Mark name rev) in
    record {
      lacks = lacks-append 10 (codes "begin bookmark ") (rev ++ 32 ∷ name) (lacks_lf (codes "begin bookmark ") refl) (spaced rev name word.1 (words.names name valid));
      says = of_asked readers (event_line event) event refl refl refl (begun readers (event_line event) (Mark name rev) (mark_begins name rev word.0 valid));
    }

said_unmark : Words → (readers : ℕ) (name : List ℕ) → is_mark_name name ≡ true → Said readers (events.Begin (Unmark name))
said_unmark words readers name valid =
    let event = events.Begin (Unmark name) in
    record {
      lacks = lacks-append 10 (codes "begin unbookmark ") name (lacks_lf (codes "begin unbookmark ") refl) (words.names name valid);
      says = of_asked readers (event_line event) event refl refl refl (begun readers (event_line event) (Unmark name) (ap (λ t. where_true t (Unmark name)) valid));
    }

-- a word, and behind it a number
counted_line : Words → (word : List ℕ) (n : ℕ) → Lacks 10 word → n < 2 ^ 64 → Lacks 10 (word ++ decimal n)
counted_line words word n lacks small = lacks-append 10 word (decimal n) lacks (words.digits 10 n (omega arith) small)

said_write : Words → (readers n : ℕ) → 1 ≤ n → n < 2 ^ 64 → Said readers (events.Write (Some n))
said_write words readers n least small =
    let event = events.Write (Some n) in
    record {
      lacks = counted_line words (codes "write ") n (lacks_lf (codes "write ") refl) small;
      says = of_bytes readers (event_line event) event refl (written least small);
    }
  where
    written : 1 ≤ n → n < 2 ^ 64 → bytes_event (event_line (events.Write (Some n))) ≡ Some (events.Write (Some n))
    written least small =
        ap (λ o. option_or (and_then o (λ k. where_true (nat_le 1 k) (events.Write (Some k)))) None) (number_back words n small)
        ∙ ap (λ t. option_or (where_true t (events.Write (Some n))) None) (le-leb 1 n least)

said_fail : Words → (readers n : ℕ) → n < 2 ^ 64 → Said readers (events.Fail n)
said_fail words readers n small =
    let event = events.Fail n in
    record {
      lacks = counted_line words (codes "fail ") n (lacks_lf (codes "fail ") refl) small;
      says = of_bytes readers (event_line event) event refl (ap (λ o. option_or (option_map (λ k. events.Fail k) o) None) (number_back words n small));
    }

said_stop : Words → (readers n : ℕ) → n < 2 ^ 64 → Said readers (events.Stop n)
said_stop words readers n small =
    let event = events.Stop n in
    record {
      lacks = counted_line words (codes "stop ") n (lacks_lf (codes "stop ") refl) small;
      says = of_bytes readers (event_line event) event refl (ap (option_map (λ k. events.Stop k)) (number_back words n small));
    }

-- ---- the lines that say a reader

said_open : Words → (readers n : ℕ) → readers ≤ 64 → n < readers → Said readers (events.Open n)
said_open words readers n most below =
    let event = events.Open n in
    record {
      lacks = counted_line words (codes "open ") n (lacks_lf (codes "open ") refl) (omega (arith, most, below));
      says = of_reader readers (event_line event) event refl refl (ap (λ o. option_or (option_map (λ k. events.Open k) o) None) (reader_back words readers n most below));
    }

said_read : Words → (readers n : ℕ) → readers ≤ 64 → n < readers → Said readers (events.Read n)
said_read words readers n most below =
    let event = events.Read n in
    record {
      lacks = counted_line words (codes "read ") n (lacks_lf (codes "read ") refl) (omega (arith, most, below));
      says = of_reader readers (event_line event) event refl refl (ap (λ o. option_or (option_map (λ k. events.Read k) o) None) (reader_back words readers n most below));
    }

said_load : Words → (readers n : ℕ) → readers ≤ 64 → n < readers → Said readers (events.Load n)
said_load words readers n most below =
    let event = events.Load n in
    record {
      lacks = counted_line words (codes "load ") n (lacks_lf (codes "load ") refl) (omega (arith, most, below));
      says = of_reader readers (event_line event) event refl refl (ap (λ o. option_or (option_map (λ k. events.Load k) o) None) (reader_back words readers n most below));
    }

said_log : Words → (readers n : ℕ) → readers ≤ 64 → n < readers → Said readers (events.Log n)
said_log words readers n most below =
    let event = events.Log n in
    record {
      lacks = counted_line words (codes "log ") n (lacks_lf (codes "log ") refl) (omega (arith, most, below));
      says = of_reader readers (event_line event) event refl refl (ap (λ o. option_or (option_map (λ k. events.Log k) o) None) (reader_back words readers n most below));
    }

said_bookmarks : Words → (readers n : ℕ) → readers ≤ 64 → n < readers → Said readers (events.Bookmarks n)
said_bookmarks words readers n most below =
    let event = events.Bookmarks n in
    record {
      lacks = counted_line words (codes "bookmarks ") n (lacks_lf (codes "bookmarks ") refl) (omega (arith, most, below));
      says = of_reader readers (event_line event) event refl refl (ap (option_map (λ k. events.Bookmarks k)) (reader_back words readers n most below));
    }

said_cat : Words → (readers reader : ℕ) (rev path : List ℕ) → readers ≤ 64 → reader < readers → IsWord rev → Lacks 10 path → Said readers (events.Cat reader rev path)
said_cat words readers reader rev path most below word lacks =
    let event = events.Cat reader rev path in
    record {
      lacks = lacks-append 10 (codes "cat ") (decimal reader ++ 32 ∷ (rev ++ 32 ∷ path)) (lacks_lf (codes "cat ") refl)
          (spaced (decimal reader) (rev ++ 32 ∷ path) (reader_digits words 10 readers reader (omega arith) most below) (spaced rev path word.1 lacks));
      says = of_asked readers (event_line event) event refl refl refl (ap (λ o. option_or o (phase_question_of readers (event_line event))) (cat_back words readers reader rev path most below word.0));
    }

said_phase : Words → (readers reader : ℕ) (rev : List ℕ) → readers ≤ 64 → reader < readers → IsWord rev → Said readers (events.Phase reader rev)
said_phase words readers reader rev most below word =
    let event = events.Phase reader rev in
    record {
      lacks = lacks-append 10 (codes "phase ") (decimal reader ++ 32 ∷ rev) (lacks_lf (codes "phase ") refl) (spaced (decimal reader) rev (reader_digits words 10 readers reader (omega arith) most below) word.1);
      says = of_asked readers (event_line event) event refl refl refl (phase_back words readers reader rev most below word.0);
    }

-- ---- the text of an event

line_text : (readers : ℕ) (event : Event) → Said readers event → IsEventText readers (line (event_line event) ++ []) event
line_text readers event h = inl (record { said = event_line event; is = append-nil (line (event_line event)); lacks = h.lacks; says = h.says })

-- the records of an import that is written
abbrev ImportsWritten : Type 0
ImportsWritten = (says : Wording) (changes : List NewChange) → AreNewChanges changes → IsImportText (import_text says changes) changes

text_of : Words → ImportsWritten → (says : Wording) (readers : ℕ) (event : Event) → readers ≤ 64 → CanCome readers event → CanBeWritten event → IsEventText readers (event_text says event) event
text_of words imports says readers (events.Begin (Commit change)) most can written = inr (inl (record { says = says; change = change; is = refl; valid = can; begins = refl }))
text_of words imports says readers (events.Begin (Import changes)) most can written = inr (inr (record { records = import_text says changes; changes = changes; is = refl; are = imports says changes can; begins = refl }))
text_of words imports says readers (events.Begin (Move rev phase force)) most can written = line_text readers (events.Begin (Move rev phase force)) (said_move readers rev phase force written)
text_of words imports says readers (events.Begin (Mark name rev)) most can written = line_text readers (events.Begin (Mark name rev)) (said_mark words readers name rev written can)
text_of words imports says readers (events.Begin (Unmark name)) most can written = line_text readers (events.Begin (Unmark name)) (said_unmark words readers name written)
text_of words imports says readers (events.Write None) most can written = line_text readers (events.Write None) (record { lacks = lacks_lf (codes "write") refl; says = refl })
text_of words imports says readers (events.Write (Some n)) most can written = line_text readers (events.Write (Some n)) (said_write words readers n can written)
text_of words imports says readers (events.Fail n) most can written = line_text readers (events.Fail n) (said_fail words readers n written)
text_of words imports says readers events.UntilPublish most can written = line_text readers events.UntilPublish (record { lacks = lacks_lf (codes "until publish") refl; says = refl })
text_of words imports says readers events.UntilClean most can written = line_text readers events.UntilClean (record { lacks = lacks_lf (codes "until clean") refl; says = refl })
text_of words imports says readers events.Finish most can written = line_text readers events.Finish (record { lacks = lacks_lf (codes "finish") refl; says = refl })
text_of words imports says readers (events.Open n) most can written = line_text readers (events.Open n) (said_open words readers n most can)
text_of words imports says readers (events.Read n) most can written = line_text readers (events.Read n) (said_read words readers n most can)
text_of words imports says readers (events.Load n) most can written = line_text readers (events.Load n) (said_load words readers n most can)
text_of words imports says readers (events.Log n) most can written = line_text readers (events.Log n) (said_log words readers n most can)
text_of words imports says readers (events.Cat reader rev path) most can written = line_text readers (events.Cat reader rev path) (said_cat words readers reader rev path most can written.0 written.1)
text_of words imports says readers (events.Phase reader rev) most can written = line_text readers (events.Phase reader rev) (said_phase words readers reader rev most can written)
text_of words imports says readers (events.Bookmarks n) most can written = line_text readers (events.Bookmarks n) (said_bookmarks words readers n most can)
text_of words imports says readers (events.Stop n) most can written = line_text readers (events.Stop n) (said_stop words readers n written)
text_of words imports says readers events.Recover most can written = line_text readers events.Recover (record { lacks = lacks_lf (codes "recover") refl; says = refl })

texts_of : Words → ImportsWritten → (says : Wording) (readers : ℕ) (all : List Event) → readers ≤ 64 → AllByRecursion (CanCome readers) all → AllByRecursion CanBeWritten all → AreEventTexts readers (map (event_text says) all) all
texts_of words imports says readers [] most can written = tt
texts_of words imports says readers (event ∷ all) most can written = (text_of words imports says readers event most can.0 written.0, texts_of words imports says readers all most can.1 written.1)

-- ---- the text of a schedule

first_back : Words → (readers : ℕ) → 1 ≤ readers → readers ≤ 64 → readers_of (codes "play " ++ decimal readers) ≡ Some readers
first_back words n least most =
    and_then_back (number_of (decimal n)) n (λ n. where_true (nat_le 1 n && nat_le n most_readers) n) (Some n) (number_back words n (omega (arith, most)))
    (ap (λ t. where_true (t && nat_le n most_readers) n) (le-leb 1 n least) ∙ ap (λ t. where_true t n) (le-leb n most_readers most))

pub text_is : Words → ImportsWritten → (says : Wording) (s : Schedule) → CanBePlayed s → AllByRecursion CanBeWritten s.events → length (schedule_text says s) ≤ most_input → IsSchedule (schedule_text says s) s
text_is words imports says s can written size =
    let most = can.most in
    record {
      first = codes "play " ++ decimal s.readers;
      texts = map (event_text says) s.events;
      is = refl;
      lacks = counted_line words (codes "play ") s.readers (lacks_lf (codes "play ") refl) (omega (arith, most));
      readers = first_back words s.readers can.least can.most;
      events = texts_of words imports says s.readers s.events can.most can.events written;
      size = size;
    }
