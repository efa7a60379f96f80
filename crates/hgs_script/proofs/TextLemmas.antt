-- The text of a script is one of it.
use Rattle.std.proofs.Common.{◌≡◌, inl, inr, ℕ, ◌<◌, ◌≤◌, Bool, true, ◌&&◌, List, [], ◌∷◌, ◌++◌, length, Option, Some, None, refl, ◌∙◌, ap, arith, codes}
use Rattle.std.specs.Prelude.{nat_le, not, decimal, map, if◌then◌else◌}
use Rattle.std.specs.List.{AllByRecursion}
use Rattle.std.specs.Option.{option_map, option_or}
use Rattle.std.proofs.lemmas.Bool.{le-leb}
use Rattle.std.proofs.lemmas.List.{append-nil}
use Rattle.hgs_bytes.specs.Text.{Lacks, line, split}
use Rattle.hgs_bytes.specs.Theorems.TextLemmas.{lacks-append, split_over}
use Rattle.hgs_index.specs.MarkName.{is_mark_name}
use Rattle.hgs_model.specs.declared.command.Command.{Command}
use Rattle.hgs_model.specs.declared.command.Command.TheVariants.{Commit, Import, Move, Mark, Unmark}
use Rattle.hgs_model.specs.declared.phase.Phase.{Phase}
use Rattle.hgs_model.specs.Phase.{phase_name}
use Rattle.hgs_input.specs.Record.{Wording, most_input}
use Rattle.hgs_input.specs.Read.{and_then, where_true, number_up_to}
use Rattle.hgs_schedule.specs.Read.{target_of}
use Rattle.hgs_schedule.specs.Schedule.{IsWord, force_text}
use Rattle.hgs_script.specs.declared.job.Job.{Job}
use Rattle.hgs_script.specs.declared.job.Job.TheVariants.{Change, Ask}
use Rattle.hgs_script.specs.declared.job.Question.TheVariants as questions
use Rattle.hgs_script.specs.Read.{Task, most_workers, workers_of, cat_of, files_of, question_of, move_of, mark_of, unmark_of, change_of, job_of}
use Rattle.hgs_script.specs.Script.{IsWorker, IsTaskText, AreTaskTexts, IsScript, HaveRoom, CanBeTold, CanBeWritten, CanBeDone, jobs_of_each, job_line, task_text, script_text}
use Rattle.hgs_schedule.specs.Theorems.LineLemmas.{lacks_lf, spaced, no_space, Words, target_back, target_line}
use Rattle.hgs_schedule.specs.Theorems.ReadLemmas.{and_then_back}

number_back : Words → (n : ℕ) → n ≤ most_workers → number_up_to most_workers (decimal n) ≡ Some n
number_back words n few = words.numbers most_workers n (omega (arith, few)) (omega arith)

-- ---- commands

-- a line says each job but a commit, and no LF stands in it
record Said (job : Job) : Type 0 where
  lacks : Lacks 10 (job_line job)
  says : job_of (job_line job) ≡ Some job

-- where a line says a command, it says a job
changes : (said : List ℕ) (command : Command) → change_of said ≡ Some command → job_of said ≡ Some (Change command)
changes said command e = ap (λ o. option_or (option_map (λ c. Change c) o) (option_map (λ q. Ask q) (question_of said))) e

move_back : (rev : List ℕ) (phase : Phase) (force : Bool) → Lacks 32 rev → move_of (job_line (Change (Move rev phase force))) ≡ Some (Move rev phase force)
move_back rev phase force word =
    let target = phase_name phase ++ force_text force in
    and_then_back (split 32 (rev ++ 32 ∷ target)) (rev, target) (λ p. and_then (target_of p.1) (λ t. Some (Move p.0 t.0 t.1))) (Some (Move rev phase force)) (split_over 32 rev target word)
    (and_then_back (target_of target) (phase, force) (λ t. Some (Move rev t.0 t.1)) (Some (Move rev phase force)) (target_back phase force) refl)

mark_back : (name rev : List ℕ) → Lacks 32 rev → is_mark_name name ≡ true → mark_of (job_line (Change (Mark name rev))) ≡ Some (Mark name rev)
mark_back name rev word valid =
    and_then_back (split 32 (rev ++ 32 ∷ name)) (rev, name) (λ p. where_true (is_mark_name p.1) (Mark p.1 p.0)) (Some (Mark name rev)) (split_over 32 rev name word)
    (ap (λ t. where_true t (Mark name rev)) valid)

said_move : (rev : List ℕ) (phase : Phase) (force : Bool) → IsWord rev → Said (Change (Move rev phase force))
said_move rev phase force word =
    let command = Move rev phase force in
    let said = job_line (Change command) in
    record {
      lacks = lacks-append 10 (codes "phase ") (rev ++ 32 ∷ (phase_name phase ++ force_text force)) (lacks_lf (codes "phase ") refl) (spaced rev (phase_name phase ++ force_text force) word.1 (target_line phase force));
      says = changes said command (ap (λ o. option_or o (option_or (mark_of said) (unmark_of said))) (move_back rev phase force word.0));
    }

said_mark : Words → (name rev : List ℕ) → IsWord rev → is_mark_name name ≡ true → Said (Change (Mark name rev))
said_mark words name rev word valid =
    let command = Mark name rev in
    let said = job_line (Change command) in
    record {
      lacks = lacks-append 10 (codes "bookmark ") (rev ++ 32 ∷ name) (lacks_lf (codes "bookmark ") refl) (spaced rev name word.1 (words.names name valid));
      says = changes said command (ap (λ o. option_or o (unmark_of said)) (mark_back name rev word.0 valid));
    }

said_unmark : Words → (name : List ℕ) → is_mark_name name ≡ true → Said (Change (Unmark name))
said_unmark words name valid =
    let command = Unmark name in
    record {
      lacks = lacks-append 10 (codes "unbookmark ") name (lacks_lf (codes "unbookmark ") refl) (words.names name valid);
      says = changes (job_line (Change command)) command (ap (λ t. where_true t command) valid);
    }

-- ---- questions

-- a text without a space has no two parts
split_none : (xs : List ℕ) → Lacks 32 xs → split 32 xs ≡ None
split_none [] h = refl
split_none (x ∷ xs) h = ap choose h.0 ∙ ap (option_map (λ y. (x ∷ y.0, y.1))) (split_none xs h.1)
  where
    choose : Bool → Option (List ℕ × List ℕ)
    choose t = if t then Some ([], xs) else option_map (λ y. (x ∷ y.0, y.1)) (split 32 xs)

said_phase : (rev : List ℕ) → IsWord rev → Said (Ask (questions.Phase rev))
said_phase rev word =
    let question = questions.Phase rev in
    let said = job_line (Ask question) in
    record {
      lacks = lacks-append 10 (codes "phase ") rev (lacks_lf (codes "phase ") refl) word.1;
      says =
          ap (λ o. option_or (option_map (λ c. Change c) (option_or (and_then o (λ p. and_then (target_of p.1) (λ t. Some (Move p.0 t.0 t.1)))) None)) (option_map (λ q. Ask q) (question_of said))) (split_none rev word.0)
          ∙ ap (λ t. option_map (λ q. Ask q) (option_or (where_true (not t) question) (option_or (files_of said) (cat_of said)))) (no_space rev word.0);
    }

said_files : (rev : List ℕ) → IsWord rev → Said (Ask (questions.Files rev))
said_files rev word =
    let question = questions.Files rev in
    record {
      lacks = lacks-append 10 (codes "files ") rev (lacks_lf (codes "files ") refl) word.1;
      says = ap (λ t. option_map (λ q. Ask q) (option_or (where_true (not t) question) (cat_of (job_line (Ask question))))) (no_space rev word.0);
    }

said_cat : (rev path : List ℕ) → IsWord rev → Lacks 10 path → Said (Ask (questions.Cat rev path))
said_cat rev path word lacks = record {
  lacks = lacks-append 10 (codes "cat ") (rev ++ 32 ∷ path) (lacks_lf (codes "cat ") refl) (spaced rev path word.1 lacks);
  says = ap (λ o. option_map (λ q. Ask q) (and_then o (λ p. Some (questions.Cat p.0 p.1)))) (split_over 32 rev path word.0);
}

-- ---- the text of a job

worker_back : Words → (n worker : ℕ) → n ≤ most_workers → worker < n → IsWorker n (decimal worker) worker
worker_back words n worker most there = record {
  plain = (words.digits 32 worker (omega arith) (omega (arith, most, there)), words.digits 10 worker (omega arith) (omega (arith, most, there)));
  number = number_back words worker (omega (arith, most, there));
  there = there;
}

line_text : Words → (n worker : ℕ) (job : Job) → n ≤ most_workers → worker < n → Said job → IsTaskText n (line (decimal worker ++ 32 ∷ job_line job) ++ []) (worker, job)
line_text words n worker job most there h = inl (record {
  word = decimal worker;
  said = job_line job;
  is = append-nil (line (decimal worker ++ 32 ∷ job_line job));
  worker = worker_back words n worker most there;
  lacks = h.lacks;
  says = h.says;
})

text_of : Words → (says : Wording) (n worker : ℕ) (job : Job) → n ≤ most_workers → worker < n → CanBeDone job → CanBeWritten job → IsTaskText n (task_text says (worker, job)) (worker, job)
text_of words says n worker (Change (Commit change)) most there can written =
    inr (record { word = decimal worker; says = says; change = change; is = refl; worker = worker_back words n worker most there; valid = can.0; commits = refl })
text_of words says n worker (Change (Import changes)) most there can written = absurd can.1
text_of words says n worker (Change (Move rev phase force)) most there can written = line_text words n worker (Change (Move rev phase force)) most there (said_move rev phase force written)
text_of words says n worker (Change (Mark name rev)) most there can written = line_text words n worker (Change (Mark name rev)) most there (said_mark words name rev written can.0)
text_of words says n worker (Change (Unmark name)) most there can written = line_text words n worker (Change (Unmark name)) most there (said_unmark words name written)
text_of words says n worker (Ask (questions.Phase rev)) most there can written = line_text words n worker (Ask (questions.Phase rev)) most there (said_phase rev written)
text_of words says n worker (Ask questions.Log) most there can written = line_text words n worker (Ask questions.Log) most there (record { lacks = lacks_lf (codes "log") refl; says = refl })
text_of words says n worker (Ask questions.Heads) most there can written = line_text words n worker (Ask questions.Heads) most there (record { lacks = lacks_lf (codes "heads") refl; says = refl })
text_of words says n worker (Ask questions.Bookmarks) most there can written = line_text words n worker (Ask questions.Bookmarks) most there (record { lacks = lacks_lf (codes "bookmarks") refl; says = refl })
text_of words says n worker (Ask questions.Parents) most there can written = line_text words n worker (Ask questions.Parents) most there (record { lacks = lacks_lf (codes "parents") refl; says = refl })
text_of words says n worker (Ask (questions.Files rev)) most there can written = line_text words n worker (Ask (questions.Files rev)) most there (said_files rev written)
text_of words says n worker (Ask (questions.Cat rev path)) most there can written = line_text words n worker (Ask (questions.Cat rev path)) most there (said_cat rev path written.0 written.1)

texts_of : Words → (says : Wording) (n : ℕ) (tasks : List Task) → n ≤ most_workers → AllByRecursion (CanBeTold n) tasks → AreTaskTexts n (map (task_text says) tasks) tasks
texts_of words says n [] most can = tt
texts_of words says n (task ∷ tasks) most can = (text_of words says n task.0 task.1 most can.0.there can.0.done can.0.written, texts_of words says n tasks most can.1)

-- ---- the text of a script

first_back : Words → (n : ℕ) → 1 ≤ n → n ≤ most_workers → workers_of (codes "session " ++ decimal n) ≡ Some n
first_back words n least most =
    and_then_back (number_up_to most_workers (decimal n)) n (λ n. where_true (nat_le 1 n && nat_le n most_workers) n) (Some n) (number_back words n most)
    (ap (λ t. where_true (t && nat_le n most_workers) n) (le-leb 1 n least) ∙ ap (λ t. where_true t n) (le-leb n most_workers most))

pub text_is : Words → (says : Wording) (n : ℕ) (tasks : List Task) → 1 ≤ n → n ≤ most_workers → AllByRecursion (CanBeTold n) tasks → HaveRoom tasks → length (script_text says n tasks) ≤ most_input →
    IsScript (script_text says n tasks) (record { workers = jobs_of_each 0 n tasks })
text_is words says n tasks least most can room size = record {
  first = codes "session " ++ decimal n;
  texts = map (task_text says) tasks;
  count = n;
  tasks = tasks;
  is = refl;
  lacks = lacks-append 10 (codes "session ") (decimal n) (lacks_lf (codes "session ") refl) (words.digits 10 n (omega arith) (omega (arith, most)));
  counted = first_back words n least most;
  are = texts_of words says n tasks most can;
  room = room;
  workers = refl;
  size = size;
}
