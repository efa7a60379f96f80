-- Each event keeps the log that a play is in.
use Rattle.std.proofs.Common.{◌≡◌, ℕ, List, [], ◌++◌, length, true, false, refl, sym, ◌∙◌, ap, subst, append-nil, append_assoc, inl, inr}
use Rattle.std.proofs.lemmas.List.{map-append}
use Rattle.std.specs.Prelude.{Option, Some, None, codes, slice_get}
use Rattle.std.specs.List.{AllByRecursion}
use Rattle.hgs_answers.specs.declared.answer.Answer.{Answer}
use Rattle.hgs_files.specs.declared.op.Op.{Op}
use Rattle.hgs_files.specs.Tree.{Tree, after_all}
use Rattle.hgs_journal.specs.Names.{journal_path, locks}
use Rattle.hgs_legal.specs.LegalLog.{Goes, State, Turn, current, start_of, stays}
use Rattle.hgs_legal.specs.ListsPaths.{ListsPaths}
use Rattle.hgs_legal.specs.Theorems.Runs.{run-join}
use Rattle.hgs_machine.specs.Asked.{Doing, Ending, Question, Sizing, asked, question_of}
use Rattle.hgs_machine.specs.Fed.{is_acknowledged, is_published, new_machine}
use Rattle.hgs_machine.specs.Locks.{AreLocked}
use Rattle.hgs_machine.specs.Planned.{IsPlanned}
use Rattle.hgs_model.specs.Repo.{Repo, empty_repo}
use Rattle.hgs_model.specs.Valid.{IsValid}
use Rattle.hgs_model.specs.declared.command.Command.{Command}
use Rattle.hgs_recover.specs.Found.{answer_in}
use Rattle.hgs_recover.specs.Recovering.{RecoversBy}
use Rattle.hgs_recover.specs.declared.answer.RecoverAnswer.{RecoverAnswer}
use Rattle.hgs_schedule.specs.Schedule.{CanCome}
use Rattle.hgs_schedule.specs.declared.event.Event.{Event}
use Rattle.hgs_schedule.specs.declared.event.Event.TheVariants.{Begin, Write, Fail, UntilPublish, UntilClean, Finish, Open, Read, Load, Log, Cat, Phase, Bookmarks, Stop, Recover}
use Rattle.hgs_stands.specs.Stands.{IsClean, Stands}
use Rattle.hgs_headline.specs.WritersLog.{WritersLog}
use Rattle.hgs_writer.specs.Begun.{Begins as BeginsWriting, IsRefused}
use Rattle.hgs_writer.specs.Planning.{Plans}
use Rattle.hgs_writer.specs.Turns.{IsAtRest}
use Rattle.hgs_writer.specs.Written.{has_no_plan}
use Rattle.hgs_writer.specs.declared.begin.Begun.{Begun}
use Rattle.hgs_writer.specs.declared.begin.Begun.TheVariants.{Ready, Refused}
use Rattle.hgs_writer.specs.declared.plan.Planned.{Planned}
use Rattle.std.specs.Prelude.{Ok}
use Rattle.hgs_world.specs.Book.{Commands, ended_in, noted, with_pending}
use Rattle.hgs_world.specs.Follows.{AtRest, Keeps, KeepsAt, Replays, has_published, is_open, stands}
use Rattle.hgs_world.specs.Moments.{HasCome}
use Rattle.hgs_world.specs.Questions.{Sight}
use Rattle.hgs_world.specs.Start.{new_tree}
use Rattle.hgs_world.specs.Working.{Acts, HasBytes, IsAtNext, IsSizing, RunsTo, StopsWithin, at_machine, publishes_with, writer_left}
use Rattle.hgs_world.specs.World.{ActsAt, ActsIn, BeginsIn, HasBegun, Happens, IfRunning, IsFirst, LeavesWriter, OnlySays, RecoversAt, RecoversIn, RunsAt, RunsIn, Scene, StopsAt, StopsIn, book_at, book_left, new_writer, tree_of, who}
use Rattle.hgs_world.specs.declared.working.Deed.{Deed}
use Rattle.hgs_world.specs.declared.working.Deed.TheVariants.{All as WholeDeed, Part as PartDeed, Fail as FailDeed}
use Rattle.hgs_world.specs.declared.working.Goal.{Goal}
use Rattle.hgs_world.specs.declared.working.Goal.TheVariants.{Publishing, Cleaning, End}
use Rattle.hgs_world.specs.declared.working.Working.{Working}
use Rattle.hgs_played.specs.Below.{Calling, Going, Laws}
use Rattle.hgs_played.specs.Since.{Beginning, Begins, ComesTo, GoesOn, IsPlayed, KeepsLog, LogsAt, Rests, Works, commands_of, one_if, tree_at}
use Rattle.hgs_played.proofs.Ending.{IsNotAsking, Leads, leads_at, not_asking}
use Rattle.hgs_played.proofs.Going.{Onward, acts_onward, after_append, comes_by_sizes, onward_then, runs_onward, sizes_onward, unbegun}
use Rattle.hgs_played.proofs.Noting.{notes}
use Rattle.hgs_played.proofs.Refusing.{refused_leads}
use Rattle.hgs_played.proofs.Stopping.{leads_at_stop, publishes_on}

module _ (l : Laws) where
  abbrev g : Going
  g = l.going

  abbrev c : Calling
  c = l.calling

  -- ---- a log without a writer

  -- it goes on to where no writer is at work
  rests_by : (start : Tree) (b : Beginning) (before done : List Op) (older : List Command) (s : State) → ComesTo start b before older s → (commands : List Command) → Leads s done commands → (book : Commands) → book.published ≡ older ++ commands → Rests start b (before ++ done) book
  rests_by start b before done older s comes commands h book is =
      let turns : commands_of s.published ++ commands_of h.turns ≡ commands_of h.leads.state.published = sym (map-append (λ (x : Turn). x.command) s.published h.turns) ∙ ap commands_of (sym h.leads.published) in
      record {
        state = h.leads.state;
        comes = record {
          run = run-join Goes (start_of (tree_at start b) b.first) before done s h.leads.state comes.run h.leads.run;
          published = is ∙ ap (λ x. x ++ commands) comes.published ∙ append_assoc b.older (commands_of s.published) commands ∙ ap (λ x. b.older ++ (commands_of s.published ++ x)) (sym h.are) ∙ ap (λ x. b.older ++ x) turns;
        };
        left = h.left;
        at_rest = h.leads.at_rest;
      }

  -- ---- a writer at work

  module _ (start : Tree) (b : Beginning) (begins : Begins start b) where
    files_at : (before : List Op) (older : List Command) (s : State) → ComesTo start b before older s → s.files ≡ after_all before (tree_at start b)
    files_at before older s comes = c.files (tree_at start b) b.first before s comes.run

    stands_at : (before : List Op) (older : List Command) (s : State) → ComesTo start b before older s → IsAtRest None s → Stands s.files (current s)
    stands_at before older s comes rest = c.stands (tree_at start b) b.first before s begins.clean.stands comes.run rest

    lists_at : (before : List Op) (older : List Command) (s : State) → ComesTo start b before older s → IsAtRest None s → ListsPaths s.files (current s)
    lists_at before older s comes rest =
        let e = files_at before older s comes in
        let there = subst (λ (t : Tree). Stands t (current s)) e (stands_at before older s comes rest) in
        subst (λ (t : Tree). ListsPaths t (current s)) (sym e) (c.lists (tree_at start b) b.first (current s) before s begins.clean.stands begins.lists comes.run (inl there))

    asks_no_size : (w : Working) (command : Command) (t : Tree) (done : List Op) → HasCome command t w done → (IsSizing (asked w.machine) → ⊥) → IsNotAsking w.machine.stage
    asks_no_size w command t done come sized =
        let m = w.machine in
        not_asking (after_all come.locking t) m.plan m.stage m.done m.place m.outcome m.swept come.worked.log come.worked.so_far sized

    leads_now : (log : List Op) (w : Working) (book : Commands) (k : Works start b log w book) → Leads k.state k.done (one_if (is_published w.machine) k.command)
    leads_now log w book k =
        leads_at g c k.state k.command w k.done k.at_rest (stands_at k.before k.older k.state k.comes k.at_rest) k.valid (lists_at k.before k.older k.state k.comes k.at_rest) k.come k.sure (asks_no_size w k.command k.state.files k.done k.come k.sized)

    -- what is left of a writer that may have come to its end
    left_at : (log : List Op) (w : Working) (book : Commands) (q : Question) → Works start b log w book → LogsAt start b log (writer_left q w) (book_left q book)
    left_at log w book (Doing op) k = k
    left_at log w book (Sizing path) k = k
    left_at log w book Ending k =
        subst (λ x. Rests start b x (ended_in book)) (sym k.whole) (rests_by start b k.before k.done k.older k.state k.comes (one_if (is_published w.machine) k.command) (leads_now log w book k) (ended_in book) k.published)

    -- a writer that goes on
    works_on : (log more : List Op) (w after : Working) (book : Commands) (k : Works start b log w book) → HasCome k.command k.state.files after (k.done ++ more) → Onward w.machine after.machine → (IsSizing (asked after.machine) → ⊥) → Works start b (log ++ more) after (book_at after.machine book)
    works_on log more w after book k come onward sized =
        let n = notes k.older k.command (is_published w.machine) (is_published after.machine) (is_acknowledged after.machine) book onward.published (record { published = k.published; pending = k.pending }) in
        record {
          before = k.before;
          older = k.older;
          state = k.state;
          comes = k.comes;
          at_rest = k.at_rest;
          command = k.command;
          valid = k.valid;
          done = k.done ++ more;
          come = come;
          whole = ap (λ x. x ++ more) k.whole ∙ append_assoc k.before k.done more;
          sure = onward.sure k.sure;
          sized = sized;
          published = n.published;
          pending = n.pending;
        }

    -- the tree is the one that the writer's own operations lead to
    tree_at_work : (log : List Op) (w : Working) (book : Commands) (k : Works start b log w book) → after_all log (tree_at start b) ≡ after_all k.done k.state.files
    tree_at_work log w book k = ap (λ x. after_all x (tree_at start b)) k.whole ∙ after_append k.before k.done (tree_at start b) ∙ ap (after_all k.done) (sym (files_at k.before k.older k.state k.comes))

    stops_at : (log more : List Op) (w after : Working) (book : Commands) (count : ℕ) → Works start b log w book → StopsWithin count (after_all log (tree_at start b)) w more after → Rests start b (log ++ more) (ended_in (noted (publishes_with count after) false book))
    stops_at log more w after book count k h =
        let s = subst (λ (t : Tree). StopsWithin count t w more after) (tree_at_work log w book k) h in
        let leads = leads_at_stop g c k.state k.command k.at_rest (stands_at k.before k.older k.state k.comes k.at_rest) k.valid (lists_at k.before k.older k.state k.comes k.at_rest) w k.done k.come k.sure k.sized (asks_no_size w k.command k.state.files k.done k.come k.sized) count more after s in
        let on : is_published w.machine ≡ true → publishes_with count after ≡ true = publishes_on g count (after_all k.done k.state.files) w after more s in
        let n = notes k.older k.command (is_published w.machine) (publishes_with count after) false book on (record { published = k.published; pending = k.pending }) in
        let whole : log ++ more ≡ k.before ++ (k.done ++ more) = ap (λ x. x ++ more) k.whole ∙ append_assoc k.before k.done more in
        let book_now = ended_in (noted (publishes_with count after) false book) in
        subst (λ x. Rests start b x book_now) (sym whole) (rests_by start b k.before (k.done ++ more) k.older k.state k.comes (one_if (publishes_with count after) k.command) leads book_now n.published)

    -- ---- a writer that begins

    -- a command that is refused
    refused_rests : (log done : List Op) (book : Commands) (command : Command) (answer : Answer) → IsValid command → Rests start b log book → IsRefused who command (after_all log (tree_at start b)) answer done → Rests start b (log ++ done) book
    refused_rests log done book command answer valid k h = rests_by start b log done book.published k.state k.comes [] (by k.left k.at_rest) book (sym (append-nil book.published))
      where
        here : IsRefused who command k.state.files answer done
        here = subst (λ (t : Tree). IsRefused who command t answer done) (sym (files_at log book.published k.state k.comes)) h

        by : (left : Option (List Op)) → IsAtRest left k.state → Leads k.state done []
        by None rest =
            refused_leads k.state done who command answer.outcome
            (c.own k.state command who answer None done rest (stands_at log book.published k.state k.comes rest) valid (lists_at log book.published k.state k.comes rest) (has_no_plan done here))
        by (Some left) rest =
            let journal = c.journal (tree_at start b) b.first log k.state left begins.clean.stands k.comes.run rest in
            let leads = c.beside k.state (Some left) command who answer None done rest journal (has_no_plan done here) in
            record { left = Some left; turns = []; leads = leads.1; are = refl }

    -- what a writer asks for that begins is no size
    asks_first : (o : Option Op) → IsSizing (question_of o (λ op. false)) → ⊥
    asks_first None h = h
    asks_first (Some op) h = h

    begins_writing : (t : Tree) (command : Command) (planned : Planned) (done : List Op) → AreLocked who t done → Plans command (after_all done t) (Ok planned) → IsPlanned (after_all done t) planned.plan → HasCome command t (new_writer planned) done
    begins_writing t command planned done locked plans can =
        record {
          planned = planned;
          locking = done;
          working = [];
          locked = locked;
          plans = plans;
          worked = record { plan = refl; rev = refl; node = refl; log = []; begun = []; so_far = g.begins (after_all done t) planned.plan can; is_begun = unbegun (asked (new_machine planned.plan)) 0 refl; whole = refl };
          whole = sym (append-nil done);
        }

    -- a command that is planned
    sets_out : (log done : List Op) (book : Commands) (command : Command) (planned : Planned) → IsValid command → Rests start b log book → let t : Tree = after_all log (tree_at start b) in AreLocked who t done → Plans command (after_all done t) (Ok planned) → IsPlanned (after_all done t) planned.plan
        → Works start b (log ++ done) (new_writer planned) (with_pending command book)
    sets_out log done book command planned valid k locked plans can = by k.left k.at_rest
      where
        t : Tree
        t = after_all log (tree_at start b)

        same : t ≡ k.state.files
        same = sym (files_at log book.published k.state k.comes)

        by : (left : Option (List Op)) → IsAtRest left k.state → Works start b (log ++ done) (new_writer planned) (with_pending command book)
        by None rest =
            record {
              before = log;
              older = book.published;
              state = k.state;
              comes = k.comes;
              at_rest = rest;
              command = command;
              valid = valid;
              done = done;
              come = subst (λ (u : Tree). HasCome command u (new_writer planned) done) same (begins_writing t command planned done locked plans can);
              whole = refl;
              sure = tt;
              sized = asks_first (slice_get planned.plan.ops.items 0);
              published = sym (append-nil book.published);
              pending = refl;
            }
        by (Some left) rest =
            absurd (c.journal (tree_at start b) b.first log k.state left begins.clean.stands k.comes.run rest (ap (λ (u : Tree). u journal_path) (sym same) ∙ c.no_journal who t done locked))

  -- ---- a new log

  -- what the files stand for between two events, where no journal does
  rests_standing : (t : Tree) (book : Commands) → AtRest t book → t journal_path ≡ None → (r : Repo) × Replays empty_repo book.published r × Stands t r × ListsPaths t r
  rests_standing t _ (stands r older leads s lists) none = (r, leads, s, lists)
  rests_standing t _ (is_open r older leads o lists) none = let some = o.1.journal_stands in absurd (let no : ⊥ = cc in no)
  rests_standing t _ (has_published r older command next leads e o lists) none = let some = o.1.journal_stands in absurd (let no : ⊥ = cc in no)

  begins_anew : (s : Scene) → Keeps s → s.writer ≡ None → AllByRecursion (λ lock. tree_of s lock ≡ None) locks → tree_of s journal_path ≡ None → (b : Beginning) × (b.earlier ≡ s.log) × KeepsLog s b []
  begins_anew s keeps e no_locks no_journal =
      let h = rests_standing (tree_of s) s.book (subst (λ o. KeepsAt (tree_of s) o s.book) e keeps) no_journal in
      let b : Beginning = record { earlier = s.log; older = s.book.published; first = h.0 } in (
        b,
        refl,
        record {
          begins = record { clean = record { stands = h.2; no_locks = no_locks }; lists = h.3; leads = h.1 };
          whole = sym (append-nil s.log);
          logs = subst (λ o. LogsAt s.start b [] o s.book) (sym e) (record { state = start_of (tree_of s) h.0; comes = record { run = refl; published = sym (append-nil s.book.published) }; left = None; at_rest = ([], stays) });
        },
      )

  pub first_logs : (readers : ℕ) (s : Scene) → IsFirst readers s → (b : Beginning) × KeepsLog s b []
  first_logs readers s first =
      let is : (path : List ℕ) → tree_of s path ≡ new_tree path = λ path. ap (λ log. after_all log s.start path) first.log ∙ first.start path in
      let h = begins_anew s (c.first_keeps readers s first) first.writer (is _, (is _, tt)) (is journal_path) in
      (h.0, h.2)

  recovered_clean : (t : Tree) (book : Commands) (came : RecoverAnswer) (done : List Op) → AtRest t book → came ≡ answer_in t → RecoversBy t came true done → (r : Repo) × IsClean (after_all done t) r
  recovered_clean t _ came done (stands r older leads s lists) e h = (r, c.cleans t r done s (subst (λ x. RecoversBy t x true done) (e ∙ c.found_standing t r s) h))
  recovered_clean t _ came done (is_open r older leads o lists) e h = (r, c.cleans_open t r done o (subst (λ x. RecoversBy t x true done) (e ∙ c.found_open t r o) h))
  recovered_clean t _ came done (has_published r older command next leads accepted o lists) e h = (r, c.cleans_open t r done o (subst (λ x. RecoversBy t x true done) (e ∙ c.found_open t r o) h))

  -- ---- each event

  -- the log goes on with this
  abbrev Goes_on : Scene → Beginning → List Op → Type 0
  Goes_on s b log = (done : List Op) × KeepsLog s b (log ++ done)

  idle : (old new : Scene) (b : Beginning) (log : List Op) (words text : List ℕ) → KeepsLog old b log → OnlySays old new words text → Goes_on new b log
  idle old new b log words text k h = ([], subst (KeepsLog new b) (sym (append-nil log)) (subst (λ (s : Scene). KeepsLog s b log) (sym h.0) k))

  tree_now : (s : Scene) (b : Beginning) (log : List Op) → KeepsLog s b log → tree_of s ≡ after_all log (tree_at s.start b)
  tree_now s b log k = ap (λ x. after_all x s.start) k.whole ∙ after_append b.earlier log s.start

  longer : (s : Scene) (b : Beginning) (log done : List Op) → KeepsLog s b log → s.log ++ done ≡ b.earlier ++ (log ++ done)
  longer s b log done k = ap (λ x. x ++ done) k.whole ∙ append_assoc b.earlier log done

  -- a scene with this log, this writer and these commands
  kept : (old new : Scene) (b : Beginning) (log done : List Op) → KeepsLog old b log → new.start ≡ old.start → new.log ≡ old.log ++ done → LogsAt old.start b (log ++ done) new.writer new.book → KeepsLog new b (log ++ done)
  kept old new b log done k start whole logs =
      record {
        begins = subst (λ (t : Tree). Begins t b) (sym start) k.begins;
        whole = whole ∙ longer old b log done k;
        logs = subst (λ (t : Tree). LogsAt t b (log ++ done) new.writer new.book) (sym start) logs;
      }

  -- what is left of the writer behind an event
  leaves : (old new : Scene) (b : Beginning) (log done : List Op) (after : Working) (words text : List ℕ) → KeepsLog old b log → Works old.start b (log ++ done) after (book_at after.machine old.book) → LeavesWriter old new done after words text → Goes_on new b log
  leaves old new b log done after words text k works h = (
    done,
    kept old new b log done k (ap (λ (s : Scene). s.start) h.0) (ap (λ (s : Scene). s.log) h.0)
        (subst (λ (s : Scene). LogsAt old.start b (log ++ done) s.writer s.book) (sym h.0) (left_at old.start b k.begins (log ++ done) after (book_at after.machine old.book) (asked after.machine) works)),
  )

  acts_keep : (deed : Deed) (words : List ℕ) (old new : Scene) (text : List ℕ) (b : Beginning) (log : List Op) → HasBytes deed → KeepsLog old b log → ActsIn deed words old new text → Goes_on new b log
  acts_keep deed words old new text b log some keeps h = by old.writer keeps.logs h
    where
      by : (o : Option Working) → LogsAt old.start b log o old.book → IfRunning o (OnlySays old new (codes "idle") text) (ActsAt deed words old new text) → Goes_on new b log
      by None k h = idle old new b log (codes "idle") text keeps h
      by (Some w) k (done, mid, a, m, n, left) =
          let here : tree_of old ≡ after_all k.done k.state.files = tree_now old b log keeps ∙ tree_at_work old.start b keeps.begins log w old.book k in
          let come = g.acts k.command k.state.files w k.done deed done mid k.come some (subst (λ (x : Tree). Acts deed x w done mid) here a) in
          let there : after_all done (tree_of old) ≡ after_all (k.done ++ done) k.state.files = ap (after_all done) here ∙ sym (after_append k.done done k.state.files) in
          let sized = comes_by_sizes g k.command k.state.files mid m (k.done ++ done) come (subst (λ (x : Tree). IsAtNext x mid.machine m) there n) in
          let onward = onward_then w.machine mid.machine m (acts_onward g deed (tree_of old) w done mid a) (sizes_onward g (after_all done (tree_of old)) mid.machine m n.sizes) in
          leaves old new b log done (at_machine mid m) words text keeps (works_on old.start b keeps.begins log done w (at_machine mid m) old.book k sized onward n.no_more) left

  runs_keep : (goal : Goal) (words : List ℕ) (old new : Scene) (text : List ℕ) (b : Beginning) (log : List Op) → KeepsLog old b log → RunsIn goal words old new text → Goes_on new b log
  runs_keep goal words old new text b log keeps h = by old.writer keeps.logs h
    where
      by : (o : Option Working) → LogsAt old.start b log o old.book → IfRunning o (OnlySays old new (codes "idle") text) (RunsAt goal words old new text) → Goes_on new b log
      by None k h = idle old new b log (codes "idle") text keeps h
      by (Some w) k (done, after, a, left) =
          let here : tree_of old ≡ after_all k.done k.state.files = tree_now old b log keeps ∙ tree_at_work old.start b keeps.begins log w old.book k in
          let come = g.runs k.command k.state.files w k.done goal done after k.come (subst (λ (x : Tree). RunsTo goal x w done after) here a) in
          let next : IsSizing (asked after.machine) → ⊥ = subst (λ (v : Working). IsSizing (asked v.machine) → ⊥) (sym a.is) a.next.no_more in
          leaves old new b log done after words text keeps (works_on old.start b keeps.begins log done w after old.book k come (runs_onward g goal (tree_of old) w done after a) next) left

  stops_keep : (count : ℕ) (old new : Scene) (text : List ℕ) (b : Beginning) (log : List Op) → KeepsLog old b log → StopsIn count old new text → Goes_on new b log
  stops_keep count old new text b log keeps h = by old.writer keeps.logs h
    where
      by : (o : Option Working) → LogsAt old.start b log o old.book → IfRunning o (OnlySays old new (codes "idle") text) (StopsAt count old new text) → Goes_on new b log
      by None k h = idle old new b log (codes "idle") text keeps h
      by (Some w) k (done, after, s, e, said) =
          let stopped = subst (λ (x : Tree). StopsWithin count x w done after) (tree_now old b log keeps) s in (
            done,
            kept old new b log done keeps (ap (λ (x : Scene). x.start) e) (ap (λ (x : Scene). x.log) e)
                (subst (λ (x : Scene). LogsAt old.start b (log ++ done) x.writer x.book) (sym e) (stops_at old.start b keeps.begins log done w after old.book count k stopped)),
          )

  begins_keep : (command : Command) (old new : Scene) (text : List ℕ) (b : Beginning) (log : List Op) → IsValid command → KeepsLog old b log → Happens (Begin command) old new text → Goes_on new b log
  begins_keep command old new text b log valid keeps h = by old.writer refl keeps.logs h
    where
      at : tree_of old ≡ after_all log (tree_at old.start b)
      at = tree_now old b log keeps

      come : (begun : Begun) (done : List Op) → Rests old.start b log old.book → BeginsWriting who command (tree_of old) begun done → HasBegun command begun old new done text → Goes_on new b log
      come (Ready planned) done k h (can, now, said) =
          let locked = subst (λ (t : Tree). AreLocked who t done) at h.0 in
          let plans = subst (λ (t : Tree). Plans command (after_all done t) (Ok planned)) at h.1 in
          let may = subst (λ (t : Tree). IsPlanned (after_all done t) planned.plan) at can in (
            done,
            kept old new b log done keeps (ap (λ (x : Scene). x.start) now) (ap (λ (x : Scene). x.log) now)
                (subst (λ (x : Scene). LogsAt old.start b (log ++ done) x.writer x.book) (sym now) (sets_out old.start b keeps.begins log done old.book command planned valid k locked plans may)),
          )
      come (Refused answer) done k h (given, swept, now, said) = (
        done,
        kept old new b log done keeps (ap (λ (x : Scene). x.start) now) (ap (λ (x : Scene). x.log) now)
            (subst (λ (x : Scene). LogsAt old.start b (log ++ done) x.writer x.book) (sym now) (refused_rests old.start b keeps.begins log done old.book command answer valid k (subst (λ (t : Tree). IsRefused who command t answer done) at h))),
      )

      by : (o : Option Working) → old.writer ≡ o → LogsAt old.start b log o old.book → IfRunning o (BeginsIn command old new text) (λ w. OnlySays old new (codes "busy") text) → Goes_on new b log
      by None e k (begun, done, bg, h) = come begun done k bg h
      by (Some w) e k h = idle old new b log (codes "busy") text keeps h

  -- what goes on in the same log, or in a new one
  abbrev GoesSo : Event → Scene → Beginning → List Op → Type 0
  GoesSo event new b log = (d : Beginning) × (more : List Op) × GoesOn event new b log d more × KeepsLog new d more

  on : (event : Event) (new : Scene) (b : Beginning) (log : List Op) → Goes_on new b log → GoesSo event new b log
  on event new b log h = (b, log ++ h.0, inl (refl, (h.0, refl)), h.1)

  recovers_keep : (readers : ℕ) (old new : Scene) (text : List ℕ) (b : Beginning) (log : List Op) → CanCome readers Recover → Keeps old → KeepsLog old b log → RecoversIn old new text → GoesSo Recover new b log
  recovers_keep readers old new text b log can keeps k h = by old.writer refl keeps h
    where
      by : (o : Option Working) → old.writer ≡ o → KeepsAt (tree_of old) o old.book → IfRunning o (RecoversAt old new text) (λ w. OnlySays old new (codes "busy") text) → GoesSo Recover new b log
      by None e rest (came, done, ended, is, does, now, said) =
          let clean = recovered_clean (tree_of old) old.book came done rest is does in
          let tree : after_all done (tree_of old) ≡ tree_of new = sym (after_append old.log done old.start) ∙ ap tree_of (sym now) in
          let is_clean = subst (λ (t : Tree). IsClean t clean.0) tree clean.1 in
          let anew = begins_anew new (c.happens_keep readers Recover old new text can keeps h) (ap (λ (x : Scene). x.writer) now ∙ e) is_clean.no_locks is_clean.stands.no_journal in
          (anew.0, [], inr (refl, refl, (length old.readers, ap (λ (x : Scene). x.readers) now)), anew.2)
      by (Some w) e rest h = on Recover new b log (idle old new b log (codes "busy") text k h)

  -- events of readers
  reads : (event : Event) (old new : Scene) (b : Beginning) (log : List Op) → KeepsLog old b log → new.start ≡ old.start → new.log ≡ old.log → new.writer ≡ old.writer → new.book ≡ old.book → GoesSo event new b log
  reads event old new b log k start logs writer book =
      let same = subst (λ o. LogsAt old.start b log o new.book) (sym writer) (subst (λ x. LogsAt old.start b log old.writer x) (sym book) k.logs) in
      on event new b log ([], kept old new b log [] k start (logs ∙ sym (append-nil old.log)) (subst (λ x. LogsAt old.start b x new.writer new.book) (sym (append-nil log)) same))

  sees : (event : Event) (old new : Scene) (b : Beginning) (log : List Op) (readers : List Sight) → KeepsLog old b log → new ≡ record old { readers = readers } → GoesSo event new b log
  sees event old new b log readers k e = reads event old new b log k (ap (λ (x : Scene). x.start) e) (ap (λ (x : Scene). x.log) e) (ap (λ (x : Scene). x.writer) e) (ap (λ (x : Scene). x.book) e)

  asks : (event : Event) (old new : Scene) (b : Beginning) (log : List Op) → KeepsLog old b log → new ≡ old → GoesSo event new b log
  asks event old new b log k e = sees event old new b log old.readers k e

  pub happens_log : (readers : ℕ) (event : Event) (old new : Scene) (text : List ℕ) (b : Beginning) (log : List Op) → CanCome readers event → Keeps old → KeepsLog old b log → Happens event old new text → GoesSo event new b log
  happens_log readers (Begin command) old new text b log can keeps k h = on (Begin command) new b log (begins_keep command old new text b log can k h)
  happens_log readers (Write None) old new text b log can keeps k h = on (Write None) new b log (acts_keep WholeDeed (codes "wrote") old new text b log tt k h)
  happens_log readers (Write (Some count)) old new text b log can keeps k h = on (Write (Some count)) new b log (acts_keep (PartDeed count) (codes "wrote") old new text b log can k h)
  happens_log readers (Fail count) old new text b log can keeps k h = on (Fail count) new b log (acts_keep (FailDeed count) (codes "failed") old new text b log tt k h)
  happens_log readers UntilPublish old new text b log can keeps k h = on UntilPublish new b log (runs_keep Publishing (codes "at publish") old new text b log k h)
  happens_log readers UntilClean old new text b log can keeps k h = on UntilClean new b log (runs_keep Cleaning (codes "at clean") old new text b log k h)
  happens_log readers Finish old new text b log can keeps k h = on Finish new b log (runs_keep End [] old new text b log k h)
  happens_log readers (Stop count) old new text b log can keeps k h = on (Stop count) new b log (stops_keep count old new text b log k h)
  happens_log readers Recover old new text b log can keeps k h = recovers_keep readers old new text b log can keeps k h
  happens_log readers (Open reader) old new text b log can keeps k (s, there, (now, said)) = sees (Open reader) old new b log _ k now
  happens_log readers (Read reader) old new text b log can keeps k (s, there, (now, said)) = sees (Read reader) old new b log _ k now
  happens_log readers (Load reader) old new text b log can keeps k (s, there, (now, said)) = sees (Load reader) old new b log _ k now
  happens_log readers (Log reader) old new text b log can keeps k (s, there, (now, said)) = asks (Log reader) old new b log k now
  happens_log readers (Cat reader rev path) old new text b log can keeps k (s, there, (now, said)) = asks (Cat reader rev path) old new b log k now
  happens_log readers (Phase reader rev) old new text b log can keeps k (s, there, (now, said)) = asks (Phase reader rev) old new b log k now
  happens_log readers (Bookmarks reader) old new text b log can keeps k (s, there, (now, said)) = asks (Bookmarks reader) old new b log k now

  -- ---- what follows

  pub played : (s : Scene) (b : Beginning) (log : List Op) → KeepsLog s b log → (h : WritersLog) × (h.log ≡ log) × IsPlayed s b h
  played s b log k = by s.writer k.logs
    where
      of : Rests s.start b log s.book → (h : WritersLog) × (h.log ≡ log) × IsPlayed s b h
      of r =
          let h : WritersLog = record { start = tree_at s.start b; first = b.first; log = log; last = r.state; stands = k.begins.clean.stands; run = r.comes.run } in
          (h, refl, record { start = refl; first = refl; whole = k.whole; published = r.comes.published })

      by : (o : Option Working) → LogsAt s.start b log o s.book → (h : WritersLog) × (h.log ≡ log) × IsPlayed s b h
      by None r = of r
      by (Some w) works =
          let leads = leads_now s.start b k.begins log w s.book works in
          of (subst (λ x. Rests s.start b x s.book) (sym works.whole) (rests_by s.start b works.before works.done works.older works.state works.comes (one_if (is_published w.machine) works.command) leads s.book works.published))
