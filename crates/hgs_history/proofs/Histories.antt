-- The calls of a session lead from one state at rest to the next.
use Rattle.std.proofs.Common.{◌≡◌, ◌⊎◌, ℕ, zero, suc, List, [], ◌∷◌, ◌++◌, refl, sym, ◌∙◌, ap, subst, append_assoc, append-nil, inl, inr}
use Rattle.std.specs.Prelude.{Bool, true, false, Option, Some, None, slice_get}
use Rattle.std.specs.List.{AllByRecursion, FoldsTo}
use Rattle.std.proofs.lemmas.Grind.{flat_map-append, fold-append}
use Rattle.hgs_files.specs.declared.op.Op.{Op}
use Rattle.hgs_files.specs.Files.{GoesOn}
use Rattle.hgs_files.specs.Tree.{Tree, after_all}
use Rattle.hgs_headline.specs.WritersLog.{state_behind}
use Rattle.hgs_journal.specs.Names.{journal_path}
use Rattle.hgs_legal.specs.ListsPaths.{ListsPaths}
use Rattle.hgs_legal.specs.LegalLog.{IsRun, Run, State, Turn, current, start_of, stays}
use Rattle.hgs_legal.specs.Numbers.{acknowledged_of, b_of, n_of, w_of}
use Rattle.hgs_machine.specs.Carry.{tree_now}
use Rattle.hgs_model.specs.Repo.{Repo}
use Rattle.hgs_model.specs.Valid.{IsValid}
use Rattle.hgs_model.specs.declared.command.Command.{Command}
use Rattle.hgs_ops.specs.Operations.{strays}
use Rattle.hgs_script.specs.Script.{CanBeDone, IsShare}
use Rattle.hgs_script.specs.declared.job.Job.{Job}
use Rattle.hgs_script.specs.declared.job.Job.TheVariants.{Change}
use Rattle.hgs_session.specs.Calls.{Beginning, Call, IsCall, Stage, job_among, job_in, name_of, published_by, published_of, unsure_of, unsure_with}
use Rattle.hgs_stands.specs.Open.{IsOpen}
use Rattle.hgs_stands.specs.Stands.{Stands}
use Rattle.hgs_writer.specs.Turns.{IsAtRest, LeadsAs, LeadsOn}
use Rattle.hgs_model.specs.Step.{step}
use Rattle.hgs_answers.specs.declared.outcome.Outcome.{Outcome}
use Rattle.hgs_answers.specs.declared.outcome.Outcome.TheVariants.{Abandoned, LockHeld}
use Rattle.hgs_writer.specs.Made.{HasNoLocks}
use Rattle.hgs_writer.specs.Alone.{IsAnswered, IsBarred, IsOutcomeOf, ReadsWithin}
use Rattle.hgs_writer.specs.Limits.{LoadsWithin}
use Rattle.hgs_writer.specs.Written.{IsWritten, IsWrittenFor}
use Rattle.hgs_answers.specs.declared.answer.Answer.{Answer}
use Rattle.hgs_index.specs.declared.node.Node.{Node}
use Rattle.hgs_history.specs.History.{IsBehind, IsMadeAt, IsRefusedBy, is_done, is_last_done, stage_behind}
use Rattle.hgs_history.proofs.Refused.{as-written, barred-by, refused-by}
use Rattle.hgs_history.proofs.Joined.{begins, behind-join, join}
use Rattle.hgs_history.proofs.Published.{Adds, AreTurns, adds, adds-barred, entries_with, never, published, unsure_after}

-- what the crates below say of runs and calls
pub record Below : Type 0 where
  pub files : (t : Tree) (r : Repo) (log : List Op) (s : State) → IsRun t r log s → s.files ≡ after_all log t
  pub stands : (t : Tree) (r : Repo) (log : List Op) (s : State) → Stands t r → IsRun t r log s → IsAtRest None s → Stands s.files (current s)
  pub journal : (t : Tree) (r : Repo) (log : List Op) (s : State) (left : List Op) → Stands t r → IsRun t r log s → IsAtRest (Some left) s → s.files journal_path ≡ None → ⊥
  pub keeps : (t : Tree) (r next : Repo) (log : List Op) (s : State) → Stands t r → ListsPaths t r → IsRun t r log s → Stands (after_all log t) next ⊎ IsOpen strays (after_all log t) next → ListsPaths (after_all log t) next
  pub leads : (s : State) (command : Command) (who : List ℕ) (answer : Answer) (changeset : Option (ℕ × Node)) (done : List Op) → IsAtRest None s → Stands s.files (current s) → IsValid command → ListsPaths s.files (current s) → IsWrittenFor who command s.files answer changeset done
      → LeadsAs s done (record { who = who; command = command; changeset = changeset }) answer.outcome
  pub answered : (t : Tree) (r : Repo) (command : Command) (who : List ℕ) (answer : Answer) (done : List Op) → Stands t r → IsValid command → ListsPaths t r → IsWritten who command t answer done → IsAnswered r (step r command) answer.outcome (after_all done t)
  pub comes : (t : Tree) (r : Repo) (command : Command) (who : List ℕ) (answer : Answer) (done : List Op) → Stands t r → LoadsWithin t r → ReadsWithin t r command → IsWritten who command t answer done → IsOutcomeOf t r command (step r command) answer.outcome
  pub held : (t : Tree) (command : Command) (who : List ℕ) (answer : Answer) (done : List Op) (holder : Option (List ℕ)) → HasNoLocks t → IsWritten who command t answer done → answer.outcome ≡ LockHeld holder → ⊥
  pub barred : (s : State) (left : Option (List Op)) (command : Command) (who : List ℕ) (answer : Answer) (changeset : Option (ℕ × Node)) (done : List Op) → IsAtRest left s → (s.files journal_path ≡ None → ⊥) → IsWrittenFor who command s.files answer changeset done → IsBarred answer.outcome × LeadsOn s done [] left

-- ---- the commands of jobs

each-at : {X : Type 0} (P : X → Type 0) (xs : List X) (i : ℕ) (x : X) → AllByRecursion P xs → slice_get xs i ≡ Some x → P x
each-at P [] i x all e = absurd (nowhere e)
  where
    nowhere : {Y : Type 0} {y : Y} → ◌≡◌ {A = Option Y} None (Some y) → ⊥
    nowhere e = cc
each-at P (y ∷ xs) zero x all e = subst P (same e) all.0
  where
    same : {Y : Type 0} {y z : Y} → ◌≡◌ {A = Option Y} (Some y) (Some z) → y ≡ z
    same e = cc
each-at P (y ∷ xs) (suc i) x all e = each-at P xs i x all.1 e

pub job-valid : (jobs : List (List Job)) (worker job : ℕ) (command : Command) → AllByRecursion IsShare jobs → job_in jobs worker job ≡ Some (Change command) → IsValid command
job-valid jobs worker job command shares e = by (slice_get jobs worker) refl e
  where
    by : (mine : Option (List Job)) → slice_get jobs worker ≡ mine → job_among mine job ≡ Some (Change command) → IsValid command
    by None is e = absurd (nowhere e)
      where
        nowhere : {Y : Type 0} {y : Y} → ◌≡◌ {A = Option Y} None (Some y) → ⊥
        nowhere e = cc
    by (Some mine) is e = (each-at CanBeDone mine job (Change command) (each-at IsShare jobs worker mine shares is).each e).0

-- ---- what the session's lists say of one call more

more-published : (before : List Call) (c : Call) → published_of (before ++ c ∷ []) ≡ published_of before ++ published_by c
more-published before c = flat_map-append published_by before (c ∷ []) ∙ ap (λ l. published_of before ++ l) (append-nil (published_by c))

more-unsure : (before : List Call) (c : Call) → unsure_of (before ++ c ∷ []) ≡ unsure_with (unsure_of before) c
more-unsure before c = fold-append unsure_with None before (c ∷ [])

more-done : (before : List Call) (c : Call) → is_last_done (before ++ c ∷ []) ≡ is_done c.answer.outcome
more-done before c = fold-append (λ (was : Bool) (d : Call). is_done d.answer.outcome) false before (c ∷ [])

module _ (b : Below) (x : Beginning) (r : Repo) (stands : Stands x.start r) (lists : ListsPaths x.start r) (shares : AllByRecursion IsShare x.jobs) where
  -- where a session has come to behind these calls
  pub record Stood (before : List Call) (stage : Stage) (log : List Op) (s : State) : Type 0 where
    pub told : stage.log ≡ Some log
    pub run : IsRun x.start r log s
    pub left : Option (List Op)
    pub at_rest : IsAtRest left s
    pub are : AreTurns x.jobs (published_of before) (unsure_of before) left s.published
    pub rested : is_last_done before ≡ true → left ≡ None

  -- one call
  pub record Went (before : List Call) (stage : Stage) (log : List Op) (s : State) : Type 0 where
    pub state : State
    pub more : List Op
    pub goes : Run s more state
    pub stood : Stood before stage (log ++ more) state

  entered : (before : List Call) (c : Call) (left : Option (List Op)) (turns all : List Turn) → all ≡ turns → AreTurns x.jobs (entries_with (published_of before) c.worker c.job c.answer.outcome c.changeset) (unsure_after (unsure_of before) c.worker c.job c.answer.outcome) left turns
      → AreTurns x.jobs (published_of (before ++ c ∷ [])) (unsure_of (before ++ c ∷ [])) left all
  entered before c left turns all e are =
      subst (λ l. AreTurns x.jobs l (unsure_of (before ++ c ∷ [])) left all) (sym (more-published before c))
      (subst (λ u. AreTurns x.jobs (published_of before ++ published_by c) u left all) (sym (more-unsure before c))
      (subst (λ l. AreTurns x.jobs (published_of before ++ published_by c) (unsure_with (unsure_of before) c) left l) (sym e) are))

  -- the list of filelogs of a state whose files stand
  lists-at : (log : List Op) (s : State) → IsRun x.start r log s → Stands s.files (current s) → ListsPaths s.files (current s)
  lists-at log s run here =
      let files = b.files x.start r log s run in
      subst (λ (t : Tree). ListsPaths t (current s)) (sym files) (b.keeps x.start r (current s) log s stands lists run (inl (subst (λ (t : Tree). Stands t (current s)) files here)))

  -- what a call adds at a state at rest
  adds-to : (before : List Call) (c : Call) (log more : List Op) (s : State) (command : Command) → job_in x.jobs c.worker c.job ≡ Some (Change command) → IsRun x.start r log s
      → IsWrittenFor (name_of c.worker c.job) command s.files c.answer c.changeset more
      → (left : Option (List Op)) → IsAtRest left s → AreTurns x.jobs (published_of before) (unsure_of before) left s.published
      → Adds x.jobs (entries_with (published_of before) c.worker c.job c.answer.outcome c.changeset) (unsure_after (unsure_of before) c.worker c.job c.answer.outcome) (is_done c.answer.outcome) s more
  adds-to before c log more s command is_job run written None rested are =
      let here = b.stands x.start r log s stands run rested in
      adds x.jobs (published_of before) (unsure_of before) s more c.worker c.job command c.changeset is_job c.answer.outcome are
      (b.leads s command (name_of c.worker c.job) c.answer c.changeset more rested here (job-valid x.jobs c.worker c.job command shares is_job) (lists-at log s run here) written)
  adds-to before c log more s command is_job run written (Some left) rested are =
      let stopped = b.barred s (Some left) command (name_of c.worker c.job) c.answer c.changeset more rested (b.journal x.start r log s left stands run rested) written in
      adds-barred x.jobs (published_of before) (unsure_of before) s more c.worker c.job command c.changeset is_job c.answer.outcome left are stopped.0 stopped.1

  -- a call, at the files of the state where it is made
  pub record Made (c : Call) (log : List Op) (new : Stage) (s : State) : Type 0 where
    pub command : Command
    pub job : job_in x.jobs c.worker c.job ≡ Some (Change command)
    pub more : List Op
    pub told : new.log ≡ Some (log ++ more)
    pub written : IsWrittenFor (name_of c.worker c.job) command s.files c.answer c.changeset more

  made-at : (before : List Call) (old new : Stage) (c : Call) (log : List Op) (s : State) → IsCall x old c new → Stood before old log s → Made c log new s
  made-at before old new c log s is stood =
      let who = name_of c.worker c.job in
      let on = subst (λ (o : Option (List Op)). GoesOn o new.log (IsWrittenFor who is.command (tree_now o x.start) c.answer c.changeset)) stood.told is.log in
      record {
        command = is.command;
        job = is.job;
        more = on.0;
        told = on.1;
        written = subst (λ (t : Tree). IsWrittenFor who is.command t c.answer c.changeset on.0) (sym (b.files x.start r log s stood.run)) on.2;
      }

  call-goes : (before : List Call) (old new : Stage) (c : Call) (log : List Op) (s : State) → Made c log new s → Stood before old log s → Went (before ++ c ∷ []) new log s
  call-goes before old new c log s made stood =
      let added = adds-to before c log made.more s made.command made.job stood.run made.written stood.left stood.at_rest stood.are in
      let state = added.leads.state in
      record {
        state = state;
        more = made.more;
        goes = added.leads.run;
        stood = record {
          told = made.told;
          run = join (start_of x.start r) s state log made.more stood.run added.leads.run;
          left = added.left;
          at_rest = added.leads.at_rest;
          are = entered before c added.left (s.published ++ added.turns) state.published added.leads.published added.are;
          rested = λ e. added.rested (sym (more-done before c) ∙ e);
        };
      }

  -- what is told of the call
  module _ (before : List Call) (old new : Stage) (c : Call) (log : List Op) (s : State) (made : Made c log new s) (stood : Stood before old log s) where
    written : IsWritten (name_of c.worker c.job) made.command s.files c.answer made.more
    written = as-written (name_of c.worker c.job) made.command s.files c.answer c.changeset made.more made.written

    here : IsAtRest None s → Stands s.files (current s)
    here rested = b.stands x.start r log s stands stood.run rested

    journal : (left : List Op) → IsAtRest (Some left) s → s.files journal_path ≡ None → ⊥
    journal left rested = b.journal x.start r log s left stands stood.run rested

    stopped : (left : List Op) → IsAtRest (Some left) s → IsBarred c.answer.outcome
    stopped left rested = (b.barred s (Some left) made.command (name_of c.worker c.job) c.answer c.changeset made.more rested (journal left rested) made.written).0

    refusal-at : (left : Option (List Op)) → IsAtRest left s → IsRefusedBy (step (current s) made.command) c.answer.outcome
    refusal-at None rested =
        refused-by (current s) (step (current s) made.command) c.answer.outcome (after_all made.more s.files)
        (b.answered s.files (current s) made.command (name_of c.worker c.job) c.answer made.more (here rested) (job-valid x.jobs c.worker c.job made.command shares made.job) (lists-at log s stood.run (here rested)) written)
    refusal-at (Some left) rested = barred-by (step (current s) made.command) c.answer.outcome (stopped left rested)

    outcome-at : (left : Option (List Op)) → IsAtRest left s → LoadsWithin s.files (current s) → ReadsWithin s.files (current s) made.command
        → IsOutcomeOf s.files (current s) made.command (step (current s) made.command) c.answer.outcome ⊎ ((s.files journal_path ≡ None → ⊥) × IsBarred c.answer.outcome)
    outcome-at None rested loads reads = inl (b.comes s.files (current s) made.command (name_of c.worker c.job) c.answer made.more (here rested) loads reads written)
    outcome-at (Some left) rested loads reads = inr (journal left rested, stopped left rested)

    abandoned-at : (left : Option (List Op)) → IsAtRest left s → c.answer.outcome ≡ Abandoned → s.files journal_path ≡ None → ⊥
    abandoned-at None rested is none =
        subst (λ (o : Outcome). IsAnswered (current s) (step (current s) made.command) o (after_all made.more s.files)) is
        (b.answered s.files (current s) made.command (name_of c.worker c.job) c.answer made.more (here rested) (job-valid x.jobs c.worker c.job made.command shares made.job) (lists-at log s stood.run (here rested)) written)
    abandoned-at (Some left) rested is none = journal left rested none

    call-at : IsMadeAt x.jobs c s
    call-at = record {
      command = made.command;
      job = made.job;
      done = made.more;
      does = made.written;
      refusal = refusal-at stood.left stood.at_rest;
      outcome = outcome-at stood.left stood.at_rest;
      held = λ holder is none. b.held s.files made.command (name_of c.worker c.job) c.answer made.more holder none written is;
      abandoned = abandoned-at stood.left stood.at_rest;
    }

  -- ---- all calls

  stood-same : (before before' : List Call) (stage : Stage) (log log' : List Op) (s s' : State) → before ≡ before' → log ≡ log' → s ≡ s' → Stood before stage log s → Stood before' stage log' s'
  stood-same before before' stage log log' s s' e f g h = subst (λ u. Stood u stage log' s') e (subst (λ l. Stood before stage l s') f (subst (λ q. Stood before stage log q) g h))

  -- behind a front of the calls
  pub record Front (before front : List Call) (stage : Stage) (log : List Op) (s : State) (more : List Op) (state : State) (goes : Run s more state) : Type 0 where
    pub done : List Op
    pub rest : List Op
    pub whole : more ≡ done ++ rest
    pub stood : Stood (before ++ front) stage (log ++ done) (state_behind s more state goes done)

  pub record Came (before : List Call) (old : Stage) (calls : List Call) (last : Stage) (makes : FoldsTo (IsCall x) old calls last) (log : List Op) (s : State) : Type 0 where
    pub state : State
    pub more : List Op
    pub goes : Run s more state
    pub stood : Stood (before ++ calls) last (log ++ more) state
    pub fronts : (front back : List Call) → calls ≡ front ++ back → Front before front (stage_behind x old calls last makes front) log s more state goes

  no-call : (d : Call) (l : List Call) → ◌≡◌ {A = List Call} [] (d ∷ l) → ⊥
  no-call d l e = cc

  same-call : (c d : Call) (k l : List Call) → c ∷ k ≡ d ∷ l → c ≡ d
  same-call c d k l e = cc

  same-calls : (c d : Call) (k l : List Call) → c ∷ k ≡ d ∷ l → k ≡ l
  same-calls c d k l e = cc

  module _ (before : List Call) (old : Stage) (c : Call) (calls : List Call) (last : Stage) (makes : FoldsTo (IsCall x) old (c ∷ calls) last) (log : List Op) (s : State) (stood : Stood before old log s)
      (went : Went (before ++ c ∷ []) makes.0 log s) (rest : Came (before ++ c ∷ []) makes.0 calls last makes.2 (log ++ went.more) went.state) where
    front-of : (front back : List Call) → c ∷ calls ≡ front ++ back
        → Front before front (stage_behind x old (c ∷ calls) last makes front) log s (went.more ++ rest.more) rest.state (join s went.state rest.state went.more rest.more went.goes rest.goes)
    front-of [] back e = record {
      done = [];
      rest = went.more ++ rest.more;
      whole = refl;
      stood = stood-same before (before ++ []) old log (log ++ []) s _ (sym (append-nil before)) (sym (append-nil log)) (sym (begins s (went.more ++ rest.more) rest.state (join s went.state rest.state went.more rest.more went.goes rest.goes))) stood;
    }
    front-of (d ∷ front) back e =
        let f = rest.fronts front back (same-calls c d calls (front ++ back) e) in
        record {
          done = went.more ++ f.done;
          rest = f.rest;
          whole = ap (λ l. went.more ++ l) f.whole ∙ sym (append_assoc went.more f.done f.rest);
          stood = stood-same ((before ++ c ∷ []) ++ front) (before ++ d ∷ front) _ ((log ++ went.more) ++ f.done) (log ++ (went.more ++ f.done)) _ _
              (append_assoc before (c ∷ []) front ∙ ap (λ k. before ++ k ∷ front) (same-call c d calls (front ++ back) e)) (append_assoc log went.more f.done)
              (sym (behind-join s went.state rest.state went.more rest.more f.done went.goes rest.goes)) f.stood;
        }

    came-more : Came before old (c ∷ calls) last makes log s
    came-more = record {
      state = rest.state;
      more = went.more ++ rest.more;
      goes = join s went.state rest.state went.more rest.more went.goes rest.goes;
      stood = stood-same ((before ++ c ∷ []) ++ calls) (before ++ c ∷ calls) last ((log ++ went.more) ++ rest.more) (log ++ (went.more ++ rest.more)) rest.state rest.state (append_assoc before (c ∷ []) calls) (append_assoc log went.more rest.more) refl rest.stood;
      fronts = front-of;
    }

  none-of : (before : List Call) (old : Stage) (last : Stage) (makes : FoldsTo (IsCall x) old [] last) (log : List Op) (s : State) → Stood before old log s
      → (front back : List Call) → ◌≡◌ {A = List Call} [] (front ++ back) → Front before front (stage_behind x old [] last makes front) log s [] s refl
  none-of before old last makes log s stood [] back e = record { done = []; rest = []; whole = refl; stood = stood-same before (before ++ []) old log (log ++ []) s s (sym (append-nil before)) (sym (append-nil log)) refl stood }
  none-of before old last makes log s stood (d ∷ front) back e = absurd (no-call d (front ++ back) e)

  pub come : (before : List Call) (old : Stage) (calls : List Call) (last : Stage) (makes : FoldsTo (IsCall x) old calls last) (log : List Op) (s : State) → Stood before old log s → Came before old calls last makes log s
  come before old [] last makes log s stood = record {
    state = s;
    more = [];
    goes = refl;
    stood = subst (λ k. Stood (before ++ []) k (log ++ []) s) makes (stood-same before (before ++ []) old log (log ++ []) s s (sym (append-nil before)) (sym (append-nil log)) refl stood);
    fronts = none-of before old last makes log s stood;
  }
  come before old (c ∷ calls) last makes log s stood =
      let went = call-goes before old makes.0 c log s (made-at before old makes.0 c log s makes.1 stood) stood in
      came-more before old c calls last makes log s stood went
      (come (before ++ c ∷ []) makes.0 calls last makes.2 (log ++ went.more) went.state went.stood)

  -- a session that has made no call
  pub at-first : x.first.log ≡ Some [] → Stood [] x.first [] (start_of x.start r)
  at-first e = record { told = e; run = refl; left = None; at_rest = ([], stays); are = refl; rested = λ e. never e }

  -- what is told of where a session stands
  pub behind : (one : (s : State) → IsAtRest None s → (b_of s ≡ n_of s) × (w_of s ≡ n_of s) × (acknowledged_of s ≡ n_of s)) (calls : List Call) (stage : Stage) (log : List Op) (s : State) → Stood calls stage log s → IsBehind x.jobs calls s
  behind one calls stage log s stood = record {
    published = published x.jobs (published_of calls) (unsure_of calls) stood.left s.published stood.are;
    marked = λ e. (one s (even e)).0;
    worked = λ e. (one s (even e)).1;
    acknowledged = λ e. (one s (even e)).2;
  }
    where
      even : is_last_done calls ≡ true → IsAtRest None s
      even e = subst (λ (l : Option (List Op)). IsAtRest l s) (stood.rested e) stood.at_rest

  -- the call behind a front
  next-call : (old : Stage) (calls : List Call) (last : Stage) (makes : FoldsTo (IsCall x) old calls last) (front back : List Call) (c : Call) → calls ≡ front ++ c ∷ back → (new : Stage) × IsCall x (stage_behind x old calls last makes front) c new
  next-call old [] last makes [] back c e = absurd (no-call c back e)
  next-call old [] last makes (g ∷ front) back c e = absurd (no-call g (front ++ c ∷ back) e)
  next-call old (d ∷ calls) last makes [] back c e = (makes.0, subst (λ k. IsCall x old k makes.0) (same-call d c calls back e) makes.1)
  next-call old (d ∷ calls) last makes (g ∷ front) back c e = next-call makes.0 calls last makes.2 front back c (same-calls d g calls (front ++ c ∷ back) e)

  pub next-at : (calls : List Call) (last : Stage) (makes : FoldsTo (IsCall x) x.first calls last) (front back : List Call) (c : Call) (log : List Op) (s : State) → calls ≡ front ++ c ∷ back
      → Stood front (stage_behind x x.first calls last makes front) log s → IsMadeAt x.jobs c s
  next-at calls last makes front back c log s e stood =
      let stage = stage_behind x x.first calls last makes front in
      let next = next-call x.first calls last makes front back c e in
      call-at front stage next.0 c log s (made-at front stage next.0 c log s next.1 stood) stood
