-- One call more.
use Rattle.std.proofs.Common.{◌≡◌, ◌≢◌, ◌==◌, ◌≤◌, ◌<◌, ◌+◌, ℕ, suc, Bool, true, false, List, [], ◌∷◌, ◌++◌, Option, Some, None, refl, ap, sym, ◌∙◌, subst, arith, true≢false, length, get_or, set}
use Rattle.std.specs.Prelude.{is_some, min}
use Rattle.std.proofs.lemmas.Grind.{flat_map-append}
use Rattle.std.specs.List.{AllByRecursion}
use Rattle.std.proofs.lemmas.Bool.Decides.{nat_tests}
use Rattle.std.proofs.lemmas.List.{append-nil, get_or-set_other, get_or-set_same}
use Rattle.std.proofs.lemmas.Option.{unwrap_or-slice_get}
use Rattle.std.proofs.lemmas.List.Sums.{fold-append}
use Rattle.hgs_legal.specs.Theorems.Runs.{run-join}
use Rattle.hgs_answers.specs.declared.answer.Answer.{Answer}
use Rattle.hgs_files.specs.declared.op.Op.{Op}
use Rattle.hgs_files.specs.Files.{GoesOn}
use Rattle.hgs_files.specs.Reads.{Rose, greatest}
use Rattle.hgs_files.specs.Tree.{after_all}
use Rattle.hgs_index.specs.declared.node.Node.{Node}
use Rattle.hgs_machine.specs.Carry.{tree_now}
use Rattle.hgs_model.specs.declared.command.Command.{Command}
use Rattle.hgs_script.specs.declared.job.Job.TheVariants.{Change}
use Rattle.hgs_machine.specs.Refusals.{WereRefused}
use Rattle.hgs_writer.specs.Refusals.{refusals_of, refusals_with}
use Rattle.hgs_writer.specs.Written.{IsWrittenFor}
use Rattle.hgs_script.specs.declared.result.PublishedJob.{PublishedJob}
use Rattle.hgs_session.specs.Calls.{AreInOrder, Beginning, Call, IsBefore, IsCall, IsLedTo, Makes, Stage, job_in, name_of, published_by, published_of, unsure_of, unsure_with}
use Rattle.hgs_session.specs.Desk.{AreClosed, IsOpen, StandsAt, next_of}

pub makes_more : (x : Beginning) (calls : List Call) (c : Call) (now next : Stage) → Makes x calls now → IsCall x now c next → Makes x (calls ++ c ∷ []) next
makes_more x calls c now next m h = run-join (IsCall x) x.first calls (c ∷ []) now next m (next, h, refl)

published_more : (calls : List Call) (c : Call) → published_of (calls ++ c ∷ []) ≡ published_of calls ++ published_by c
published_more calls c = flat_map-append published_by calls (c ∷ []) ∙ ap (λ l. published_of calls ++ l) (append-nil (published_by c))

unsure_more : (calls : List Call) (c : Call) → unsure_of (calls ++ c ∷ []) ≡ unsure_with (unsure_of calls) c
unsure_more calls c = fold-append unsure_with None calls (c ∷ [])

stage_of : Option (List Op) → ℕ → ℕ → Stage
stage_of log faults denied = record { log = log; faults = faults; denied = denied }

-- a stage is its log and its counts
pub stage_same : (a b : Stage) → a.log ≡ b.log → a.faults ≡ b.faults → a.denied ≡ b.denied → a ≡ b
unfolding stage_of
stage_same a b log faults denied = ap (λ z. stage_of z a.faults a.denied) log ∙ (ap (λ z. stage_of b.log z a.denied) faults ∙ ap (λ z. stage_of b.log b.faults z) denied)

-- ---- their order

before_more : (c d : Call) (calls : List Call) → IsBefore c calls → (d.worker ≡ c.worker → c.job < d.job) → IsBefore c (calls ++ d ∷ [])
before_more c d [] h one = (one, tt)
before_more c d (e ∷ calls) h one = (h.0, before_more c d calls h.1 one)

order_more : (calls : List Call) (d : Call) → AreInOrder calls → AllByRecursion (λ c. d.worker ≡ c.worker → c.job < d.job) calls → AreInOrder (calls ++ d ∷ [])
order_more [] d o all = (tt, tt)
order_more (c ∷ calls) d o all = (before_more c d calls o.0 all.0, order_more calls d o.1 all.1)

-- what is closed comes before what is open
all_before : (next : List ℕ) (worker job : ℕ) (calls : List Call) → IsOpen next worker job → AreClosed next calls → AllByRecursion (λ c. worker ≡ c.worker → c.job < job) calls
all_before next worker job [] may closed = tt
all_before next worker job (c ∷ calls) may closed =
    (λ same. let at : next_of next c.worker ≤ job = subst (λ w. next_of next w ≤ job) same may.1 in omega (arith, closed.0, at), all_before next worker job calls may closed.1)

next_is : (next : List ℕ) (worker : ℕ) → next_of next worker ≡ get_or next worker 0
next_is next worker = unwrap_or-slice_get next worker 0

-- the job is done, and closed as all before it
one_closed : (next : List ℕ) (worker job : ℕ) → worker < length next → job < next_of (set next worker (job + 1)) worker
one_closed next worker job within =
    let at : next_of (set next worker (job + 1)) worker ≡ job + 1 = next_is (set next worker (job + 1)) worker ∙ get_or-set_same next worker (job + 1) 0 within in
    omega (arith, at)

stays_closed : (next : List ℕ) (worker job : ℕ) (c : Call) → IsOpen next worker job → c.job < next_of next c.worker → (b : Bool) → (c.worker == worker) ≡ b → c.job < next_of (set next worker (job + 1)) c.worker
stays_closed next worker job c may closed true is =
    let same : c.worker ≡ worker = grind (arith, nat_tests) in
    let before : next_of next c.worker ≤ job = subst (λ w. next_of next w ≤ job) (sym same) may.1 in
    let done : job < next_of (set next worker (job + 1)) c.worker = subst (λ w. job < next_of (set next worker (job + 1)) w) (sym same) (one_closed next worker job may.0) in
    omega (arith, closed, before, done)
stays_closed next worker job c may closed false is =
    let other : c.worker ≢ worker = grind (arith, nat_tests) in
    let at : next_of (set next worker (job + 1)) c.worker ≡ next_of next c.worker = next_is (set next worker (job + 1)) c.worker ∙ get_or-set_other next worker c.worker (job + 1) 0 other ∙ sym (next_is next c.worker) in
    omega (arith, closed, at)

closed_more : (next : List ℕ) (calls : List Call) (d : Call) → IsOpen next d.worker d.job → AreClosed next calls → AreClosed (set next d.worker (d.job + 1)) (calls ++ d ∷ [])
closed_more next [] d may closed = (one_closed next d.worker d.job may.0, tt)
closed_more next (c ∷ calls) d may closed = (stays_closed next d.worker d.job c may closed.0 (c.worker == d.worker) refl, closed_more next calls d may closed.1)

-- nothing was made yet
pub begins_at : (x : Beginning) (now : Stage) (history : List Call) (published : List PublishedJob) (next : List ℕ) → now.log ≡ x.first.log → now.faults ≡ x.first.faults → now.denied ≡ x.first.denied → history ≡ [] → published ≡ [] → StandsAt x now history published None false next
begins_at x now history published next log faults denied none nothing = record {
  made = record {
    calls = [];
    makes = sym (stage_same now x.first log faults denied);
    order = tt;
    history_is = λ e. sym none;
    published_is = λ e. nothing;
    unsure_is = λ e. refl;
  };
  closed = tt;
}

-- what was made, and a call that is not noted yet
pub made_more : (x : Beginning) (now then : Stage) (history : List Call) (published : List PublishedJob) (unsure : Option (ℕ × ℕ)) (c : Call) (next : List ℕ)
    → StandsAt x now history published unsure false next → IsOpen next c.worker c.job → IsCall x now c then → StandsAt x then (history ++ c ∷ []) (published ++ published_by c) (unsure_with unsure c) false (set next c.worker (c.job + 1))
made_more x now then history published unsure c next s may h =
    let m = s.made in
    record {
      made = record {
        calls = m.calls ++ c ∷ [];
        makes = makes_more x m.calls c now then m.makes h;
        order = order_more m.calls c m.order (all_before next c.worker c.job m.calls may s.closed);
        history_is = λ e. ap (λ l. l ++ c ∷ []) (m.history_is refl);
        published_is = λ e. ap (λ l. l ++ published_by c) (m.published_is refl) ∙ sym (published_more m.calls c);
        unsure_is = λ e. ap (λ u. unsure_with u c) (m.unsure_is refl) ∙ sym (unsure_more m.calls c);
      };
      closed = closed_more next m.calls c may s.closed;
    }

-- a broken desk lists what it will
pub made_broken : (x : Beginning) (now : Stage) (history history' : List Call) (published published' : List PublishedJob) (unsure unsure' : Option (ℕ × ℕ)) (b : Bool) (next : List ℕ)
    → StandsAt x now history published unsure b next → StandsAt x now history' published' unsure' true next
made_broken x now history history' published published' unsure unsure' b next s = record {
  made = record {
    calls = s.made.calls;
    makes = s.made.makes;
    order = s.made.order;
    history_is = λ e. absurd (true≢false e);
    published_is = λ e. absurd (true≢false e);
    unsure_is = λ e. absurd (true≢false e);
  };
  closed = s.closed;
}

-- ---- what the files are asked to take

below : (f n k g : ℕ) → min (f + n) g ≤ f + suc (n + k)
below f n k g = omega arith

at_rest : (d g : ℕ) → min (d + 0) g ≤ d
at_rest d g = omega arith

refused : (f d n k : ℕ) → WereRefused n f (f + suc (n + k)) d d
refused f d n k = record { failed = n; wanting = 0; all = let h : n ≤ n + 0 = omega arith in h; faults = below f n k greatest; denied = at_rest d greatest }

-- a call that ended so leads on from what was made
pub led_more : (x : Beginning) (now : Stage) (history : List Call) (published : List PublishedJob) (unsure : Option (ℕ × ℕ)) (b : Bool) (next : List ℕ) (worker job : ℕ) (command : Command) (answer : Answer) (changeset : Option (ℕ × Node)) (l done : List Op)
    → StandsAt x now history published unsure b next → IsOpen next worker job → job_in x.jobs worker job ≡ Some (Change command) → now.log ≡ Some l → IsWrittenFor (name_of worker job) command (after_all l x.start) answer changeset done → IsLedTo x (l ++ done)
led_more x now history published unsure b next worker job command answer changeset l done s may is told written =
    let m = s.made in
    let n = refusals_of (is_some now.log) answer in
    let t = after_all l x.start in
    let k = refusals_with true answer.outcome changeset t done in
    let call : Call = record { worker = worker; job = job; answer = answer; changeset = changeset; log = Some (l ++ done) } in
    let then : Stage = record { log = Some (l ++ done); faults = now.faults + suc (n + k); denied = now.denied } in
    let P : Option (List Op) → Type 0 = λ o. GoesOn o then.log (IsWrittenFor (name_of worker job) command (tree_now o x.start) answer changeset) in
    let R : Option (List Op) → Type 0 = λ o. GoesOn o then.log (λ more. WereRefused (refusals_with (is_some o) answer.outcome changeset (tree_now o x.start) more) now.faults then.faults now.denied then.denied) in
    let is_call : IsCall x now call then = record {
      command = command;
      job = is;
      log = subst P (sym told) (done, refl, written);
      behind = refl;
      fault = λ e. rose now.faults (n + k);
      refused = refused now.faults now.denied n k;
      left = subst R (sym told) (done, refl, let h : n + k ≡ k + n = omega arith in subst (λ m. WereRefused k now.faults (now.faults + suc m) now.denied now.denied) (sym h) (refused now.faults now.denied k n));
      faults = let h : now.faults ≤ now.faults + suc (n + k) = omega arith in h;
      denied = let h : now.denied ≤ now.denied = omega arith in h;
    } in
    record {
      calls = m.calls ++ call ∷ [];
      last = then;
      makes = makes_more x m.calls call now then m.makes is_call;
      order = order_more m.calls call m.order (all_before next worker job m.calls may s.closed);
      told = refl;
    }
  where
    rose : (f n : ℕ) → Rose f (f + suc n)
    rose f n = one f n greatest
      where
        one : (f n g : ℕ) → min (f + 1) g ≤ f + suc n
        one f n g = omega arith
