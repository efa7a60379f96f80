-- Each event keeps what the commands say of the files.
use Rattle.std.proofs.Common.{◌≡◌, ◌⊎◌, ℕ, List, [], ◌∷◌, ◌++◌, length, true, false, refl, sym, ◌∙◌, ap, subst, inl, inr}
use Rattle.std.specs.Prelude.{Option, Some, None, codes, unwrap_or}
use Rattle.std.specs.List.{AllByRecursion}
use Rattle.hgs_answers.specs.declared.answer.Answer.{Answer}
use Rattle.hgs_files.specs.declared.op.Op.{Op}
use Rattle.hgs_files.specs.Stop.{IsStopped}
use Rattle.hgs_files.specs.Tree.{Tree, after_all, bytes_at}
use Rattle.hgs_journal.specs.Names.{journal_path}
use Rattle.hgs_legal.specs.ListsPaths.{ListsPaths}
use Rattle.hgs_legal.specs.Pieces.{Piece}
use Rattle.hgs_machine.specs.Asked.{Doing, Ending, Question, Sizing, asked}
use Rattle.hgs_machine.specs.Fed.{is_acknowledged, is_published}
use Rattle.hgs_machine.specs.Locks.{AreLocked, IsTurnedAway}
use Rattle.hgs_machine.specs.Planned.{IsPlanned}
use Rattle.hgs_model.specs.Repo.{Repo, empty_repo}
use Rattle.hgs_model.specs.Valid.{IsValid}
use Rattle.hgs_model.specs.declared.command.Command.{Command}
use Rattle.hgs_ops.specs.Operations.{strays}
use Rattle.hgs_recover.specs.Found.{answer_in}
use Rattle.hgs_recover.specs.Recovering.{RecoversBy}
use Rattle.hgs_recover.specs.declared.answer.RecoverAnswer.{RecoverAnswer}
use Rattle.hgs_recover.specs.declared.answer.RecoverAnswer.TheVariants.{NothingToDo, Restored}
use Rattle.hgs_schedule.specs.Schedule.{CanCome}
use Rattle.hgs_schedule.specs.declared.event.Event.{Event}
use Rattle.hgs_schedule.specs.declared.event.Event.TheVariants.{Begin, Write, Fail, UntilPublish, UntilClean, Finish, Open, Read, Load, Log, Cat, Phase, Bookmarks, Stop, Recover}
use Rattle.hgs_stands.specs.Open.{IsOpen}
use Rattle.hgs_stands.specs.Places.{fncache_path}
use Rattle.hgs_stands.specs.Stands.{Stands}
use Rattle.hgs_writer.specs.Begun.{Begins, IsRefused, has_no_locks, has_no_plan}
use Rattle.hgs_writer.specs.declared.plan.Planned.{Planned}
use Rattle.hgs_writer.specs.declared.begin.Begun.{Begun}
use Rattle.hgs_writer.specs.declared.begin.Begun.TheVariants.{Ready, Refused}
use Rattle.hgs_world.specs.Book.{Commands, ended_in, no_commands, noted, with_pending}
use Rattle.hgs_world.specs.Below.{Laws}
use Rattle.hgs_world.specs.Moments.{HasCome}
use Rattle.hgs_world.specs.Follows.{AtRest, AtWork, Follows, Keeps, KeepsAt, all_acknowledged, has_published, is_open, stands}
use Rattle.hgs_world.specs.Plays.{Plays}
use Rattle.hgs_world.specs.Start.{new_requires, new_tree}
use Rattle.hgs_world.specs.Working.{Acts, HasBytes, IsAtNext, RunsTo, StopsWithin, at_machine, publishes_with, writer_left}
use Rattle.hgs_world.specs.World.{ActsAt, ActsIn, BeginsIn, HasBegun, IfRunning, IsFirst, LeavesWriter, OnlySays, RecoversAt, RecoversIn, RunsAt, RunsIn, Scene, StopsAt, StopsIn, book_at, book_left, book_recovered, new_writer, tree_of, who, Happens}
use Rattle.hgs_world.specs.declared.working.Deed.{Deed}
use Rattle.hgs_world.specs.declared.working.Deed.TheVariants.{All as WholeDeed, Part as PartDeed, Fail as FailDeed}
use Rattle.hgs_world.specs.declared.working.Goal.{Goal}
use Rattle.hgs_world.specs.declared.working.Goal.TheVariants.{Publishing, Cleaning, End}
use Rattle.hgs_world.specs.declared.working.Working.{Working}
use Rattle.hgs_world.proofs.KeepLemmas.{FollowsAt, Onward, acts_onward, book_of, follows_at_rest, notes_on, onward_then, rests, rests_stopped, runs_onward, sizes_acknowledge, sizes_onward, take_older, take_whole}
use Rattle.hgs_world.proofs.MomentLemmas.{answer_at, comes_by_act, comes_by_run, comes_by_sizes, comes_first, written_at_stop, written_so_far}
use Rattle.hgs_world.proofs.WorkLemmas.{after_append}

-- ---- the beginning of a world

new_stands : Laws → (t : Tree) → ((path : List ℕ) → t path ≡ new_tree path) → Stands t empty_repo
new_stands l t is =
    let none : (path : List ℕ) → new_tree path ≡ None → bytes_at t path ≡ [] = λ path e. ap (λ file. unwrap_or file []) (is path ∙ e) in
    l.first_stands t (record { text = new_requires; there = is _; known = refl; whole = refl })
    (none _ refl, (none _ refl, (none _ refl, (none _ refl, (none _ refl, (none _ refl, (none _ refl, (none _ refl, tt))))))))
    (is journal_path)

pub first_keeps : Laws → (readers : ℕ) (s : Scene) → IsFirst readers s → Keeps s
first_keeps l readers s first =
    let tree : tree_of s ≡ s.start = ap (λ log. after_all log s.start) first.log in
    let none : bytes_at s.start fncache_path ≡ [] = ap (λ file. unwrap_or file []) (first.start fncache_path) in
    let at : AtRest (tree_of s) no_commands = stands empty_repo [] refl (subst (λ (t : Tree). Stands t empty_repo) (sym tree) (new_stands l s.start first.start)) (subst (λ (t : Tree). ListsPaths t empty_repo) (sym tree) (l.no_list s.start empty_repo none)) in
    subst (λ w. KeepsAt (tree_of s) w s.book) (sym first.writer) (subst (AtRest (tree_of s)) (sym first.book) at)

-- a log that is stopped behind its last operation
stopped_whole : (log : List Op) → IsStopped log log
stopped_whole [] = refl
stopped_whole (op ∷ log) = inr (inr (log, stopped_whole log, refl))

-- ---- a writer that begins

refused_stands : Laws → (t : Tree) (r : Repo) (command : Command) (answer : Answer) (done : List Op) → Stands t r → IsRefused who command t answer done → Stands (after_all done t) r
refused_stands l t r command answer done s (has_no_locks why away e) = by (l.turned_away t r who why answer.swept done away)
  where
    by : (done ≡ []) ⊎ Piece t r done r → Stands (after_all done t) r
    by (inl none) = subst (λ log. Stands (after_all log t) r) (sym none) s
    by (inr piece) = l.piece_stands t r r done s piece
refused_stands l t r command answer done s (has_no_plan fault locking releasing locked plans removed e whole) =
    subst (λ log. Stands (after_all log t) r) (sym whole) (l.piece_stands t r r (locking ++ releasing) s (l.released t r who answer.swept locking releasing locked removed))

-- a writer that is refused keeps the list of filelogs
refused_lists : Laws → (t : Tree) (r : Repo) (command : Command) (answer : Answer) (done : List Op) → Stands t r → ListsPaths t r → IsRefused who command t answer done → ListsPaths (after_all done t) r
refused_lists l t r command answer done s lists (has_no_locks why away e) = by (l.turned_away t r who why answer.swept done away)
  where
    by : (done ≡ []) ⊎ Piece t r done r → ListsPaths (after_all done t) r
    by (inl none) = subst (λ log. ListsPaths (after_all log t) r) (sym none) lists
    by (inr piece) = l.piece_lists t r r done s lists piece
refused_lists l t r command answer done s lists (has_no_plan fault locking releasing locked plans removed e whole) =
    subst (λ log. ListsPaths (after_all log t) r) (sym whole) (l.piece_lists t r r (locking ++ releasing) s lists (l.released t r who answer.swept locking releasing locked removed))

not_locked : {A : Type 0} → Laws → (t : Tree) (r : Repo) (locking : List Op) → IsOpen strays t r → AreLocked who t locking → A
not_locked l t r locking o locked = let none = l.no_journal who t locking locked in let some = o.1.journal_stands in absurd (let no : ⊥ = cc in no)

refused_open : Laws → (t : Tree) (r : Repo) (command : Command) (answer : Answer) (done : List Op) → IsOpen strays t r → IsRefused who command t answer done → IsOpen strays (after_all done t) r
refused_open l t r command answer done o (has_no_locks why away e) = l.stays_open t r who why answer.swept done done o away (stopped_whole done)
refused_open l t r command answer done o (has_no_plan fault locking releasing locked plans removed e whole) = not_locked l t r locking o locked

-- and beside a journal
refused_same : Laws → (t : Tree) (r q : Repo) (command : Command) (answer : Answer) (done : List Op) → IsOpen strays t q → ListsPaths t r → IsRefused who command t answer done → ListsPaths (after_all done t) r
refused_same l t r q command answer done o lists (has_no_locks why away e) =
    l.same_list t (after_all done t) r (ap (λ file. unwrap_or file []) (l.turned_away_others t who why answer.swept done done fncache_path away (stopped_whole done) refl refl)) lists
refused_same l t r q command answer done o lists (has_no_plan fault locking releasing locked plans removed e whole) = not_locked l t q locking o locked

rests_refused : Laws → (t : Tree) (book : Commands) (command : Command) (answer : Answer) (done : List Op) → AtRest t book → IsRefused who command t answer done → AtRest (after_all done t) book
rests_refused l t _ command answer done (stands r older leads s lists) h = stands r older leads (refused_stands l t r command answer done s h) (refused_lists l t r command answer done s lists h)
rests_refused l t _ command answer done (is_open r older leads o lists) h = is_open r older leads (refused_open l t r command answer done o h) (refused_same l t r r command answer done o lists h)
rests_refused l t _ command answer done (has_published r older published next leads e o lists) h =
    has_published r older published next leads e (refused_open l t r command answer done o h) (refused_same l t r r command answer done o lists h)

sets_out : Laws → (t : Tree) (book : Commands) (command : Command) (done : List Op) (planned : Planned) → AtRest t book → IsValid command → Begins who command t (Ready planned) done → IsPlanned (after_all done t) planned.plan
    → AtWork (after_all done t) (new_writer planned) (with_pending command book)
sets_out l t _ command done planned (stands r older leads s lists) valid h can =
    record {
      command = command;
      first = t;
      r = r;
      older = older;
      done = done;
      leads = leads;
      stands = s;
      valid = valid;
      lists = lists;
      come = comes_first l.begins command t planned done h.0 h.1 can;
      now = refl;
      book_is = refl;
    }
sets_out l t _ command done planned (is_open r older leads o lists) valid h can = not_locked l t r done o h.0
sets_out l t _ command done planned (has_published r older published next leads e o lists) valid h can = not_locked l t r done o h.0

-- ---- a writer at work

at_end : Laws → (t : Tree) (w : Working) (book : Commands) → AtWork t w book → AtRest t (ended_in book)
at_end l t w book k =
    let written = written_so_far l.stop k.command k.first w k.done k.come in
    let is = l.answered k.first k.r k.command who (answer_at w) k.done k.stands k.valid k.lists written in
    let lists = l.lists k.first k.r k.command who (answer_at w) k.done k.stands k.valid k.lists written in
    subst (λ b. AtRest t (ended_in b)) (sym k.book_is) (subst (λ (u : Tree). AtRest u (ended_in (noted (is_published w.machine) (is_acknowledged w.machine) (book_of k.older k.command)))) (sym k.now) (rests k.r k.older k.command (after_all k.done k.first) w.rev w.node w.machine lists k.leads is))

left_at : Laws → (t : Tree) (w : Working) (book : Commands) (q : Question) → AtWork t w book → KeepsAt t (writer_left q w) (book_left q book)
left_at l t w book (Doing op) k = k
left_at l t w book (Sizing path) k = k
left_at l t w book Ending k = at_end l t w book k

goes_on : Laws → (t : Tree) (w after : Working) (book : Commands) (more : List Op) (k : AtWork t w book) → Onward w.machine after.machine → HasCome k.command k.first after (k.done ++ more) → AtWork (after_all more t) after (book_at after.machine book)
goes_on l t w after book more k onward come =
    record {
      command = k.command;
      first = k.first;
      r = k.r;
      older = k.older;
      done = k.done ++ more;
      leads = k.leads;
      stands = k.stands;
      valid = k.valid;
      lists = k.lists;
      come = come;
      now = ap (after_all more) k.now ∙ sym (after_append k.done more k.first);
      book_is = ap (book_at after.machine) k.book_is ∙ notes_on l.progress k.older k.command w.machine after.machine onward;
    }

-- what is left of the writer behind an event
leaves : Laws → (old new : Scene) (w after : Working) (done : List Op) (words text : List ℕ) → AtWork (after_all done (tree_of old)) after (book_at after.machine old.book) → LeavesWriter old new done after words text → Keeps new
leaves l old new w after done words text k h =
    subst Keeps (sym h.0)
    (subst (λ (u : Tree). KeepsAt u (writer_left (asked after.machine) after) (book_left (asked after.machine) (book_at after.machine old.book))) (sym (after_append old.log done old.start)) (left_at l (after_all done (tree_of old)) after (book_at after.machine old.book) (asked after.machine) k))

idle : (old new : Scene) (words text : List ℕ) → Keeps old → OnlySays old new words text → Keeps new
idle old new words text k h = subst Keeps (sym h.0) k

acts_keep : Laws → (deed : Deed) (words : List ℕ) (old new : Scene) (text : List ℕ) → HasBytes deed → Keeps old → ActsIn deed words old new text → Keeps new
acts_keep l deed words old new text some keeps h = by old.writer keeps refl h
  where
    by : (o : Option Working) → KeepsAt (tree_of old) o old.book → old.writer ≡ o
        → IfRunning o (OnlySays old new (codes "idle") text) (ActsAt deed words old new text) → Keeps new
    by None k e h = idle old new (codes "idle") text keeps h
    by (Some w) k e (done, mid, a, m, n, left) =
        let come = comes_by_act l.going k.command k.first w k.done deed done mid k.come some (subst (λ (x : Tree). Acts deed x w done mid) k.now a) in
        let there : after_all done (tree_of old) ≡ after_all (k.done ++ done) k.first = ap (after_all done) k.now ∙ sym (after_append k.done done k.first) in
        let sized = comes_by_sizes l.going k.command k.first mid m (k.done ++ done) come (subst (λ (x : Tree). IsAtNext x mid.machine m) there n) in
        let onward = onward_then w.machine mid.machine m (acts_onward l.progress deed (tree_of old) w done mid a) (sizes_onward l.progress (after_all done (tree_of old)) mid.machine m n.sizes) in
        leaves l old new w (at_machine mid m) done words text (goes_on l (tree_of old) w (at_machine mid m) old.book done k onward sized) left

runs_keep : Laws → (goal : Goal) (words : List ℕ) (old new : Scene) (text : List ℕ) → Keeps old → RunsIn goal words old new text → Keeps new
runs_keep l goal words old new text keeps h = by old.writer keeps h
  where
    by : (o : Option Working) → KeepsAt (tree_of old) o old.book
        → IfRunning o (OnlySays old new (codes "idle") text) (RunsAt goal words old new text) → Keeps new
    by None k h = idle old new (codes "idle") text keeps h
    by (Some w) k (done, after, a, left) =
        let come = comes_by_run l.going k.command k.first w k.done goal done after k.come (subst (λ (x : Tree). RunsTo goal x w done after) k.now a) in
        leaves l old new w after done words text (goes_on l (tree_of old) w after old.book done k (runs_onward l.progress goal (tree_of old) w done after a) come) left

stops_at : Laws → (count : ℕ) (t : Tree) (w after : Working) (book : Commands) (done : List Op) → AtWork t w book → StopsWithin count t w done after → AtRest (after_all done t) (ended_in (noted (publishes_with count after) false book))
stops_at l count t w after book done k h =
    let s : StopsWithin count (after_all k.done k.first) w done after = subst (λ (x : Tree). StopsWithin count x w done after) k.now h in
    let m = after.machine in
    let v = at_machine w m in
    let written = written_at_stop l.going l.stop k.command k.first w k.done count done k.come after s in
    let is = l.answered k.first k.r k.command who (answer_at v) (k.done ++ done) k.stands k.valid k.lists written in
    let lists = l.lists k.first k.r k.command who (answer_at v) (k.done ++ done) k.stands k.valid k.lists written in
    let onward = sizes_onward l.progress (after_all k.done k.first) w.machine m s.next.sizes in
    let rest = rests_stopped k.r k.older k.command (after_all (k.done ++ done) k.first) v count (is_published w.machine) (is_acknowledged w.machine) onward.published (l.progress.acknowledged_published w.machine)
    (sizes_acknowledge l.progress (after_all k.done k.first) w.machine m s.next.sizes) lists k.leads is in
    let tree : after_all (k.done ++ done) k.first ≡ after_all done t = after_append k.done done k.first ∙ ap (after_all done) (sym k.now) in
    subst (λ x. AtRest (after_all done t) (ended_in (noted (publishes_with count x) false book))) (sym s.is)
    (subst (λ b. AtRest (after_all done t) (ended_in (noted (publishes_with count v) false b))) (sym k.book_is)
    (subst (λ (u : Tree). AtRest u (ended_in (noted (publishes_with count v) false (noted (is_published w.machine) (is_acknowledged w.machine) (book_of k.older k.command))))) tree rest))

stops_keep : Laws → (count : ℕ) (old new : Scene) (text : List ℕ) → Keeps old → StopsIn count old new text → Keeps new
stops_keep l count old new text keeps h = by old.writer keeps h
  where
    by : (o : Option Working) → KeepsAt (tree_of old) o old.book
        → IfRunning o (OnlySays old new (codes "idle") text) (StopsAt count old new text) → Keeps new
    by None k h = idle old new (codes "idle") text keeps h
    by (Some w) k (done, after, s, e, said) =
        subst Keeps (sym e) (subst (λ (u : Tree). AtRest u (ended_in (noted (publishes_with count after) false old.book))) (sym (after_append old.log done old.start)) (stops_at l count (tree_of old) w after old.book done k s))

-- ---- recovering

-- recovering keeps the list of filelogs: where nothing is to do, and where a transaction is undone
nothing_lists : Laws → (t : Tree) (r : Repo) (done : List Op) → Stands t r → ListsPaths t r → RecoversBy t NothingToDo true done → ListsPaths (after_all done t) r
nothing_lists l t r done s lists h =
    l.same_list t (after_all done t) r (ap (λ file. unwrap_or file []) (l.recovered_others t (after_all done t) NothingToDo true done fncache_path s.no_journal h (done, stopped_whole done, refl) refl)) lists

undone_lists : Laws → (t : Tree) (r : Repo) (done : List Op) → IsOpen strays t r → ListsPaths t r → RecoversBy t Restored true done → ListsPaths (after_all done t) r
undone_lists l t r done (q, covers, s) lists h = l.restored_list (after_all done t) q r (l.restores t q true done covers h) (l.covered_list t q r covers lists)

rests_recovered : Laws → (t : Tree) (book : Commands) (came : RecoverAnswer) (done : List Op) → AtRest t book → came ≡ answer_in t → RecoversBy t came true done → AtRest (after_all done t) (book_recovered came book)
rests_recovered l t _ came done (stands r older leads s lists) e h =
    let is : came ≡ NothingToDo = e ∙ l.found_standing t r s in
    subst (λ c. AtRest (after_all done t) (book_recovered c (all_acknowledged older None))) (sym is)
    (stands r older leads (l.cleans t r done s (subst (λ c. RecoversBy t c true done) is h)).stands (nothing_lists l t r done s lists (subst (λ c. RecoversBy t c true done) is h)))
rests_recovered l t _ came done (is_open r older leads o lists) e h =
    let is : came ≡ Restored = e ∙ l.found_open t r o in
    subst (λ c. AtRest (after_all done t) (book_recovered c (all_acknowledged older None))) (sym is)
    (subst (λ kept. AtRest (after_all done t) (record { published = kept; acknowledged = length older; pending = None })) (sym (take_whole older))
    (stands r older leads (l.leads_back t r true done o (subst (λ c. RecoversBy t c true done) is h)) (undone_lists l t r done o lists (subst (λ c. RecoversBy t c true done) is h))))
rests_recovered l t _ came done (has_published r older command next leads accepted o lists) e h =
    let is : came ≡ Restored = e ∙ l.found_open t r o in
    subst (λ c. AtRest (after_all done t) (book_recovered c (record { published = older ++ command ∷ []; acknowledged = length older; pending = None }))) (sym is)
    (subst (λ kept. AtRest (after_all done t) (record { published = kept; acknowledged = length older; pending = None })) (sym (take_older older command))
    (stands r older leads (l.leads_back t r true done o (subst (λ c. RecoversBy t c true done) is h)) (undone_lists l t r done o lists (subst (λ c. RecoversBy t c true done) is h))))

recovers_keep : Laws → (old new : Scene) (text : List ℕ) → Keeps old → RecoversIn old new text → Keeps new
recovers_keep l old new text keeps h = by old.writer keeps refl h
  where
    by : (o : Option Working) → KeepsAt (tree_of old) o old.book → old.writer ≡ o → IfRunning o (RecoversAt old new text) (λ w. OnlySays old new (codes "busy") text) → Keeps new
    by None k e (came, done, ended, is, does, now, said) =
        subst Keeps (sym now) (subst (λ o. KeepsAt (after_all (old.log ++ done) old.start) o (book_recovered came old.book)) (sym e)
        (subst (λ (u : Tree). AtRest u (book_recovered came old.book)) (sym (after_append old.log done old.start)) (rests_recovered l (tree_of old) old.book came done k is does)))
    by (Some w) k e h = idle old new (codes "busy") text keeps h

-- ---- each event

begins_keep : Laws → (command : Command) (old new : Scene) (text : List ℕ) → IsValid command → Keeps old → Happens (Begin command) old new text → Keeps new
begins_keep l command old new text valid keeps h = by old.writer keeps refl h
  where
    come : (begun : Begun) (done : List Op) → AtRest (tree_of old) old.book → Begins who command (tree_of old) begun done → HasBegun command begun old new done text → Keeps new
    come (Ready planned) done k b (can, now, said) =
        subst Keeps (sym now) (subst (λ (u : Tree). AtWork u (new_writer planned) (with_pending command old.book)) (sym (after_append old.log done old.start)) (sets_out l (tree_of old) old.book command done planned k valid b can))
    come (Refused answer) done k b (given, swept, now, said) =
        subst Keeps (sym now) (subst (λ (u : Tree). AtRest u old.book) (sym (after_append old.log done old.start)) (rests_refused l (tree_of old) old.book command answer done k b))

    by : (o : Option Working) → KeepsAt (tree_of old) o old.book → old.writer ≡ o → IfRunning o (BeginsIn command old new text) (λ w. OnlySays old new (codes "busy") text) → Keeps new
    by None k e (begun, done, b, h) = come begun done k b h
    by (Some w) k e h = idle old new (codes "busy") text keeps h

pub happens_keep : Laws → (readers : ℕ) (event : Event) (old new : Scene) (text : List ℕ) → CanCome readers event → Keeps old → Happens event old new text → Keeps new
happens_keep l readers (Begin command) old new text can keeps h = begins_keep l command old new text (can) keeps h
happens_keep l readers (Write None) old new text can keeps h = acts_keep l WholeDeed (codes "wrote") old new text tt keeps h
happens_keep l readers (Write (Some count)) old new text can keeps h = acts_keep l (PartDeed count) (codes "wrote") old new text can keeps h
happens_keep l readers (Fail count) old new text can keeps h = acts_keep l (FailDeed count) (codes "failed") old new text tt keeps h
happens_keep l readers UntilPublish old new text can keeps h = runs_keep l Publishing (codes "at publish") old new text keeps h
happens_keep l readers UntilClean old new text can keeps h = runs_keep l Cleaning (codes "at clean") old new text keeps h
happens_keep l readers Finish old new text can keeps h = runs_keep l End [] old new text keeps h
happens_keep l readers (Stop count) old new text can keeps h = stops_keep l count old new text keeps h
happens_keep l readers Recover old new text can keeps h = recovers_keep l old new text keeps h
happens_keep l readers (Open reader) old new text can keeps (s, there, (now, said)) = subst Keeps (sym now) keeps
happens_keep l readers (Read reader) old new text can keeps (s, there, (now, said)) = subst Keeps (sym now) keeps
happens_keep l readers (Load reader) old new text can keeps (s, there, (now, said)) = subst Keeps (sym now) keeps
happens_keep l readers (Log reader) old new text can keeps (s, there, (now, said)) = subst Keeps (sym now) keeps
happens_keep l readers (Cat reader rev path) old new text can keeps (s, there, (now, said)) = subst Keeps (sym now) keeps
happens_keep l readers (Phase reader rev) old new text can keeps (s, there, (now, said)) = subst Keeps (sym now) keeps
happens_keep l readers (Bookmarks reader) old new text can keeps (s, there, (now, said)) = subst Keeps (sym now) keeps

-- ---- one after another

pub plays_keep : Laws → (readers : ℕ) (events : List Event) (first last : Scene) (text : List ℕ) → AllByRecursion (CanCome readers) events → Keeps first → Plays events first last text → Keeps last
plays_keep l readers [] first last text can keeps h = subst Keeps (sym h.0) keeps
plays_keep l readers (event ∷ events) first last text can keeps (between, one, rest, happens, plays, whole) =
    let now = happens_keep l readers event first between one can.0 keeps happens in
    plays_keep l readers events between last rest can.1 now plays

-- ---- what follows

pub follows_of : Laws → (s : Scene) → Keeps s → Follows s
follows_of l s keeps = by s.writer keeps
  where
    of : (book : Commands) → FollowsAt (tree_of s) book → book.published ≡ s.book.published → book.acknowledged ≡ s.book.acknowledged → Follows s
    of book f e k =
        let g : FollowsAt (tree_of s) (record s.book { pending = book.pending }) =
        subst (λ n. FollowsAt (tree_of s) (record { published = s.book.published; acknowledged = n; pending = book.pending })) k (subst (λ c. FollowsAt (tree_of s) (record book { published = c })) e f) in
        record { before = g.before; last = g.last; acknowledged = g.acknowledged; published = g.published; files = g.files; lists = g.lists }

    by : (o : Option Working) → KeepsAt (tree_of s) o s.book → Follows s
    by None k = of s.book (follows_at_rest (tree_of s) s.book k) refl refl
    by (Some w) k = of (ended_in s.book) (follows_at_rest (tree_of s) (ended_in s.book) (at_end l (tree_of s) w s.book k)) refl refl
