-- What the commands say of the files, from one event to the next.
use Rattle.std.proofs.Common.{◌≡◌, ◌⊎◌, ℕ, List, [], ◌∷◌, ◌++◌, length, take, Bool, true, false, refl, sym, ◌∙◌, ap, subst, inl, inr, if◌then◌else◌}
use Rattle.std.specs.Prelude.{Option, Some, None, Result, Ok, Err, IsOk, ◌-◌, ◌&&◌, ◌||◌, nat_le, nat_lt, slice_get}
use Rattle.hgs_files.specs.declared.op.Op.{Op}
use Rattle.hgs_files.specs.declared.op.Op.TheVariants as ops
use Rattle.hgs_files.specs.Tree.{Tree, after_all}
use Rattle.hgs_index.specs.declared.node.Node.{Node}
use Rattle.hgs_legal.specs.ListsPaths.{ListsOnlyPaths, ListsPaths}
use Rattle.hgs_machine.specs.Asked.{Doing, Ending, Question, Sizing, asked, bytes_in, question_of}
use Rattle.hgs_machine.specs.Fed.{fed, is_acknowledged, is_acknowledged_at, is_published, is_published_at, is_publishing}
use Rattle.hgs_machine.specs.SoFar.{Fits, stopped_as, stops_as}
use Rattle.hgs_machine.specs.declared.ended.Published.TheVariants.{No, Yes, Unknown}
use Rattle.hgs_machine.specs.declared.ended.Short.{Short}
use Rattle.hgs_machine.specs.declared.ended.Short.TheVariants.{Done as AllDone, Fault, Unfinished, Memory as OutOfMemory}
use Rattle.hgs_machine.specs.declared.machine.Machine.{Machine}
use Rattle.hgs_machine.specs.declared.machine.Reply.TheVariants.{Done, Failed, Size}
use Rattle.hgs_machine.specs.declared.machine.Stage.{Stage}
use Rattle.hgs_machine.specs.declared.machine.Stage.TheVariants as stages
use Rattle.hgs_model.specs.Repo.{Repo, empty_repo}
use Rattle.hgs_model.specs.Step.{Next, step}
use Rattle.hgs_model.specs.declared.command.Command.{Command}
use Rattle.hgs_model.specs.declared.command.Refusal.{Refusal}
use Rattle.hgs_ops.specs.Operations.{strays}
use Rattle.hgs_stands.specs.Open.{IsOpen}
use Rattle.hgs_stands.specs.Stands.{Stands}
use Rattle.hgs_transaction.specs.declared.assemble.Plan.{Plan}
use Rattle.hgs_writer.specs.Alone.{IsAnswered, IsDoneAs}
use Rattle.hgs_writer.specs.Outcomes.{outcome_of_ended}
use Rattle.hgs_world.specs.Below.{Progress}
use Rattle.hgs_world.specs.Book.{Commands, acknowledged_of, ended_in, noted}
use Rattle.hgs_world.specs.Follows.{AtRest, Replays, all_acknowledged, has_published, is_open, stands}
use Rattle.hgs_world.specs.Working.{Acts, Does, OfOperation, Runs, RunsTo, Sizes, asks_rest, at_machine, publishes_with, no_more, not_yet, once_more, one_more}
use Rattle.hgs_world.specs.declared.working.Deed.{Deed}
use Rattle.hgs_world.specs.declared.working.Deed.TheVariants.{All, Part, Fail}
use Rattle.hgs_world.specs.declared.working.Goal.{Goal}
use Rattle.hgs_world.specs.declared.working.Working.{Working}

-- ---- how far a machine has come

-- one machine has come as far as the other
pub record Onward (from m : Machine) : Type 0 where
  pub published : is_published from ≡ true → is_published m ≡ true
  pub acknowledged : is_acknowledged from ≡ true → is_acknowledged m ≡ true

onward_same : (m : Machine) → Onward m m
onward_same m = record { published = λ h. h; acknowledged = λ h. h }

pub onward_then : (a b c : Machine) → Onward a b → Onward b c → Onward a c
onward_then a b c x y = record { published = λ h. y.published (x.published h); acknowledged = λ h. y.acknowledged (x.acknowledged h) }

sizes_fit : (m : Machine) (path : List ℕ) (size : Option ℕ) → asked m ≡ Sizing path → Fits (asked m) (Size size)
sizes_fit m path size e = subst (λ q. Fits q (Size size)) (sym e) tt

-- sizes acknowledge nothing
pub sizes_acknowledge : Progress → (t : Tree) (from m : Machine) → Sizes t from m → is_acknowledged m ≡ is_acknowledged from
sizes_acknowledge p t from m no_more = refl
sizes_acknowledge p t from m (one_more n path size s e is) = p.acknowledged_sized n size (sizes_fit n path size e) ∙ sizes_acknowledge p t from n s

sizes_publish : Progress → (t : Tree) (from m : Machine) → Sizes t from m → is_published from ≡ true → is_published m ≡ true
sizes_publish p t from m no_more h = h
sizes_publish p t from m (one_more n path size s e is) h = p.published_sized n size (sizes_fit n path size e) (sizes_publish p t from n s h)

pub sizes_onward : Progress → (t : Tree) (from m : Machine) → Sizes t from m → Onward from m
sizes_onward p t from m s = record { published = sizes_publish p t from m s; acknowledged = λ h. sizes_acknowledge p t from m s ∙ h }

done_onward : Progress → (m : Machine) → Onward m (fed m Done)
done_onward p m = record { published = p.published_done m; acknowledged = p.acknowledged_done m }

failed_onward : Progress → (m : Machine) → Onward m (fed m Failed)
failed_onward p m = record { published = p.published_failed m; acknowledged = p.acknowledged_failed m }

does_onward : Progress → (deed : Deed) (op : Op) (w : Working) (done : List Op) (after : Working) → Does deed op w done after → Onward w.machine after.machine
does_onward p All op w done after d = subst (λ (v : Working). Onward w.machine v.machine) (sym d.1) (done_onward p w.machine)
does_onward p (Part count) op w done after (inl d) = subst (λ (v : Working). Onward w.machine v.machine) (sym d.2) (onward_same w.machine)
does_onward p (Part count) op w done after (inr d) = subst (λ (v : Working). Onward w.machine v.machine) (sym d.2) (done_onward p w.machine)
does_onward p (Fail count) op w done after d = subst (λ (v : Working). Onward w.machine v.machine) (sym d.1) (failed_onward p w.machine)

asked_onward : Progress → (deed : Deed) (q : Question) (w : Working) (done : List Op) (after : Working) → OfOperation q (λ op. Does deed op w done after) ((done ≡ []) × (after ≡ w)) → Onward w.machine after.machine
asked_onward p deed (Doing op) w done after d = does_onward p deed op w done after d
asked_onward p deed (Sizing path) w done after d = subst (λ (v : Working). Onward w.machine v.machine) (sym d.1) (onward_same w.machine)
asked_onward p deed Ending w done after d = subst (λ (v : Working). Onward w.machine v.machine) (sym d.1) (onward_same w.machine)

pub acts_onward : Progress → (deed : Deed) (t : Tree) (w : Working) (done : List Op) (after : Working) → Acts deed t w done after → Onward w.machine after.machine
acts_onward p deed t w done after a =
    onward_then w.machine a.machine after.machine (sizes_onward p t w.machine a.machine a.next.sizes) (asked_onward p deed (asked a.machine) (at_machine w a.machine) done after a.does)

runs_on : Progress → (goal : Goal) (t : Tree) (from w : Working) (log : List Op) → Runs goal t from log w → Onward from.machine w.machine
runs_on p goal t from w log not_yet = onward_same from.machine
runs_on p goal t from _ _ (once_more log done v m op r n e far d) =
    onward_then from.machine v.machine (fed m Done) (runs_on p goal t from v log r) (onward_then v.machine m (fed m Done) (sizes_onward p (after_all log t) v.machine m n.sizes) (done_onward p m))

pub runs_onward : Progress → (goal : Goal) (t : Tree) (from : Working) (done : List Op) (after : Working) → RunsTo goal t from done after → Onward from.machine after.machine
runs_onward p goal t from done after r =
    subst (λ (v : Working). Onward from.machine v.machine) (sym r.is) (onward_then from.machine r.last.machine r.machine (runs_on p goal t from r.last done r.runs) (sizes_onward p (after_all done t) r.last.machine r.machine r.next.sizes))

-- ---- lists of commands

take_front : (xs ys : List Command) → take (length xs) (xs ++ ys) ≡ xs
take_front [] ys = refl
take_front (x ∷ xs) ys = ap (λ l. x ∷ l) (take_front xs ys)

pub take_whole : (xs : List Command) → take (length xs) xs ≡ xs
take_whole [] = refl
take_whole (x ∷ xs) = ap (λ l. x ∷ l) (take_whole xs)

pub take_older : (older : List Command) (command : Command) → take (length older) (older ++ command ∷ []) ≡ older
take_older older command = take_front older (command ∷ [])

pub leads_on : (r mid : Repo) (commands : List Command) (command : Command) (next : Next) → Replays r commands mid → step mid command ≡ Ok next → Replays r (commands ++ command ∷ []) next.0
leads_on r mid [] command next h e = (next, (ap (λ x. step x command) (sym h) ∙ e), refl)
leads_on r mid (c ∷ commands) command next h e = (h.0, h.1, leads_on h.0.0 mid commands command next h.2 e)

-- ---- what is noted

abbrev pub book_of : List Command → Command → Commands
book_of older command = all_acknowledged older (Some command)

noted_again : (older : List Command) (command : Command) (p a q b : Bool) → (a ≡ true → p ≡ true) → (p ≡ true → q ≡ true) → (a ≡ true → b ≡ true) → noted q b (noted p a (book_of older command)) ≡ noted q b (book_of older command)
noted_again older command false false q b f g h = refl
noted_again older command false true q b f g h = absurd (let k = f refl in let no : ⊥ = cc in no)
noted_again older command true false false b f g h = absurd (let k = g refl in let no : ⊥ = cc in no)
noted_again older command true false true false f g h = refl
noted_again older command true false true true f g h = refl
noted_again older command true true false b f g h = absurd (let k = g refl in let no : ⊥ = cc in no)
noted_again older command true true true false f g h = absurd (let k = h refl in let no : ⊥ = cc in no)
noted_again older command true true true true f g h = refl

pub notes_on : Progress → (older : List Command) (command : Command) (m n : Machine) → Onward m n → noted (is_published n) (is_acknowledged n) (noted (is_published m) (is_acknowledged m) (book_of older command)) ≡ noted (is_published n) (is_acknowledged n) (book_of older command)
notes_on p older command m n o = noted_again older command (is_published m) (is_acknowledged m) (is_published n) (is_acknowledged n) (p.acknowledged_published m) o.published o.acknowledged

-- ---- what a writer leaves that does nothing more

accepted_by : (stepped : Result Next Refusal) → IsOk stepped → (next : Next) × (stepped ≡ Ok next)
accepted_by (Ok next) h = (next, refl)
accepted_by (Err e) h = absurd (let no : ⊥ = cc in no)

done_by : (r : Repo) (older : List Command) (command : Command) (u : Tree) (rev : ℕ) (node : Node) (stepped : Result Next Refusal) → step r command ≡ stepped → ListsOnlyPaths u → Replays empty_repo older r → IsDoneAs stepped rev node u
    → AtRest u (ended_in (noted true true (book_of older command)))
done_by r older command u rev node (Ok next) e lists leads h = stands next.0 (older ++ command ∷ []) (leads_on empty_repo r older command next leads e) h.0 (lists next.0 (inl h.0))
done_by r older command u rev node (Err x) e lists leads h = absurd h

left_by : (r : Repo) (older : List Command) (command : Command) (u : Tree) → ListsOnlyPaths u → Replays empty_repo older r → IsOpen strays u r → AtRest u (ended_in (noted false false (book_of older command)))
left_by r older command u lists leads o = is_open r older leads o (lists r (inr o))

publishes_by : (r : Repo) (older : List Command) (command : Command) (u : Tree) → ListsOnlyPaths u → Replays empty_repo older r → IsOk (step r command) → IsOpen strays u r → AtRest u (ended_in (noted true false (book_of older command)))
publishes_by r older command u lists leads ok o =
    let next = accepted_by (step r command) ok in
    has_published r older command next.0 leads next.1 o (lists r (inr o))

ended_so : (r : Repo) (older : List Command) (command : Command) (u : Tree) (rev : ℕ) (node : Node) (o : Short) → ListsOnlyPaths u → Replays empty_repo older r → IsAnswered r (step r command) (outcome_of_ended o rev node) u
    → AtRest u (ended_in (noted (is_published_at stages.Sweeping o) (is_acknowledged_at stages.Sweeping o) (book_of older command)))
ended_so r older command u rev node AllDone lists leads h = done_by r older command u rev node (step r command) refl lists leads h
ended_so r older command u rev node Fault lists leads h = stands r older leads h (lists r (inl h))
ended_so r older command u rev node OutOfMemory lists leads h = stands r older leads h (lists r (inl h))
ended_so r older command u rev node (Unfinished No) lists leads h = left_by r older command u lists leads h.1
ended_so r older command u rev node (Unfinished Yes) lists leads h = publishes_by r older command u lists leads h.0 h.1
ended_so r older command u rev node (Unfinished Unknown) lists leads h = left_by r older command u lists leads h.1

published_in_part : (r : Repo) (older : List Command) (command : Command) (u : Tree) (rev : ℕ) (node : Node) (b : Bool) → ListsOnlyPaths u → Replays empty_repo older r
    → IsAnswered r (step r command) (outcome_of_ended (if b then Unfinished Unknown else Unfinished No) rev node) u → AtRest u (ended_in (noted false false (book_of older command)))
published_in_part r older command u rev node true lists leads h = left_by r older command u lists leads h.1
published_in_part r older command u rev node false lists leads h = left_by r older command u lists leads h.1

stopped_so : (r : Repo) (older : List Command) (command : Command) (u : Tree) (rev : ℕ) (node : Node) (s : Stage) (bytes : ℕ) (o : Short) → ListsOnlyPaths u → Replays empty_repo older r → IsAnswered r (step r command) (outcome_of_ended (stops_as s bytes o) rev node) u
    → AtRest u (ended_in (noted (is_published_at s o) (is_acknowledged_at s o) (book_of older command)))
stopped_so r older command u rev node stages.Preparing bytes o lists leads h = stands r older leads h (lists r (inl h))
stopped_so r older command u rev node stages.Beginning bytes o lists leads h = stands r older leads h (lists r (inl h))
stopped_so r older command u rev node stages.Working bytes o lists leads h = left_by r older command u lists leads h.1
stopped_so r older command u rev node stages.Publishing bytes o lists leads h = published_in_part r older command u rev node (nat_lt 0 bytes) lists leads h
stopped_so r older command u rev node stages.Asking bytes o lists leads h = left_by r older command u lists leads h.1
stopped_so r older command u rev node stages.Finishing bytes o lists leads h = publishes_by r older command u lists leads h.0 h.1
stopped_so r older command u rev node stages.Undoing bytes o lists leads h = left_by r older command u lists leads h.1
stopped_so r older command u rev node stages.Sweeping bytes o lists leads h = ended_so r older command u rev node o lists leads h
stopped_so r older command u rev node stages.Removing bytes o lists leads h = ended_so r older command u rev node o lists leads h

-- a writer whose machine stands here, and that does nothing more
pub rests : (r : Repo) (older : List Command) (command : Command) (u : Tree) (rev : ℕ) (node : Node) (m : Machine) → ListsOnlyPaths u → Replays empty_repo older r → IsAnswered r (step r command) (outcome_of_ended (stopped_as m) rev node) u
    → AtRest u (ended_in (noted (is_published m) (is_acknowledged m) (book_of older command)))
rests r older command u rev node m lists leads h = stopped_so r older command u rev node m.stage (bytes_in (slice_get m.plan.ops.items m.done)) m.outcome lists leads h

-- ---- what follows of the commands

-- the same of a tree and the commands
pub record FollowsAt (t : Tree) (book : Commands) : Type 0 where
  pub before : Repo
  pub last : Repo
  pub acknowledged : Replays empty_repo (acknowledged_of book) before
  pub published : Replays empty_repo book.published last
  pub files : ((book.acknowledged ≡ length book.published) × Stands t before) ⊎ IsOpen strays t before
  pub lists : ListsPaths t before

whole_leads : (older : List Command) (r : Repo) → Replays empty_repo older r → Replays empty_repo (take (length older) older) r
whole_leads older r leads = subst (λ c. Replays empty_repo c r) (sym (take_whole older)) leads

pub follows_at_rest : (t : Tree) (book : Commands) → AtRest t book → FollowsAt t book
follows_at_rest t _ (stands r older leads s lists) = record { before = r; last = r; acknowledged = whole_leads older r leads; published = leads; files = inl (refl, s); lists = lists }
follows_at_rest t _ (is_open r older leads o lists) = record { before = r; last = r; acknowledged = whole_leads older r leads; published = leads; files = inr o; lists = lists }
follows_at_rest t _ (has_published r older command next leads e o lists) =
    record {
      before = r;
      last = next.0;
      acknowledged = subst (λ c. Replays empty_repo c r) (sym (take_older older command)) leads;
      published = leads_on empty_repo r older command next leads e;
      files = inr o;
      lists = lists;
    }

-- ---- a stop

-- an append whose rest is asked for has bytes
rest_some : (o : Option Op) (part count : ℕ) → asks_rest (question_of o (λ op. false)) part count ≡ true → nat_lt 0 (bytes_in o) ≡ true
rest_some None part count h = cc
rest_some (Some (ops.Append path bytes)) part count h = first (nat_lt 0 (length bytes)) (nat_le (length bytes - part) count) h
  where
    first : (a b : Bool) → (a && b) ≡ true → a ≡ true
    first true b e = refl
    first false b e = cc
rest_some (Some (ops.Cut path len)) part count h = cc
rest_some (Some (ops.Rename from to)) part count h = cc
rest_some (Some (ops.Remove path)) part count h = cc
rest_some (Some (ops.Create path bytes)) part count h = cc
rest_some (Some (ops.Sync path)) part count h = cc
rest_some (Some ops.Settle) part count h = cc

published_whole : (r : Repo) (older : List Command) (command : Command) (u : Tree) (rev : ℕ) (node : Node) (b : Bool) → b ≡ true → ListsOnlyPaths u → Replays empty_repo older r
    → IsAnswered r (step r command) (outcome_of_ended (if b then Unfinished Unknown else Unfinished No) rev node) u → AtRest u (ended_in (noted true false (book_of older command)))
published_whole r older command u rev node true e lists leads h = publishes_by r older command u lists leads h.0 h.1
published_whole r older command u rev node false e lists leads h = absurd (let no : ⊥ = cc in no)

-- the publishing append stands whole
shown_so : (r : Repo) (older : List Command) (command : Command) (u : Tree) (rev : ℕ) (node : Node) (plan : Plan) (s : Stage) (done place : ℕ) (o : Short) (swept : Bool) (part count : ℕ) →
    let m : Machine = record { plan = plan; stage = s; done = done; place = place; outcome = o; swept = swept } in (is_publishing m && asks_rest (asked m) part count) ≡ true → ListsOnlyPaths u → Replays empty_repo older r
    → IsAnswered r (step r command) (outcome_of_ended (stopped_as m) rev node) u → AtRest u (ended_in (noted true false (book_of older command)))
shown_so r older command u rev node plan stages.Preparing done place o swept part count e lists leads h = absurd (let no : ⊥ = cc in no)
shown_so r older command u rev node plan stages.Beginning done place o swept part count e lists leads h = absurd (let no : ⊥ = cc in no)
shown_so r older command u rev node plan stages.Working done place o swept part count e lists leads h = absurd (let no : ⊥ = cc in no)
shown_so r older command u rev node plan stages.Publishing done place o swept part count e lists leads h =
    published_whole r older command u rev node (nat_lt 0 (bytes_in (slice_get plan.ops.items done))) (rest_some (slice_get plan.ops.items done) part count e) lists leads h
shown_so r older command u rev node plan stages.Asking done place o swept part count e lists leads h = absurd (let no : ⊥ = cc in no)
shown_so r older command u rev node plan stages.Finishing done place o swept part count e lists leads h = absurd (let no : ⊥ = cc in no)
shown_so r older command u rev node plan stages.Undoing done place o swept part count e lists leads h = absurd (let no : ⊥ = cc in no)
shown_so r older command u rev node plan stages.Sweeping done place o swept part count e lists leads h = absurd (let no : ⊥ = cc in no)
shown_so r older command u rev node plan stages.Removing done place o swept part count e lists leads h = absurd (let no : ⊥ = cc in no)

-- A machine that has come this far stops, of which no more was noted than this: it has published where its publishing operation stands whole.
pub rests_stopped : (r : Repo) (older : List Command) (command : Command) (u : Tree) (w : Working) (count : ℕ) (p a : Bool) → (p ≡ true → is_published w.machine ≡ true) → (a ≡ true → p ≡ true) → is_acknowledged w.machine ≡ a
    → ListsOnlyPaths u → Replays empty_repo older r → IsAnswered r (step r command) (outcome_of_ended (stopped_as w.machine) w.rev w.node) u → AtRest u (ended_in (noted (publishes_with count w) false (noted p a (book_of older command))))
rests_stopped r older command u w count p a comes sooner is lists leads h = by (is_published m) whole p a refl refl is comes sooner
  where
    m : Machine
    m = w.machine

    whole : Bool
    whole = is_publishing m && asks_rest (asked m) w.part count

    -- as much is noted as the machine has come to
    as_come : (q b : Bool) → is_published m ≡ q → is_acknowledged m ≡ b → AtRest u (ended_in (noted q b (book_of older command)))
    as_come q b e f =
        subst (λ x. AtRest u (ended_in (noted x b (book_of older command)))) e
        (subst (λ x. AtRest u (ended_in (noted (is_published m) x (book_of older command)))) f (rests r older command u w.rev w.node m lists leads h))

    by : (q shown p a : Bool) → is_published m ≡ q → whole ≡ shown → is_acknowledged m ≡ a → (p ≡ true → q ≡ true) → (a ≡ true → p ≡ true) → AtRest u (ended_in (noted (q || shown) false (noted p a (book_of older command))))
    by true shown true true e f g comes sooner = as_come true true e g
    by true shown true false e f g comes sooner = as_come true false e g
    by true shown false true e f g comes sooner = absurd (let k = sooner refl in let no : ⊥ = cc in no)
    by true shown false false e f g comes sooner = as_come true false e g
    by false shown true a e f g comes sooner = absurd (let k = comes refl in let no : ⊥ = cc in no)
    by false shown false true e f g comes sooner = absurd (let k = sooner refl in let no : ⊥ = cc in no)
    by false true false false e f g comes sooner = shown_so r older command u w.rev w.node m.plan m.stage m.done m.place m.outcome m.swept w.part count f lists leads h
    by false false false false e f g comes sooner = as_come false false e g
