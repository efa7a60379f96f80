-- What the files show of the commands that were published.
use Rattle.std.proofs.Common.{◌≡◌, ℕ, zero, suc, ◌+◌, ◌≤◌, List, [], ◌∷◌, ◌++◌, length, take, refl, sym, ◌∙◌, ap, subst, append-nil, length-append, arith}
use Rattle.std.proofs.Math.Seq.{take-append-add}
use Rattle.std.proofs.Common.{take_all}
use Rattle.std.specs.Prelude.{Ok}
use Rattle.hgs_files.specs.declared.op.Op.{Op}
use Rattle.hgs_files.specs.Tree.{Tree, after_all}
use Rattle.hgs_legal.specs.LegalLog.{lock_removals, Acts, Doing, Goes, Idle, IsRun, Leaves, Preparing, Published, Refused, State, Turn, Undoing, Working, last_repo, newly, start_of, worked, finished, undone, begins, prepares, journals, works, finishes, undoes, goes_on_undoing, removes, knocks, knocks_again, goes_on_knocking, stays, gives_up, breaks, breaks_after, breaks_undo, is_refused}
use Rattle.hgs_files.specs.declared.op.Op.TheVariants.{Remove}
use Rattle.hgs_ops.specs.Operations.{wlock_path}
use Rattle.hgs_legal.specs.Numbers.{b_of, n_of, repo_at, w_of}
use Rattle.hgs_legal.specs.Theorems.Runs.{run-keeps}
use Rattle.hgs_model.specs.Repo.{Repo, empty_repo}
use Rattle.hgs_model.specs.Step.{step}
use Rattle.hgs_model.specs.declared.command.Command.{Command}
use Rattle.hgs_stands.specs.Shows.{Shows}
use Rattle.hgs_world.specs.Follows.{Replays}
use Rattle.hgs_headline.specs.WritersLog.{WritersLog}
use Rattle.hgs_world.specs.World.{Scene, tree_of}
use Rattle.hgs_played.specs.Shown.{ShowsCommands}
use Rattle.hgs_played.specs.Since.{Beginning, Begins, IsPlayed, commands_of}
use Rattle.hgs_played.proofs.Going.{after_append}

-- ---- the commands of a run are accepted one after another

abbrev IsAccepted : Repo → Turn → Type 0
IsAccepted r x = step r x.command ≡ Ok (x.next, x.answer)

abbrev AreAccepted : Repo → List Turn → Type 0
AreAccepted r [] = Unit {0}
AreAccepted r (x ∷ turns) = IsAccepted r x × AreAccepted x.next turns

-- so is that of the writer at work
abbrev WorksAt : Doing → Repo → Type 0
WorksAt (Idle left rest) r = Unit {0}
WorksAt (Refused left creation rest) r = Unit {0}
WorksAt (Preparing x left) r = IsAccepted r x
WorksAt (Working x left) r = IsAccepted r x
WorksAt (Published x left) r = Unit {0}
WorksAt (Undoing left) r = Unit {0}

leaves_at : (d e : Doing) (r : Repo) → Leaves d e → WorksAt d r → WorksAt e r
leaves_at d e r h k = by h k
  where
    by : {d e : Doing} → Leaves d e → WorksAt d r → WorksAt e r
    by stays k = k
    by gives_up k = tt
    by breaks k = tt
    by breaks_after k = tt
    by breaks_undo k = tt
    by is_refused k = tt

accepted_more : (f : Repo) (turns : List Turn) (x : Turn) → AreAccepted f turns → IsAccepted (last_repo f turns) x → AreAccepted f (turns ++ x ∷ [])
accepted_more f [] x h e = (e, tt)
accepted_more f (y ∷ turns) x h e = (h.0, accepted_more y.next turns x h.1 e)

abbrev Both : Repo → List Turn → Doing → Type 0
Both f turns d = AreAccepted f turns × WorksAt d (last_repo f turns)

no_news : (f : Repo) (turns : List Turn) (d : Doing) → Both f turns d → Both f (turns ++ []) d
no_news f turns d h = subst (λ l. Both f l d) (sym (append-nil turns)) h

acts_at : (t : Tree) (f : Repo) (turns : List Turn) (d : Doing) (op : Op) (news : List Turn) (e : Doing) → Acts t (last_repo f turns) d op news e → Both f turns d → Both f (turns ++ news) e
acts_at t f turns _ op _ _ (begins {x = x} {left = left} it does) h = no_news f turns (Preparing x left) (h.0, it.accepted)
acts_at t f turns _ op _ _ (prepares {x = x} {left = left} does) h = no_news f turns (Preparing x left) h
acts_at t f turns _ op _ _ (journals {x = x} {left = left} does) h = no_news f turns (Working x left) h
acts_at t f turns _ op _ _ (works {x = x} left does) h = by left
  where
    by : (left : List Op) → Both f (turns ++ newly x left) (worked x left)
    by [] = (accepted_more f turns x h.0 h.1, tt)
    by (o ∷ left) = no_news f turns (Working x (o ∷ left)) h
acts_at t f turns _ op _ _ (finishes {x = x} left does) h = by left
  where
    by : (left : List Op) → Both f (turns ++ []) (finished x left)
    by [] = no_news f turns (finished x []) (h.0, tt)
    by (o ∷ left) = no_news f turns (finished x (o ∷ left)) (h.0, tt)
acts_at t f turns _ op _ _ (undoes left does) h = by left
  where
    by : (left : List Op) → Both f (turns ++ []) (undone left)
    by [] = no_news f turns (undone []) (h.0, tt)
    by (o ∷ left) = no_news f turns (undone (o ∷ left)) (h.0, tt)
acts_at t f turns _ op _ _ (goes_on_undoing left does) h = by left
  where
    by : (left : List Op) → Both f (turns ++ []) (undone left)
    by [] = no_news f turns (undone []) (h.0, tt)
    by (o ∷ left) = no_news f turns (undone (o ∷ left)) (h.0, tt)
acts_at t f turns _ _ _ _ (removes {left = left} {rest = rest} skipped is) h = no_news f turns (Idle left rest) (h.0, tt)
acts_at t f turns _ op _ _ (knocks {left = left} {creation = creation} who does) h = no_news f turns (Refused left creation (Remove wlock_path ∷ [])) (h.0, tt)
acts_at t f turns _ op _ _ (knocks_again {left = left} {creation = creation} who does) h = no_news f turns (Refused left creation lock_removals) (h.0, tt)
acts_at t f turns _ op _ _ (goes_on_knocking {left = left} {creation = creation} {rest = rest} does) h = no_news f turns (Refused left creation rest) (h.0, tt)

abbrev Holds : State → Type 0
Holds s = Both s.first s.published s.doing

goes_at : (s : State) (op : Op) (s' : State) → Goes s op s' → Holds s → Holds s'
goes_at s op s' go h =
    let there = leaves_at s.doing go.there (last_repo s.first s.published) go.leaves h.1 in
    let more = acts_at s.files s.first s.published go.there op go.news s'.doing go.acts (h.0, there) in
    subst (λ l. Both s'.first l s'.doing) (sym go.published) (subst (λ f. Both f (s.published ++ go.news) s'.doing) (sym go.first) more)

first_stays : (s : State) (op : Op) (s' : State) (r : Repo) → Goes s op s' → s.first ≡ r → s'.first ≡ r
first_stays s op s' r go e = go.first ∙ e

pub run_accepted : (t : Tree) (r : Repo) (log : List Op) (s : State) → IsRun t r log s → (s.first ≡ r) × AreAccepted r s.published
run_accepted t r log s run =
    let first : s.first ≡ r = run-keeps Goes (λ (x : State). x.first ≡ r) (λ p op q go e. first_stays p op q r go e) (start_of t r) log s run refl in
    let h = run-keeps Goes Holds goes_at (start_of t r) log s run (tt, tt) in
    (first, subst (λ f. AreAccepted f s.published) first h.0)

-- ---- replayed

accepted_replay : (r : Repo) (turns : List Turn) (i : ℕ) → AreAccepted r turns → Replays r (take i (commands_of turns)) (last_repo r (take i turns))
accepted_replay r turns zero h = refl
accepted_replay r [] (suc i) h = refl
accepted_replay r (x ∷ turns) (suc i) h = ((x.next, x.answer), h.0, accepted_replay x.next turns i h.1)

replays_join : (r mid last : Repo) (commands more : List Command) → Replays r commands mid → Replays mid more last → Replays r (commands ++ more) last
replays_join r mid last [] more h k = subst (λ x. Replays x more last) h k
replays_join r mid last (c ∷ commands) more h k = (h.0, h.1, replays_join h.0.0 mid last commands more h.2 k)

length_commands : (turns : List Turn) → length (commands_of turns) ≡ length turns
length_commands [] = refl
length_commands (x ∷ turns) = ap suc (length_commands turns)

-- a front of what was published leads to the repository of that number
pub replayed : (start : Tree) (b : Beginning) (h : WritersLog) (commands : List Command) (i : ℕ) → Begins start b → h.first ≡ b.first → commands ≡ b.older ++ commands_of h.last.published → Replays empty_repo (take (length b.older + i) commands) (repo_at h.last i)
replayed start b h commands i begun first is =
    let a = run_accepted h.start h.first h.log h.last h.run in
    let own : Replays h.first (take i (commands_of h.last.published)) (repo_at h.last i) = subst (λ f. Replays h.first (take i (commands_of h.last.published)) (last_repo f (take i h.last.published))) (sym a.0) (accepted_replay h.first h.last.published i a.1) in
    let front : take (length b.older + i) commands ≡ b.older ++ take i (commands_of h.last.published) = ap (take (length b.older + i)) is ∙ take-append-add b.older (commands_of h.last.published) i in
    subst (λ l. Replays empty_repo l (repo_at h.last i)) (sym front)
    (replays_join empty_repo b.first (repo_at h.last i) b.older (take i (commands_of h.last.published)) begun.leads (subst (λ f. Replays f (take i (commands_of h.last.published)) (repo_at h.last i)) first own))

-- what the tree behind such a log shows
pub shows_commands : ((s : State) → (b_of s ≤ w_of s) × (w_of s ≤ n_of s)) → (start : Tree) (b : Beginning) (h : WritersLog) (commands : List Command) → Begins start b → h.first ≡ b.first → commands ≡ b.older ++ commands_of h.last.published
    → Shows (after_all h.log h.start) (repo_at h.last (b_of h.last)) (repo_at h.last (w_of h.last)) (repo_at h.last (n_of h.last)) → ShowsCommands (after_all h.log h.start) commands
shows_commands order start b h commands begun first is shows =
    let o = order h.last in
    let long : length commands ≡ length b.older + n_of h.last = ap length is ∙ length-append b.older (commands_of h.last.published) ∙ ap (λ n. length b.older + n) (length_commands h.last.published) in
    let all : take (length b.older + n_of h.last) commands ≡ commands = take_all (length b.older + n_of h.last) commands (omega (arith, long)) in
    record {
      marks = length b.older + b_of h.last;
      works = length b.older + w_of h.last;
      marks_works = omega (arith, o.0);
      works_all = omega (arith, o.1, long);
      marked = repo_at h.last (b_of h.last);
      worked = repo_at h.last (w_of h.last);
      last = repo_at h.last (n_of h.last);
      bookmarks = replayed start b h commands (b_of h.last) begun first is;
      parents = replayed start b h commands (w_of h.last) begun first is;
      all = subst (λ l. Replays empty_repo l (repo_at h.last (n_of h.last))) all (replayed start b h commands (n_of h.last) begun first is);
      shows = shows;
    }

-- and that is the tree of the play
pub tree_now : (s : Scene) (b : Beginning) (h : WritersLog) → IsPlayed s b h → after_all h.log h.start ≡ tree_of s
tree_now s b h p = ap (after_all h.log) p.start ∙ sym (after_append b.earlier h.log s.start) ∙ ap (λ l. after_all l s.start) (sym p.whole)
