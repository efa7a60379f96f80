-- What a run of writers keeps of the list of filelogs.
use Rattle.std.proofs.Common.{◌≡◌, ℕ, List, [], ◌∷◌, ◌++◌, true, refl, sym, ◌∙◌, ap, subst, append-nil}
use Rattle.std.specs.Prelude.{Ok}
use Rattle.hgs_bytes.specs.Bytes.{IsPrefixOf}
use Rattle.hgs_bytes.specs.Text.{lines_of}
use Rattle.hgs_files.specs.declared.op.Op.{Op}
use Rattle.hgs_files.specs.declared.op.Op.TheVariants.{Create, Remove}
use Rattle.hgs_files.specs.Log.{Does}
use Rattle.hgs_files.specs.Theorems.LogLemmas.{after-does}
use Rattle.hgs_files.specs.Theorems.TreeLemmas.{after_all-append}
use Rattle.hgs_files.specs.Tree.{Tree, after_all, apply}
use Rattle.hgs_journal.specs.Names.{journal_path}
use Rattle.hgs_model.specs.declared.command.Command.{Command}
use Rattle.hgs_model.specs.declared.command.Command.TheVariants.{Commit, Import, Mark, Move, Unmark}
use Rattle.hgs_model.specs.History.{uses}
use Rattle.hgs_model.specs.Phase.{phase_number}
use Rattle.hgs_model.specs.Repo.{Changeset, Repo}
use Rattle.hgs_model.specs.Step.{Answer, step}
use Rattle.hgs_model.specs.Theorems.StepLemmas.{step_mark-did, step_move-did, step_unmark-did}
use Rattle.hgs_model.specs.Valid.{IsValid}
use Rattle.hgs_ops.specs.Operations.{Transaction, lock_path, wlock_path}
use Rattle.hgs_ops.specs.Theorems.Touch.{all-append, and-both, and-left, and-right}
use Rattle.hgs_ops.specs.Unhindered.{IsReady}
use Rattle.hgs_stands.specs.Stands.{Stands}
use Rattle.hgs_legal.specs.LegalLog.{Acts, Doing, Goes, Idle, IsRun, IsTurn, Leaves, Preparing, Published, Refused, Run, State, Turn, Undoing, Working, begins, breaks, breaks_after, breaks_undo, current, finished, finishes, gives_up, goes_on_knocking, goes_on_undoing, is_refused, journals, knocks, knocks_again, last_repo, newly, prepares, removes, start_of, stays, through_publishing, through_removal, undoes, undone, worked, works}
use Rattle.hgs_legal.specs.Numbers.{StopsAt, acknowledged_of, repo_at}
use Rattle.hgs_legal.specs.Theorems.Idle.{Safe, StandsIdle, idle-stands}
use Rattle.hgs_legal.specs.Theorems.Runs.{run-join}
use Rattle.hgs_legal.specs.ListsPaths.{AreKeptLines, IsKeptName, ListsPaths}
use Rattle.hgs_legal.proofs.ListCommits.{added, all-tame, grows-by, grows-by-all, kept-next, text-behind, used-still}
use Rattle.hgs_legal.proofs.ListLines.{front-whole, whole-fewer}
use Rattle.hgs_legal.proofs.ListOps.{AreHarmless, AreTame, does-harmless, does-tame, harmless-front, is_harmless, is_tame, list_of, tame-front}
use Rattle.hgs_legal.proofs.ListSettles.{settles, undoes as undo-harmless}

-- ---- fewer bytes and fewer changesets

-- the changesets use these paths at least
abbrev pub UsesMore : List Changeset → List Changeset → Type 0
UsesMore less more = (path : List ℕ) → uses less path ≡ true → uses more path ≡ true

pub kept-front : (changesets : List Changeset) (front text : List ℕ) → IsPrefixOf front text → AreKeptLines changesets text → AreKeptLines changesets front
kept-front changesets front text p h = front-whole (IsKeptName changesets) front p.0 (subst (AreKeptLines changesets) p.1 h)

pub kept-fewer : (less more : List Changeset) (text : List ℕ) → UsesMore less more → AreKeptLines more text → AreKeptLines less text
kept-fewer less more text m h = whole-fewer (IsKeptName more) (IsKeptName less) (λ name k. (k.0, λ path ext used is. k.1 path ext (m path used) is)) (lines_of text) h

-- ---- what holds of the tree in each state

-- With these operations done, which only append to the list, it has kept names of the next repository.
pub record IsComing (x : Turn) (r : Repo) (ops : List Op) (u : Tree) : Type 0 where
  pub tame : AreTame ops
  pub lines : AreKeptLines x.next.changesets (list_of (after_all ops u))
  pub more : UsesMore r.changesets x.next.changesets

-- what comes behind the publishing operation, and what undoes it, is harmless
pub record IsSettled (x : Turn) : Type 0 where
  pub settles : AreHarmless (through_removal x.ops)
  pub undoes : AreHarmless x.ops.undo

abbrev pub Kept : Doing → Tree → Repo → Type 0
Kept (Idle left rest) u r = AreKeptLines r.changesets (list_of u)
Kept (Refused left creation rest) u r = AreKeptLines r.changesets (list_of u) × AreHarmless creation
Kept (Preparing x left) u r = IsComing x r (left ++ through_publishing x.ops) u × IsSettled x
Kept (Working x left) u r = IsComing x r left u × IsSettled x
Kept (Published x left) u r = AreKeptLines r.changesets (list_of u) × AreHarmless left
Kept (Undoing left) u r = AreKeptLines r.changesets (list_of u) × AreHarmless left

-- ---- a transaction begins

abbrev WholeOf : Transaction → List Op
WholeOf ops = ops.before ++ through_publishing ops

same-changesets : (t : Tree) (r next : Repo) → ListsPaths t r → next.changesets ≡ r.changesets → AreKeptLines next.changesets (list_of t ++ []) × UsesMore r.changesets next.changesets
same-changesets t r next lists e = (
  subst (λ (cs : List Changeset). AreKeptLines cs (list_of t ++ [])) (sym e) (subst (AreKeptLines r.changesets) (sym (append-nil (list_of t))) lists.lines),
  λ path used. ap (λ (cs : List Changeset). uses cs path) e ∙ used,
)

pub coming-as : (t : Tree) (r next : Repo) (command : Command) (answer : Answer) → Stands t r → ListsPaths t r → IsValid command → step r command ≡ Ok (next, answer) → IsReady t r command next → AreKeptLines next.changesets (list_of t ++ added r command next) × UsesMore r.changesets next.changesets
coming-as t r next (Commit n) answer s lists valid e ready =
    let f = grows-by t r next n answer s valid e ready.0 in
    (kept-next t r next f lists ready.1.paths, λ path used. used-still r next f.goes_on path used)
coming-as t r next (Import changes) answer s lists valid e ready =
    let f = grows-by-all t r next changes answer s valid e ready.0 in
    (kept-next t r next f lists ready.1.paths, λ path used. used-still r next f.goes_on path used)
coming-as t r next (Move rev phase force) answer s lists valid e ready = same-changesets t r next lists (ap (λ (q : Repo). q.changesets) (step_move-did r rev (phase_number phase) force next answer s.repository e).is)
coming-as t r next (Mark name rev) answer s lists valid e ready = same-changesets t r next lists (ap (λ (q : Repo). q.changesets) (step_mark-did r name rev next answer s.repository e).is)
coming-as t r next (Unmark name) answer s lists valid e ready = same-changesets t r next lists (ap (λ (q : Repo). q.changesets) (step_unmark-did r name next answer e))

pub coming : (t : Tree) (r : Repo) (x : Turn) → Stands t r → ListsPaths t r → IsTurn t r x → IsComing x r (WholeOf x.ops) t
coming t r x s lists it =
    let k = coming-as t r x.next x.command x.answer s lists it.valid it.accepted it.ready in
    record {
      tame = subst (λ (ops : Transaction). AreTame (WholeOf ops)) (sym it.listed) (all-tame t r x.command x.who x.next);
      lines = subst (λ (ops : Transaction). AreKeptLines x.next.changesets (list_of (after_all (WholeOf ops) t))) (sym it.listed) (subst (AreKeptLines x.next.changesets) (sym (text-behind t r x.command x.who x.next)) k.0);
      more = k.1;
    }

pub settled : (t : Tree) (r : Repo) (x : Turn) → IsTurn t r x → IsSettled x
settled t r x it = record {
  settles = subst (λ (ops : Transaction). AreHarmless (through_removal ops)) (sym it.listed) (settles t r x.command x.who x.next);
  undoes = subst (λ (ops : Transaction). AreHarmless ops.undo) (sym it.listed) (undo-harmless t r x.command x.who x.next);
}

-- ---- one operation of it

pub coming-now : (x : Turn) (r : Repo) (ops : List Op) (u : Tree) → IsComing x r ops u → AreKeptLines r.changesets (list_of u)
coming-now x r ops u c = kept-fewer r.changesets x.next.changesets (list_of u) c.more (kept-front x.next.changesets (list_of u) (list_of (after_all ops u)) (tame-front ops u c.tame) c.lines)

-- one operation of a list, with more to come behind
pub coming-does : (x : Turn) (r : Repo) (ops left rest : List Op) (op : Op) (u : Tree) → IsComing x r (ops ++ rest) u → Does ops op left → IsComing x r (left ++ rest) (apply op u)
coming-does x r ops left rest op u c d = record {
  tame = all-append is_tame left rest (does-tame ops left op (front-tame ops rest c.tame) d).1 (back-tame ops rest c.tame);
  lines = subst (λ (t : Tree). AreKeptLines x.next.changesets (list_of t)) (after_all-append ops rest u ∙ ap (after_all rest) (sym (after-does ops left op u d)) ∙ sym (after_all-append left rest (apply op u))) c.lines;
  more = c.more;
}
  where
    front-tame : (xs ys : List Op) → AreTame (xs ++ ys) → AreTame xs
    front-tame [] ys h = refl
    front-tame (y ∷ xs) ys h = and-both _ _ (and-left _ _ h) (front-tame xs ys (and-right (is_tame y) _ h))

    back-tame : (xs ys : List Op) → AreTame (xs ++ ys) → AreTame ys
    back-tame [] ys h = h
    back-tame (y ∷ xs) ys h = back-tame xs ys (and-right (is_tame y) _ h)

pub coming-one : (x : Turn) (r : Repo) (ops left : List Op) (op : Op) (u : Tree) → IsComing x r ops u → Does ops op left → IsComing x r left (apply op u)
coming-one x r ops left op u c d =
    subst (λ (l : List Op). IsComing x r l (apply op u)) (append-nil left) (coming-does x r ops left [] op u (subst (λ (l : List Op). IsComing x r l u) (sym (append-nil ops)) c) d)

pub harmless-kept : (changesets : List Changeset) (op : Op) (u : Tree) → is_harmless op ≡ true → AreKeptLines changesets (list_of u) → AreKeptLines changesets (list_of (apply op u))
harmless-kept changesets op u e h = kept-front changesets (list_of (apply op u)) (list_of u) (harmless-front op u e) h

-- ---- a writer leaves

leaves-kept : (d d' : Doing) (u : Tree) (r : Repo) → Leaves d d' → Kept d u r → Kept d' u r
leaves-kept d _ u r stays k = k
leaves-kept _ _ u r (gives_up {x = x} {left = left}) k = coming-now x r (left ++ through_publishing x.ops) u k.0
leaves-kept _ _ u r (breaks {x = x} {op = op} {left = left}) k = coming-now x r (op ∷ left) u k.0
leaves-kept _ _ u r breaks_after k = k.0
leaves-kept _ _ u r breaks_undo k = k.0
leaves-kept _ _ u r is_refused k = k.0

-- ---- one operation

last-kept : (x : Turn) (r : Repo) (left : List Op) (u : Tree) → IsComing x r left u → IsSettled x → Kept (worked x left) u (last_repo r (newly x left))
last-kept x r [] u c s = (c.lines, s.settles)
last-kept x r (op ∷ left) u c s = (c, s)

finished-kept : (x : Turn) (r : Repo) (left : List Op) (u : Tree) → AreKeptLines r.changesets (list_of u) → AreHarmless left → Kept (finished x left) u r
finished-kept x r [] u k h = k
finished-kept x r (op ∷ left) u k h = (k, h)

undone-kept : (r : Repo) (left : List Op) (u : Tree) → AreKeptLines r.changesets (list_of u) → AreHarmless left → Kept (undone left) u r
undone-kept r [] u k h = k
undone-kept r (op ∷ left) u k h = (k, h)

acts-kept : (d : Doing) (u : Tree) (r : Repo) (op : Op) (news : List Turn) (d' : Doing) → Acts u r d op news d' → StandsIdle d u r → Kept d u r → Kept d' (apply op u) (last_repo r news)
acts-kept _ u r op _ _ (begins {x = x} {left = left} it does) s k = (coming-does x r x.ops.before left (through_publishing x.ops) op u (coming u r x s (record { lines = k }) it) does, settled u r x it)
acts-kept _ u r op _ _ (prepares {x = x} {to_do = to_do} {left = left} does) s k = (coming-does x r to_do left (through_publishing x.ops) op u k.0 does, k.1)
acts-kept _ u r op _ _ (journals {x = x} {left = left} does) s k = (coming-one x r (through_publishing x.ops) left op u k.0 does, k.1)
acts-kept _ u r op _ _ (works {x = x} {to_do = to_do} left does) s k = last-kept x r left (apply op u) (coming-one x r to_do left op u k.0 does) k.1
acts-kept _ u r op _ _ (finishes {x = x} {to_do = to_do} left does) s k =
    let h = does-harmless to_do left op k.1 does in
    finished-kept x r left (apply op u) (harmless-kept r.changesets op u h.0 k.0) h.1
acts-kept _ u r op _ _ (undoes {x = x} {o = o} {rest = rest} left does) s k =
    let h = does-harmless x.ops.undo left op k.1.undoes does in
    undone-kept r left (apply op u) (harmless-kept r.changesets op u h.0 (coming-now x r (o ∷ rest) u k.0)) h.1
acts-kept _ u r op _ _ (goes_on_undoing {to_do = to_do} left does) s k =
    let h = does-harmless to_do left op k.1 does in
    undone-kept r left (apply op u) (harmless-kept r.changesets op u h.0 k.0) h.1
acts-kept _ u r _ _ _ (removes {path = path} skipped e) s k = harmless-kept r.changesets (Remove path) u refl k
acts-kept _ u r op _ _ (knocks {creation = creation} who does) s k =
    let h = does-harmless (Create wlock_path who ∷ []) creation op refl does in
    (harmless-kept r.changesets op u h.0 k, h.1)
acts-kept _ u r op _ _ (knocks_again {creation = creation} who does) s k =
    let h = does-harmless (Create lock_path who ∷ []) creation op refl does in
    (harmless-kept r.changesets op u h.0 k.0, h.1)
acts-kept _ u r op _ _ (goes_on_knocking {to_do = to_do} {creation = creation} does) s k =
    let h = does-harmless to_do creation op k.1 does in
    (harmless-kept r.changesets op u h.0 k.0, h.1)

-- ---- runs

abbrev pub KeptAt : State → Type 0
KeptAt s = Kept s.doing s.files (current s)

pub last-append : (r : Repo) (ps more : List Turn) → last_repo r (ps ++ more) ≡ last_repo (last_repo r ps) more
last-append r [] more = refl
last-append r (p ∷ ps) more = last-append p.next ps more

goes-kept : (s : State) (op : Op) (s' : State) (go : Goes s op s') → StandsIdle go.there s.files (current s) → KeptAt s → KeptAt s'
goes-kept s op s' go idle k =
    let next = acts-kept go.there s.files (current s) op go.news s'.doing go.acts idle (leaves-kept s.doing go.there s.files (current s) go.leaves k) in
    let now : current s' ≡ last_repo (current s) go.news = ap (λ (f : Repo). last_repo f s'.published) go.first ∙ ap (last_repo s.first) go.published ∙ last-append s.first s.published go.news in
    subst (λ (u : Tree). Kept s'.doing u (current s')) (sym go.files) (subst (λ (r : Repo). Kept s'.doing (apply op s.files) r) (sym now) next)

module _ (safe : Safe) (files : (t : Tree) (r : Repo) (log : List Op) (s : State) → IsRun t r log s → s.files ≡ after_all log t) (t : Tree) (r : Repo) (stands : Stands t r) where
  run-from : (front : List Op) (s : State) → IsRun t r front s → KeptAt s → (rest : List Op) (s' : State) → Run s rest s' → KeptAt s'
  run-from front s run k [] s' h = subst KeptAt h k
  run-from front s run k (op ∷ rest) s' h =
      run-from (front ++ op ∷ []) h.0 (run-join Goes (start_of t r) front (op ∷ []) s h.0 run (h.0, h.1, refl))
      (goes-kept s op h.0 h.1
      (idle-stands s.doing h.1.there s.first s.published s.files h.1.leaves (subst (λ (u : Tree). StopsAt s.doing u (repo_at s (acknowledged_of s))) (sym (files t r front s run)) (safe t r front s stands run))) k)
      rest s' h.2

  state-lines : (d : Doing) (u : Tree) (q : Repo) → Kept d u q → AreKeptLines q.changesets (list_of u)
  state-lines (Idle left rest) u q k = k
  state-lines (Refused left creation rest) u q k = k.0
  state-lines (Preparing x left) u q k = coming-now x q (left ++ through_publishing x.ops) u k.0
  state-lines (Working x left) u q k = coming-now x q left u k.0
  state-lines (Published x left) u q k = k.0
  state-lines (Undoing left) u q k = k.0

  pub run-lines : (log : List Op) (s : State) → IsRun t r log s → ListsPaths t r → AreKeptLines (current s).changesets (list_of (after_all log t))
  run-lines log s run lists =
      subst (λ (u : Tree). AreKeptLines (current s).changesets (list_of u)) (files t r log s run)
      (state-lines s.doing s.files (current s) (run-from [] (start_of t r) refl lists.lines log s run))
