-- Writers whose turns meet the tests of limits keep repositories within them.
use Rattle.std.proofs.Common.{◌≡◌, ◌≤◌, ℕ, suc, zero, List, [], ◌∷◌, ◌++◌, length, drop, take, refl, sym, ◌∙◌, ap, subst}
use Rattle.std.specs.Prelude.{Err, None, Ok, Result, map}
use Rattle.std.specs.List.{AllByRecursion, FoldsTo}
use Rattle.hgs_bytes.specs.Bytes.{IsPrefixOf}
use Rattle.hgs_files.specs.declared.op.Op.{Op}
use Rattle.hgs_files.specs.Tree.{Tree, after_all}
use Rattle.hgs_index.specs.Revision.{Parents, Revision}
use Rattle.hgs_load.specs.Marks.{most_bookmarks}
use Rattle.hgs_model.specs.declared.command.Command.{Command}
use Rattle.hgs_model.specs.declared.command.Command.TheVariants.{Commit, Import, Mark, Move, Unmark}
use Rattle.hgs_model.specs.declared.files.NewFile.{NewFile}
use Rattle.hgs_model.specs.History.{History, history, no_history}
use Rattle.hgs_model.specs.Phase.{phase_number}
use Rattle.hgs_model.specs.Repo.{Changeset, Repo, TreeFile}
use Rattle.hgs_model.specs.Step.{Answer, new_changeset, new_file, step, step_commit, steps_from, ◌>>=◌}
use Rattle.hgs_model.specs.Step.{Next as Told}
use Rattle.hgs_model.specs.Theorems.ListLemmas.{all-join, all-push}
use Rattle.hgs_model.specs.Theorems.NewChangesetLemmas.{Committed, commit-keeps, step_commit-did}
use Rattle.hgs_model.specs.Theorems.StepLemmas.{step_mark-did, step_move-did, step_unmark-did}
use Rattle.hgs_model.specs.Valid.{IsNewChange, IsValid}
use Rattle.hgs_model.specs.IsRepo.{IsRepo}
use Rattle.hgs_model.specs.declared.command.NewChange.{NewChange}
use Rattle.hgs_model.specs.declared.command.Refusal.{Refusal}
use Rattle.hgs_model.specs.declared.command.Refusal.TheVariants.{NothingChanged}
use Rattle.hgs_model.specs.Theorems.HistoryLemmas.{Extends, history_from-append, history_from-extends}
use Rattle.hgs_model.specs.Theorems.ImportLemmas.{import-gone}
use Rattle.hgs_ops.specs.Theorems.GrowLemmas.{drop-front}
use Rattle.hgs_ops.specs.Unhindered.{AreNewRevisions, IsReady}
use Rattle.hgs_revlog.specs.Load.{most_text}
use Rattle.hgs_shown.specs.Limits.{IsSmallTree}
use Rattle.hgs_stands.specs.Stands.{Stands}
use Rattle.hgs_legal.specs.LegalLog.{Acts, Doing, Goes, Idle, IsRun, IsTurn, Leaves, Preparing, Run, State, Turn, Working, begins, breaks, breaks_after, breaks_undo, current, finished, finishes, gives_up, goes_on_knocking, goes_on_undoing, is_refused, journals, knocks, knocks_again, last_repo, newly, prepares, removes, start_of, stays, undoes, undone, worked, works}
use Rattle.hgs_legal.specs.Numbers.{StopsAt, acknowledged_of, repo_at}
use Rattle.hgs_legal.specs.Theorems.Idle.{Safe, StandsIdle, idle-stands}
use Rattle.hgs_legal.specs.Theorems.Runs.{run-join}
use Rattle.hgs_kept.specs.Within.{AreFew, AreFewBehind, AreShort, GoesBy, IsCounted, IsRunBy, IsWithin}

-- ---- one command

-- what the laws below say of lists that grow
pub record Grows : Type 0 where
  pub changelog : (changesets : List Changeset) (c : Changeset) → IsPrefixOf (history changesets).changelog (history (changesets ++ c ∷ [])).changelog
  pub manifest : (changesets : List Changeset) (c : Changeset) → IsPrefixOf (history changesets).manifest (history (changesets ++ c ∷ [])).manifest
  pub filelogs : (changesets : List Changeset) (c : Changeset) (path : List ℕ) → IsPrefixOf ((history changesets).filelog path) ((history (changesets ++ c ∷ [])).filelog path)

short-all : (old all : List Revision) → IsPrefixOf old all → AreNewRevisions old all → AreShort old → AreShort all
short-all old all p new short =
    subst AreShort (sym p.1) (all-join (λ (r : Revision). length r.text ≤ most_text) old p.0 short (subst AreShort (ap (drop (length old)) p.1 ∙ drop-front old p.0) new.texts))

small-bodies : (h : History) (parents : Parents) (files : List NewFile) → AllByRecursion (λ (f : NewFile). length f.body ≤ 16777216) files → AllByRecursion (λ (f : TreeFile). length f.body ≤ 16777216) (map (new_file h parents) files)
small-bodies h parents [] all = tt
small-bodies h parents (f ∷ files) all = (all.0, small-bodies h parents files all.1)

same-length : (h : History) (parents : Parents) (files : List NewFile) → length (map (new_file h parents) files) ≡ length files
same-length h parents [] = refl
same-length h parents (f ∷ files) = ap suc (same-length h parents files)

within-same : (r next : Repo) → IsWithin r → next.changesets ≡ r.changesets → length next.bookmarks ≤ most_bookmarks → IsWithin next
within-same r next w e few = record {
  bookmarks = few;
  few = subst (λ (cs : List Changeset). AreFew (history cs)) (sym e) w.few;
  changelog = subst (λ (cs : List Changeset). AreShort (history cs).changelog) (sym e) w.changelog;
  manifest = subst (λ (cs : List Changeset). AreShort (history cs).manifest) (sym e) w.manifest;
  filelogs = λ path. subst (λ (cs : List Changeset). AreShort ((history cs).filelog path)) (sym e) (w.filelogs path);
  trees = subst (λ (cs : List Changeset). AllByRecursion (λ (c : Changeset). IsSmallTree c.tree) cs) (sym e) w.trees;
}

-- the trees of the changesets that commits add have few files
commit-trees : (r next : Repo) (n : NewChange) (answer : Answer) → IsRepo r → IsNewChange n → step_commit r n ≡ Ok (next, answer) → AllByRecursion (λ (c : Changeset). IsSmallTree c.tree) r.changesets → AllByRecursion (λ (c : Changeset). IsSmallTree c.tree) next.changesets
commit-trees r next n answer is valid e small =
    let did = step_commit-did r n next answer is e in
    let c = new_changeset (history r.changesets) did.parents n in
    subst (λ (cs : List Changeset). AllByRecursion (λ (c : Changeset). IsSmallTree c.tree) cs) (sym (ap (λ (q : Repo). q.changesets) did.is))
    (all-push (λ (c : Changeset). IsSmallTree c.tree) r.changesets c small
    (record { files = subst (λ k. k ≤ 20000) (sym (same-length (history r.changesets) did.parents n.files)) valid.count; bodies = small-bodies (history r.changesets) did.parents n.files valid.bodies }))

steps-trees : (next : Told) (changes : List NewChange) (done : Told) → IsRepo next.0 → AllByRecursion IsNewChange changes → steps_from next changes ≡ Ok done → AllByRecursion (λ (c : Changeset). IsSmallTree c.tree) next.0.changesets → AllByRecursion (λ (c : Changeset). IsSmallTree c.tree) done.0.changesets
steps-trees next [] done is valid e small = subst (λ (p : Told). AllByRecursion (λ (c : Changeset). IsSmallTree c.tree) p.0.changesets) (same-next e) small
  where
    same-next : {a b : Told} → ◌≡◌ {A = Result Told Refusal} (Ok a) (Ok b) → a ≡ b
    same-next h = cc
steps-trees next (n ∷ changes) done is valid e small = by (λ after h k. steps-trees after changes done k valid.1 h) (step_commit next.0 n) refl e
  where
    by : ((after : Told) → steps_from after changes ≡ Ok done → IsRepo after.0 → AllByRecursion (λ (c : Changeset). IsSmallTree c.tree) after.0.changesets → AllByRecursion (λ (c : Changeset). IsSmallTree c.tree) done.0.changesets)
        → (o : Result Told Refusal) → step_commit next.0 n ≡ o → (o >>= λ after. steps_from after changes) ≡ Ok done → AllByRecursion (λ (c : Changeset). IsSmallTree c.tree) done.0.changesets
    by rec (Err why) c h = absurd (no_case h)
      where
        no_case : ◌≡◌ {A = Result Told Refusal} (Err why) (Ok done) → ⊥
        no_case k = cc
    by rec (Ok after) c h = rec after h (commit-keeps next.0 n after.0 after.1 is valid.0 c) (commit-trees next.0 after.0 n after.1 is valid.0 c small)

import-trees : (r next : Repo) (changes : List NewChange) (answer : Answer) → IsRepo r → AllByRecursion IsNewChange changes → step r (Import changes) ≡ Ok (next, answer) → AllByRecursion (λ (c : Changeset). IsSmallTree c.tree) r.changesets → AllByRecursion (λ (c : Changeset). IsSmallTree c.tree) next.changesets
import-trees r next [] answer is valid e small = absurd (no_case e)
  where
    no_case : ◌≡◌ {A = Result Told Refusal} (Err (NothingChanged 0)) (Ok (next, answer)) → ⊥
    no_case k = cc
import-trees r next (n ∷ changes) answer is valid e small = steps-trees (r, answer) (n ∷ changes) (next, answer) is valid e small

within-next : Grows → (t : Tree) (r next : Repo) (command : Command) (answer : Answer) → Stands t r → IsWithin r → IsValid command → step r command ≡ Ok (next, answer) → IsReady t r command next → length next.bookmarks ≤ most_bookmarks → AreFewBehind command next → IsWithin next
within-next g t r next (Commit n) answer s w valid e ready marks few = record {
  bookmarks = marks;
  few = few;
  changelog = short-all (history r.changesets).changelog (history next.changesets).changelog (subst (λ (cs : List Changeset). IsPrefixOf (history r.changesets).changelog (history cs).changelog) (sym is) (g.changelog r.changesets c)) ready.0.changelog w.changelog;
  manifest = short-all (history r.changesets).manifest (history next.changesets).manifest (subst (λ (cs : List Changeset). IsPrefixOf (history r.changesets).manifest (history cs).manifest) (sym is) (g.manifest r.changesets c)) ready.0.manifest w.manifest;
  filelogs = λ path. short-all ((history r.changesets).filelog path) ((history next.changesets).filelog path) (subst (λ (cs : List Changeset). IsPrefixOf ((history r.changesets).filelog path) ((history cs).filelog path)) (sym is) (g.filelogs r.changesets c path)) (ready.0.filelogs path) (w.filelogs path);
  trees = subst (λ (cs : List Changeset). AllByRecursion (λ (c : Changeset). IsSmallTree c.tree) cs) (sym is) (all-push (λ (c : Changeset). IsSmallTree c.tree) r.changesets c w.trees small);
}
  where
    did : Committed r n next
    did = step_commit-did r n next answer s.repository e

    c : Changeset
    c = new_changeset (history r.changesets) did.parents n

    is : next.changesets ≡ r.changesets ++ c ∷ []
    is = ap (λ (q : Repo). q.changesets) did.is

    small : IsSmallTree c.tree
    small = record { files = subst (λ k. k ≤ 20000) (sym (same-length (history r.changesets) did.parents n.files)) valid.count; bodies = small-bodies (history r.changesets) did.parents n.files valid.bodies }
within-next g t r next (Import changes) answer s w valid e ready marks few = record {
  bookmarks = marks;
  few = few;
  changelog = short-all (history r.changesets).changelog (history next.changesets).changelog more.changelog ready.0.changelog w.changelog;
  manifest = short-all (history r.changesets).manifest (history next.changesets).manifest more.manifest ready.0.manifest w.manifest;
  filelogs = λ path. short-all ((history r.changesets).filelog path) ((history next.changesets).filelog path) (more.filelogs path) (ready.0.filelogs path) (w.filelogs path);
  trees = import-trees r next changes answer s.repository valid.each e w.trees;
}
  where
    goes : IsPrefixOf r.changesets next.changesets
    goes = (import-gone r changes (next, answer) valid.each e).changesets

    more : Extends (history r.changesets) (history next.changesets)
    more = subst (λ (h : History). Extends (history r.changesets) h) (sym (ap (λ (cs : List Changeset). history cs) goes.1 ∙ history_from-append no_history r.changesets goes.0)) (history_from-extends (history r.changesets) goes.0)
within-next g t r next (Move rev phase force) answer s w valid e ready marks few = within-same r next w (ap (λ (q : Repo). q.changesets) (step_move-did r rev (phase_number phase) force next answer s.repository e).is) marks
within-next g t r next (Mark name rev) answer s w valid e ready marks few = within-same r next w (ap (λ (q : Repo). q.changesets) (step_mark-did r name rev next answer s.repository e).is) marks
within-next g t r next (Unmark name) answer s w valid e ready marks few = within-same r next w (ap (λ (q : Repo). q.changesets) (step_unmark-did r name next answer e)) marks

-- ---- runs

-- What each turn keeps from a tree that stands, a run keeps for all its repositories.
module _ (N : Repo → Type 0) (Meets : Tree → Repo → Turn → Type 0) (keeps : (t : Tree) (r : Repo) (x : Turn) → Stands t r → N r → IsTurn t r x → Meets t r x → N x.next) where
  abbrev Coming : Doing → Type 0
  Coming (Preparing x left) = N x.next
  Coming (Working x left) = N x.next
  Coming _ = Unit {0}

  abbrev Holds : State → Type 0
  Holds s = N s.first × AllByRecursion (λ (x : Turn). N x.next) s.published × Coming s.doing

  now : (f : Repo) (ps : List Turn) → N f → AllByRecursion (λ (x : Turn). N x.next) ps → N (last_repo f ps)
  now f [] n all = n
  now f (x ∷ ps) n all = now x.next ps all.0 all.1

  pub some-repo : (f : Repo) (ps : List Turn) (i : ℕ) → N f → AllByRecursion (λ (x : Turn). N x.next) ps → N (last_repo f (take i ps))
  some-repo f ps zero n all = n
  some-repo f [] (suc i) n all = n
  some-repo f (x ∷ ps) (suc i) n all = some-repo x.next ps i all.0 all.1

  leaves-coming : (d d' : Doing) → Leaves d d' → Coming d → Coming d'
  leaves-coming d _ stays n = n
  leaves-coming _ _ gives_up n = tt
  leaves-coming _ _ breaks n = tt
  leaves-coming _ _ breaks_after n = tt
  leaves-coming _ _ breaks_undo n = tt
  leaves-coming _ _ is_refused n = tt

  abbrev Next : Doing → List Turn → Type 0
  Next d news = AllByRecursion (λ (x : Turn). N x.next) news × Coming d

  worked-next : (x : Turn) (left : List Op) → N x.next → Next (worked x left) (newly x left)
  worked-next x [] n = ((n, tt), tt)
  worked-next x (op ∷ left) n = (tt, n)

  finished-next : (x : Turn) (left : List Op) → Next (finished x left) []
  finished-next x [] = (tt, tt)
  finished-next x (op ∷ left) = (tt, tt)

  undone-next : (left : List Op) → Next (undone left) []
  undone-next [] = (tt, tt)
  undone-next (op ∷ left) = (tt, tt)

  acts-next : (d : Doing) (u : Tree) (r : Repo) (op : Op) (news : List Turn) (d' : Doing) → Acts u r d op news d' → N r → StandsIdle d u r → ((x : Turn) (left rest : List Op) → d ≡ Idle None rest → d' ≡ Preparing x left → Meets u r x) → Coming d → Next d' news
  acts-next _ u r op _ _ (begins {rest = rest} {x = x} {left = left} it does) n s met k = (tt, keeps u r x s n it (met x left rest refl refl))
  acts-next _ u r op _ _ (prepares does) n s met k = (tt, k)
  acts-next _ u r op _ _ (journals does) n s met k = (tt, k)
  acts-next _ u r op _ _ (works {x = x} left does) n s met k = worked-next x left k
  acts-next _ u r op _ _ (finishes {x = x} left does) n s met k = finished-next x left
  acts-next _ u r op _ _ (undoes left does) n s met k = undone-next left
  acts-next _ u r op _ _ (goes_on_undoing left does) n s met k = undone-next left
  acts-next _ u r _ _ _ (removes skipped e) n s met k = (tt, tt)
  acts-next _ u r op _ _ (knocks who does) n s met k = (tt, tt)
  acts-next _ u r op _ _ (knocks_again who does) n s met k = (tt, tt)
  acts-next _ u r op _ _ (goes_on_knocking does) n s met k = (tt, tt)

  goes-holds : (s : State) (op : Op) (s' : State) (go : GoesBy Meets s op s') → StandsIdle go.goes.there s.files (current s) → Holds s → Holds s'
  goes-holds s op s' go idle h =
      let next = acts-next go.goes.there s.files (current s) op go.goes.news s'.doing go.goes.acts (now s.first s.published h.0 h.1) idle go.met (leaves-coming s.doing go.goes.there go.goes.leaves h.2) in (
        subst N (sym go.goes.first) h.0,
        subst (AllByRecursion (λ (x : Turn). N x.next)) (sym go.goes.published) (all-join (λ (x : Turn). N x.next) s.published go.goes.news h.1 next.0),
        next.1,
      )

  module _ (safe : Safe) (files : (t : Tree) (r : Repo) (log : List Op) (s : State) → IsRun t r log s → s.files ≡ after_all log t) (t : Tree) (r : Repo) (stands : Stands t r) where
    run-holds : (front : List Op) (s : State) → IsRun t r front s → Holds s → (rest : List Op) (s' : State) → FoldsTo (GoesBy Meets) s rest s' → Holds s'
    run-holds front s run k [] s' h = subst Holds h k
    run-holds front s run k (op ∷ rest) s' h =
        run-holds (front ++ op ∷ []) h.0 (run-join Goes (start_of t r) front (op ∷ []) s h.0 run (h.0, h.1.goes, refl))
        (goes-holds s op h.0 h.1
        (idle-stands s.doing h.1.goes.there s.first s.published s.files h.1.goes.leaves (subst (λ (u : Tree). StopsAt s.doing u (repo_at s (acknowledged_of s))) (sym (files t r front s run)) (safe t r front s stands run))) k)
        rest s' h.2

    pub all-hold : (log : List Op) (s : State) (i : ℕ) → N r → IsRunBy Meets t r log s → N (repo_at s i)
    all-hold log s i n run = let h = run-holds [] (start_of t r) refl (n, tt, tt) log s run in some-repo s.first s.published i h.0 h.1

-- a run whose turns meet a test is a run
pub plain-run : (Meets : Tree → Repo → Turn → Type 0) (s : State) (log : List Op) (s' : State) → FoldsTo (GoesBy Meets) s log s' → Run s log s'
plain-run Meets s [] s' h = h
plain-run Meets s (op ∷ log) s' h = (h.0, h.1.goes, plain-run Meets h.0 log s' h.2)

pub turn-within : Grows → (t : Tree) (r : Repo) (x : Turn) → Stands t r → IsWithin r → IsTurn t r x → IsCounted t r x → IsWithin x.next
turn-within g t r x s w it counted = within-next g t r x.next x.command x.answer s w it.valid it.accepted it.ready counted.bookmarks counted.revisions

-- what one test says of a turn another may say
module _ (Meets Others : Tree → Repo → Turn → Type 0) (says : (t : Tree) (r : Repo) (x : Turn) → IsTurn t r x → Meets t r x → Others t r x) where
  begun-turn : (t : Tree) (r : Repo) (op : Op) (news : List Turn) (d d' : Doing) (x : Turn) (left rest : List Op) → Acts t r d op news d' → d ≡ Idle None rest → d' ≡ Preparing x left → IsTurn t r x
  begun-turn t r op news d d' x left rest acts e f = by acts e f
    where
      by : {d d' : Doing} {op : Op} {news : List Turn} → Acts t r d op news d' → d ≡ Idle None rest → d' ≡ Preparing x left → IsTurn t r x
      by (begins {x = y} it does) e f = subst (IsTurn t r) (let g : y ≡ x = cc in g) it
      by (prepares does) e f = cc
      by (journals does) e f = cc
      by (works left does) e f = cc
      by (finishes left does) e f = cc
      by (undoes left does) e f = cc
      by (goes_on_undoing left does) e f = cc
      by (removes skipped e) h f = cc
      by (knocks who does) e f = cc
      by (knocks_again who does) e f = cc
      by (goes_on_knocking does) e f = cc

  pub says-run : (s : State) (log : List Op) (s' : State) → FoldsTo (GoesBy Meets) s log s' → FoldsTo (GoesBy Others) s log s'
  says-run s [] s' h = h
  says-run s (op ∷ log) s' h =
      let go = h.1 in (
        h.0,
        record { goes = go.goes; met = λ x left rest e f. says s.files (current s) x (begun-turn s.files (current s) op go.goes.news go.goes.there h.0.doing x left rest go.goes.acts e f) (go.met x left rest e f) },
        says-run h.0 log s' h.2,
      )
