-- A tree stands for at most one repository.
use Rattle.std.proofs.Common.{◌≡◌, ℕ, suc, ◌<◌, List, [], ◌∷◌, true, false, length, map, refl, sym, ◌∙◌, ap, subst, arith, take}
use Rattle.std.specs.Prelude.{Option, Some, None, Result, Ok, Err, IfSome, slice_get}
use Rattle.std.specs.List.{AllByRecursion}
use Rattle.hgs_bytes.specs.Bytes.{among}
use Rattle.hgs_files.specs.Tree.{Tree, bytes_at}
use Rattle.hgs_index.specs.Node.{null_node}
use Rattle.hgs_index.specs.Revision.{parent_node}
use Rattle.hgs_index.specs.Revlog.{all_different}
use Rattle.hgs_marks.specs.Bookmarks.{Mark, mark_lines, with_marks}
use Rattle.hgs_marks.specs.Dirstate.{Dirstate, read_dirstate}
use Rattle.hgs_marks.specs.declared.fault.MarkFault.{MarkFault}
use Rattle.hgs_model.specs.History.{EachChangeset, history, no_history, uses, changeset_nodes}
use Rattle.hgs_model.specs.IsRepo.{IsNextChangeset, IsRepo}
use Rattle.hgs_model.specs.Phase.{phase_number}
use Rattle.hgs_model.specs.Repo.{Repo, Changeset, Bookmark}
use Rattle.hgs_path.specs.declared.name.Ext.TheVariants.{I, D}
use Rattle.hgs_path.specs.StoreName.{store_name}
use Rattle.hgs_phases.specs.declared.roots.Root.{Root}
use Rattle.hgs_phases.specs.declared.fault.RootsFault.{RootsFault}
use Rattle.hgs_phases.specs.Phases.{phases_by}
use Rattle.hgs_phases.specs.Roots.{read_roots}
use Rattle.hgs_stands.specs.Places.{bookmarks_path, dirstate_path, roots_path, changelog_index, changelog_data, manifest_index, manifest_data}
use Rattle.hgs_stands.specs.Stands.{HoldsChangesets, HasPhases, HasBookmarks, HasDirstate, Stands, changeset_entries, mark_of}
use Rattle.hgs_stands.specs.Theorems.Below.{HistoryLaws, TextLaws}
use Rattle.hgs_stands.specs.Theorems.Lower as lower
use Rattle.hgs_stands.proofs.ChangesetLemmas.{SameLogs, changeset-same}
use Rattle.hgs_stands.specs.Theorems.Basics.{never}

-- ---- the changesets

lists-same : {A : Type 0} (xs ys : List A) → length xs ≡ length ys → ((i : ℕ) (x y : A) → slice_get xs i ≡ Some x → slice_get ys i ≡ Some y → x ≡ y) → xs ≡ ys
lists-same [] [] e f = refl
lists-same [] (y ∷ ys) e f = absurd (omega (arith, e))
lists-same (x ∷ xs) [] e f = absurd (omega (arith, e))
lists-same (x ∷ xs) (y ∷ ys) e f = λ i. f 0 x y refl refl i ∷ lists-same xs ys (omega (arith, e)) (λ n a b p q. f (suc n) a b p q) i

pub changesets-same : (texts : TextLaws) (laws : HistoryLaws) (t : Tree) (xs ys : List Changeset) → EachChangeset IsNextChangeset no_history xs → EachChangeset IsNextChangeset no_history ys → HoldsChangesets t xs → HoldsChangesets t ys → xs ≡ ys
changesets-same texts laws t xs ys next_x next_y a b = lists-same xs ys counts each
  where
    changelog : (history xs).changelog ≡ (history ys).changelog
    changelog = texts.either_once (bytes_at t changelog_index) (bytes_at t changelog_data) (history xs).changelog (history ys).changelog a.changelog b.changelog

    manifest : (history xs).manifest ≡ (history ys).manifest
    manifest = texts.either_once (bytes_at t manifest_index) (bytes_at t manifest_data) (history xs).manifest (history ys).manifest a.manifest b.manifest

    logs : SameLogs (history xs).filelog (history ys).filelog (uses xs) (uses ys)
    logs = record {
      same_log = λ path used used_there. texts.either_once (bytes_at t (store_name path I)) (bytes_at t (store_name path D)) ((history xs).filelog path) ((history ys).filelog path) (a.filelogs path used) (b.filelogs path used_there);
      different = λ path used. (a.filelogs path used).different;
    }

    counts : length xs ≡ length ys
    counts = sym (laws.count xs next_x) ∙ ap length changelog ∙ laws.count ys next_y

    each : (rev : ℕ) (c d : Changeset) → slice_get xs rev ≡ Some c → slice_get ys rev ≡ Some d → c ≡ d
    each rev c d p q = changeset-same texts laws (history (take rev xs)) (history xs) (history (take rev ys)) (history ys) rev c d (uses xs) (uses ys) logs changelog manifest a.manifest.different
        (laws.used xs rev c p) (laws.used ys rev d q) (laws.held xs next_x rev c p) (laws.held ys next_y rev d q)

-- ---- phases

roots-same : (text : List ℕ) (a b : List Root) → read_roots text ≡ Ok a → read_roots text ≡ Ok b → a ≡ b
roots-same text a b x y = ok-same (sym x ∙ y)
  where
    ok-same : ◌≡◌ {A = Result (List Root) RootsFault} (Ok a) (Ok b) → a ≡ b
    ok-same h = ap (λ o. elim o [ Ok z ↦ z | Err w ↦ a ]) h

pub phases-same : (t : Tree) (r s : Repo) → r.changesets ≡ s.changesets → HasPhases t r → HasPhases t s → r.phases ≡ s.phases
phases-same t r s e a b =
    sym a.phases ∙ ap (λ x. map phase_number (phases_by x (changeset_entries r.changesets))) (roots-same (bytes_at t roots_path) a.roots b.roots a.text b.text)
    ∙ ap (λ x. map phase_number (phases_by b.roots (changeset_entries x))) e ∙ b.phases

-- ---- bookmarks

lines-same : (text : List ℕ) (a b : List Mark) → mark_lines text ≡ Ok a → mark_lines text ≡ Ok b → a ≡ b
lines-same text a b x y = ok-same (sym x ∙ y)
  where
    ok-same : ◌≡◌ {A = Result (List Mark) MarkFault} (Ok a) (Ok b) → a ≡ b
    ok-same h = ap (λ o. elim o [ Ok z ↦ z | Err w ↦ a ]) h

marks-same : (texts : TextLaws) (known : List (List ℕ)) (xs ys : List Bookmark) → all_different known ≡ true → AllByRecursion (λ (m : Bookmark). m.rev < length known) xs → AllByRecursion (λ (m : Bookmark). m.rev < length known) ys
    → map (mark_of known) xs ≡ map (mark_of known) ys → xs ≡ ys
marks-same texts known [] [] d a b e = refl
marks-same texts known [] (y ∷ ys) d a b e = absurd (omega (arith, ap length e))
marks-same texts known (x ∷ xs) [] d a b e = absurd (omega (arith, ap length e))
marks-same texts known (x ∷ xs) (y ∷ ys) d a b e =
    let first : mark_of known x ≡ mark_of known y = ap (λ l. elim l [ [] ↦ mark_of known x | z ∷ zs ↦ z ]) e in
    let rest : map (mark_of known) xs ≡ map (mark_of known) ys = ap (λ l. elim l [ [] ↦ map (mark_of known) xs | z ∷ zs ↦ zs ]) e in
    let rev : x.rev ≡ y.rev = texts.one_place known x.rev y.rev d a.0 b.0 (ap (λ (m : Mark). m.node) first) in
    λ i. record { name = (first i).name; rev = rev i } ∷ marks-same texts known xs ys d a.1 b.1 rest i

-- ---- how many changesets there are

nodes-count : (texts : TextLaws) (laws : HistoryLaws) (r : Repo) → IsRepo r → length (changeset_nodes r.changesets) ≡ length r.changesets
nodes-count texts laws r is = texts.counted (history r.changesets).changelog ∙ laws.count r.changesets is.changesets

-- the same changesets have as many nodes
there-count : (texts : TextLaws) (laws : HistoryLaws) (r s : Repo) → IsRepo r → r.changesets ≡ s.changesets → length s.changesets ≡ length (changeset_nodes r.changesets)
there-count texts laws r s is e = ap length (sym e) ∙ sym (nodes-count texts laws r is)

pub bookmarks-same : (texts : TextLaws) (laws : HistoryLaws) (t : Tree) (r s : Repo) → IsRepo r → IsRepo s → r.changesets ≡ s.changesets → all_different (changeset_nodes r.changesets) ≡ true → HasBookmarks t r → HasBookmarks t s → r.bookmarks ≡ s.bookmarks
bookmarks-same texts laws t r s is there e different a b =
    marks-same texts (changeset_nodes r.changesets) r.bookmarks s.bookmarks different
    (subst (λ n. AllByRecursion (λ (m : Bookmark). m.rev < n) r.bookmarks) (sym (nodes-count texts laws r is)) is.marks)
    (subst (λ n. AllByRecursion (λ (m : Bookmark). m.rev < n) s.bookmarks) (there-count texts laws r s is e) there.marks)
    (sym a.marks ∙ ap (with_marks []) (lines-same (bytes_at t bookmarks_path) a.lines b.lines a.text b.text) ∙ b.marks ∙ ap (λ l. map (mark_of l) s.bookmarks) (ap changeset_nodes (sym e)))

-- ---- working parents

working-same : (texts : TextLaws) (known : List (List ℕ)) (a b : Option ℕ) → all_different known ≡ true → among null_node known ≡ false → IfSome a (λ rev. rev < length known) → IfSome b (λ rev. rev < length known) → parent_node known a ≡ parent_node known b → a ≡ b
working-same texts known None None d n x y e = refl
working-same texts known None (Some j) d n x y e = never (sym (ap (λ z. among z known) e ∙ texts.among_known known j y) ∙ n)
working-same texts known (Some i) None d n x y e = never (sym (ap (λ z. among z known) (sym e) ∙ texts.among_known known i x) ∙ n)
working-same texts known (Some i) (Some j) d n x y e = ap Some (texts.one_place known i j d x y e)

dirstate-same : (text : List ℕ) (a b : Dirstate) → read_dirstate text ≡ Ok a → read_dirstate text ≡ Ok b → a ≡ b
dirstate-same text a b x y = ok-same (sym x ∙ y)
  where
    ok-same : ◌≡◌ {A = Result Dirstate MarkFault} (Ok a) (Ok b) → a ≡ b
    ok-same h = ap (λ o. elim o [ Ok z ↦ z | Err w ↦ a ]) h

pub working-parents-same : (texts : TextLaws) (laws : HistoryLaws) (t : Tree) (r s : Repo) → IsRepo r → IsRepo s → r.changesets ≡ s.changesets → all_different (changeset_nodes r.changesets) ≡ true → among null_node (changeset_nodes r.changesets) ≡ false → HasDirstate t r → HasDirstate t s
    → r.working ≡ s.working
working-parents-same texts laws t r s is there e different none a b = λ i. (first i, second i)
  where
    nodes_are : changeset_nodes s.changesets ≡ changeset_nodes r.changesets
    nodes_are = ap changeset_nodes (sym e)

    dirstate : a.dirstate ≡ b.dirstate
    dirstate = dirstate-same (bytes_at t dirstate_path) a.dirstate b.dirstate a.text b.text

    here : (o : Option ℕ) → IfSome o (λ rev. rev < length r.changesets) → IfSome o (λ rev. rev < length (changeset_nodes r.changesets))
    here o lt = subst (λ m. IfSome o (λ rev. rev < m)) (sym (nodes-count texts laws r is)) lt

    over : (o : Option ℕ) → IfSome o (λ rev. rev < length s.changesets) → IfSome o (λ rev. rev < length (changeset_nodes r.changesets))
    over o lt = subst (λ m. IfSome o (λ rev. rev < m)) (there-count texts laws r s is e) lt

    first : r.working.0 ≡ s.working.0
    first = working-same texts (changeset_nodes r.changesets) r.working.0 s.working.0 different none (here r.working.0 is.first_working) (over s.working.0 there.first_working)
        (sym a.first ∙ ap (λ (d : Dirstate). d.p1) dirstate ∙ b.first ∙ ap (λ l. parent_node l s.working.0) nodes_are)

    second : r.working.1 ≡ s.working.1
    second = working-same texts (changeset_nodes r.changesets) r.working.1 s.working.1 different none (here r.working.1 is.second_working) (over s.working.1 there.second_working)
        (sym a.second ∙ ap (λ (d : Dirstate). d.p2) dirstate ∙ b.second ∙ ap (λ l. parent_node l s.working.1) nodes_are)

-- ---- the whole

pub stands-once : (texts : TextLaws) (laws : HistoryLaws) (t : Tree) (r s : Repo) → Stands t r → Stands t s → r ≡ s
stands-once texts laws t r s a b = λ i. record { changesets = changesets i; phases = phases i; bookmarks = bookmarks i; working = working i }
  where
    changesets : r.changesets ≡ s.changesets
    changesets = changesets-same texts laws t r.changesets s.changesets a.repository.changesets b.repository.changesets a.revlogs b.revlogs

    phases : r.phases ≡ s.phases
    phases = phases-same t r s changesets a.phases b.phases

    bookmarks : r.bookmarks ≡ s.bookmarks
    bookmarks = bookmarks-same texts laws t r s a.repository b.repository changesets a.revlogs.changelog.different a.bookmarks b.bookmarks

    working : r.working ≡ s.working
    working = working-parents-same texts laws t r s a.repository b.repository changesets a.revlogs.changelog.different a.revlogs.changelog.not_null a.dirstate b.dirstate

pub stands-same : (t : Tree) (r s : Repo) → Stands t r → Stands t s → r ≡ s
stands-same = stands-once lower.texts lower.histories
