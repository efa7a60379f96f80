-- A load over files that stand for a repository.
use Rattle.std.proofs.Common.{◌≡◌, ℕ, ◌/◌, ◌<◌, ◌≤◌, List, [], Bool, true, false, cond, nat_lt, length, map, Ok, Err, refl, sym, ◌∙◌, ap, subst, arith, append-nil, None, Result, Option, Some, length-append}
use Rattle.std.specs.Prelude.{IfSome, slice_index_or}
use Rattle.std.proofs.lemmas.Bool.Decides.{nat_tests}
use Rattle.std.proofs.lemmas.List.{length-map}
use Rattle.hgs_bytes.specs.Bytes.{among}
use Rattle.hgs_files.specs.Tree.{Tree, bytes_at}
use Rattle.hgs_index.specs.declared.kinds.Which.TheVariants as limits
use Rattle.hgs_index.specs.Inline.{entries_in, is_inline, without_inline}
use Rattle.hgs_index.specs.Revision.{Revision, nodes, parent_node}
use Rattle.hgs_index.specs.declared.entry.Entry.{Entry}
use Rattle.hgs_index.specs.Revlog.{BeginsWithRevisions, all_different}
use Rattle.hgs_model.specs.History.{first_of, history, changeset_nodes, parents_in}
use Rattle.hgs_model.specs.IsRepo.{IsRepo}
use Rattle.hgs_model.specs.Repo.{Repo, Changeset}
use Rattle.hgs_phases.specs.Phases.{history_of, phases_by}
use Rattle.hgs_revlog.specs.declared.fault.RevFault.{RevFault}
use Rattle.hgs_revlog.specs.declared.fault.Tail.TheVariants.{Ignore}
use Rattle.hgs_revlog.specs.Held.{Agrees, AreWithinLimits, read_all}
use Rattle.hgs_revlog.specs.Load.{in_form, loaded_either, most_revisions}
use Rattle.hgs_revlog.specs.Log.{Log, nodes_of}
use Rattle.hgs_load.specs.declared.answer.ReadAnswer.TheVariants.{Limit}
use Rattle.hgs_load.specs.declared.answer.ReadAnswer.{ReadAnswer}
use Rattle.hgs_load.specs.Asks.{at_rest}
use Rattle.hgs_load.specs.Form.{either_log_of, most_inline_index}
use Rattle.hgs_load.specs.Marks.{most_bookmarks, marks_answer, nodes_answer, roots_of, parent_answer, both_parents, working_answer}
use Rattle.hgs_load.specs.Open.{requires_path, most_requires, requires_asks, bookmarks_asks, dirstate_asks, log_asks, roots_asks, open_asks}
use Rattle.hgs_load.specs.Refresh.{first_changed, refresh_asks}
use Rattle.hgs_load.specs.Requirements.{requires_answer, requirement_answer, first_lacking, known_requirements, needed_requirements, words_of}
use Rattle.hgs_load.specs.View.{View, changelog_index, changelog_data, log_answer}
use Rattle.hgs_stands.specs.Requires.{IsInProfile}
use Rattle.hgs_stands.specs.Stands.{HoldsAt, Stands, mark_of}
use Rattle.hgs_stands.specs.Shows.{BeginsAt, Shows}
use Rattle.hgs_stands.specs.Theorems.FormLemmas.{apart-begins, apart-held}
use Rattle.hgs_index.specs.Node.{null_node}
use Rattle.hgs_bytes.specs.Bytes.{IsPrefixOf}
use Rattle.std.proofs.lemmas.List.{get_or_append_left}
use Rattle.hgs_shown.specs.Limits.{OpensWithin}
use Rattle.hgs_shown.specs.Shown.{IsViewOf, IsViewOver, chunks_of_changelog, index_of_changelog, working_nodes}
use Rattle.hgs_shown.proofs.PieceLemmas.{none-found}
use Rattle.hgs_shown.proofs.PlaceLemmas.{parent-read}
use Rattle.hgs_shown.specs.Below.{Below}

-- ---- each file

pub requires-read : (laws : Below) (t : Tree) → IsInProfile t → length (bytes_at t requires_path) ≤ most_requires → at_rest t requires_asks ≡ Ok tt
requires-read laws t p few =
    laws.requires_file t few
    ∙ ap requires_answer p.there
    ∙ ap (λ o. requirement_answer (first_of o (first_lacking (words_of p.text)))) (none-found (λ word. among word known_requirements) (words_of p.text) p.known)
    ∙ ap requirement_answer (none-found (λ word. among word (words_of p.text)) needed_requirements p.whole)

not_above : (most n : ℕ) → n ≤ most → nat_lt most n ≡ false
not_above most n h = grind (arith, nat_tests, h)

pub bookmarks-read : (laws : Below) (t : Tree) (marked worked r : Repo) → Shows t marked worked r → OpensWithin t marked r → at_rest t bookmarks_asks ≡ Ok (map (mark_of (changeset_nodes marked.changesets)) marked.bookmarks)
bookmarks-read laws t marked worked r s w =
    let known = changeset_nodes marked.changesets in
    laws.bookmarks_file t w.bookmarks_text
    ∙ ap marks_answer s.bookmarks
    ∙ ap (λ b. cond b (Err (Limit limits.Bookmarks)) (Ok (map (mark_of known) marked.bookmarks)))
    (not_above most_bookmarks (length (map (mark_of known) marked.bookmarks)) (let n = length-map marked.bookmarks (mark_of known) in let few = w.bookmarks in omega (arith, n, few)))

pub dirstate-read : (laws : Below) (t : Tree) (marked worked r : Repo) → Shows t marked worked r → OpensWithin t marked r → at_rest t dirstate_asks ≡ Ok (working_nodes worked)
dirstate-read laws t marked worked r s w =
    laws.dirstate_file t w.dirstate
    ∙ ap nodes_answer s.working.text
    ∙ (λ i. Ok (s.working.first i, s.working.second i))

pub roots-read : (laws : Below) (t : Tree) (marked worked r : Repo) (s : Shows t marked worked r) → OpensWithin t marked r → at_rest t roots_asks ≡ Ok s.phases.roots
roots-read laws t marked worked r s w = laws.roots_file t w.roots ∙ ap roots_of s.phases.text

-- ---- the changelog

-- the index loads as entries of these revisions, whose texts are read
pub record Loads (t : Tree) (revisions : List Revision) (log : Log) : Type 0 where
  pub nodes_are : nodes_of log.entries ≡ nodes revisions
  pub parents_are : history_of log.entries ≡ parents_in revisions
  pub texts : read_all log.entries (chunks_of_changelog t) ≡ Ok revisions
  pub loads : loaded_either Ignore (bytes_at t changelog_index) ≡ Ok log
  pub form : log.inline ≡ is_inline (bytes_at t changelog_index)

abbrev AgreesFront : Tree → List Revision → Log → Type 0
AgreesFront t revisions log = (begins : BeginsWithRevisions (index_of_changelog t) (chunks_of_changelog t) revisions) × Agrees begins.index_front begins.data_front log.entries revisions

-- the index is read in its form
log-asked : (laws : Below) (t : Tree) → length (index_of_changelog t) / 64 ≤ most_revisions → (is_inline (bytes_at t changelog_index) ≡ true → length (bytes_at t changelog_index) ≤ most_inline_index) → at_rest t log_asks ≡ either_log_of (bytes_at t changelog_index)
log-asked laws t few most = by (is_inline index) refl few
  where
    index : List ℕ
    index = bytes_at t changelog_index

    by : (b : Bool) → is_inline index ≡ b → length (cond b (without_inline (entries_in (length index) index)) index) / 64 ≤ most_revisions → at_rest t log_asks ≡ either_log_of index
    by true e n = laws.inline_file t e (most e)
    by false e n = laws.index_file t e n ∙ ap (log_answer changelog_index) (sym (laws.separate_form Ignore index e))

-- the history of an index whose separate one loads as this
abbrev in_its_form : Tree → Log → Log
in_its_form t log = record { inline = is_inline (bytes_at t changelog_index); entries = log.entries }

log-over : (laws : Below) (t : Tree) (revisions : List Revision) → BeginsAt t changelog_index changelog_data revisions → length revisions ≡ length (index_of_changelog t) / 64 → AreWithinLimits revisions (chunks_of_changelog t)
    → (is_inline (bytes_at t changelog_index) ≡ true → length (bytes_at t changelog_index) ≤ most_inline_index) → (log : Log) × (at_rest t log_asks ≡ Ok log) × Loads t revisions log × AgreesFront t revisions log
log-over laws t revisions begin whole within most =
    let index = bytes_at t changelog_index in
    let begins = apart-begins index (bytes_at t changelog_data) revisions begin in
    let h = laws.loads (index_of_changelog t) (chunks_of_changelog t) revisions begins whole within in
    let loads : loaded_either Ignore index ≡ Ok (in_its_form t h.0) = ap (in_form (is_inline index)) h.1 in
    let few = within.few in (
      in_its_form t h.0,
      log-asked laws t (omega (arith, whole, few)) most ∙ ap (log_answer changelog_index) loads,
      record { nodes_are = laws.entry_nodes begins.index_front begins.data_front h.0.entries revisions h.3; parents_are = laws.entry_parents begins.index_front begins.data_front h.0.entries revisions h.3; texts = h.2; loads = loads; form = refl },
      (begins, h.3),
    )

-- over bytes that hold nothing else the entries are those of the whole index
log-whole : (laws : Below) (t : Tree) (revisions : List Revision) (log : Log) → HoldsAt t changelog_index changelog_data revisions → AreWithinLimits revisions (chunks_of_changelog t) → loaded_either Ignore (bytes_at t changelog_index) ≡ Ok log
    → Agrees (index_of_changelog t) (chunks_of_changelog t) log.entries revisions
log-whole laws t revisions log held within loads =
    let index = bytes_at t changelog_index in
    let h = laws.loads_whole (index_of_changelog t) (chunks_of_changelog t) revisions (apart-held index (bytes_at t changelog_data) revisions held) within in
    subst (λ (l : Log). Agrees (index_of_changelog t) (chunks_of_changelog t) l.entries revisions) (log-is (in_its_form t h.0) log (sym (ap (in_form (is_inline index)) h.1) ∙ loads)) h.2
  where
    log-is : (x y : Log) → (let a : Result Log RevFault = Ok x in a) ≡ Ok y → x ≡ y
    log-is x y e = cc

-- ---- the nodes of a history that goes on

pub parent-goes-on : (known all : List (List ℕ)) (o : Option ℕ) → IsPrefixOf known all → IfSome o (λ rev. rev < length known) → parent_node known o ≡ parent_node all o
parent-goes-on known all None p lt = refl
parent-goes-on known all (Some rev) p lt = sym (ap (λ l. slice_index_or l rev null_node) p.1 ∙ get_or_append_left known p.0 null_node rev lt)

pub below-all : (known all : List (List ℕ)) (o : Option ℕ) → IsPrefixOf known all → IfSome o (λ rev. rev < length known) → IfSome o (λ rev. rev < length all)
below-all known all None p lt = tt
below-all known all (Some rev) p lt = omega (arith, lt, ap length p.1, length-append known p.0)

-- the working parents of a repository whose history went on are found among the nodes of the later one
pub working-read : (laws : Below) (entries : List Entry) (worked r : Repo) → IsRepo worked → IsPrefixOf worked.changesets r.changesets → nodes_of entries ≡ changeset_nodes r.changesets → all_different (changeset_nodes r.changesets) ≡ true → among null_node (changeset_nodes r.changesets) ≡ false
    → working_answer entries (working_nodes worked) ≡ Ok worked.working
working-read laws entries worked r is goes_on nodes_are different none =
    let known = changeset_nodes r.changesets in
    let old = changeset_nodes worked.changesets in
    let count : length worked.changesets ≡ length old = sym (laws.counted (history worked.changesets).changelog ∙ laws.count worked is) in
    let front = laws.nodes_go_on worked.changesets r.changesets goes_on in
    let first_low = subst (λ n. IfSome worked.working.0 (λ rev. rev < n)) count is.first_working in
    let second_low = subst (λ n. IfSome worked.working.1 (λ rev. rev < n)) count is.second_working in
    let first = ap (parent_answer entries) (parent-goes-on old known worked.working.0 front first_low) ∙ parent-read laws entries known worked.working.0 nodes_are different none (below-all old known worked.working.0 front first_low) in
    let second = ap (parent_answer entries) (parent-goes-on old known worked.working.1 front second_low) ∙ parent-read laws entries known worked.working.1 nodes_are different none (below-all old known worked.working.1 front second_low) in
    ap (λ x. both_parents x (parent_answer entries (parent_node old worked.working.1))) first ∙ ap (both_parents (Ok worked.working.0)) second

-- ---- the view

-- a view of what is shown, whose changelog's texts are read
pub record IsOpened (t : Tree) (marked worked r : Repo) (view : View) : Type 0 where
  pub answered : at_rest t open_asks ≡ Ok view
  pub loads : Loads t (history r.changesets).changelog view.changelog
  pub is_view : IsViewOver view t marked worked r
  pub refreshed : (old : View) → first_changed 0 old.changelog.entries view.changelog.entries ≡ None → (old.changelog.inline ≡ false → view.changelog.inline ≡ false) → at_rest t (refresh_asks old) ≡ Ok view

pub opened : (laws : Below) (t : Tree) (marked worked r : Repo) → Shows t marked worked r → IsRepo r → IsRepo worked → IsPrefixOf worked.changesets r.changesets → OpensWithin t marked r → (view : View) × IsOpened t marked worked r view
opened laws t marked worked r s is working_is goes_on w =
    let revisions = (history r.changesets).changelog in
    let marks = map (mark_of (changeset_nodes marked.changesets)) marked.bookmarks in
    let whole : length revisions ≡ length (index_of_changelog t) / 64 = laws.count r is ∙ s.revlogs.whole in
    let l = log-over laws t revisions s.revlogs.changelog whole w.changelog w.inline_index in
    let log = l.0 in
    let working = working-read laws log.entries worked r working_is goes_on l.2.nodes_are s.revlogs.changelog.held.different s.revlogs.changelog.held.not_null in (
      record { changelog = log; bookmarks = marks; working = worked.working; phases = phases_by s.phases.roots log.entries },
      record {
        answered = laws.opened t marks (working_nodes worked) log s.phases.roots worked.working (requires-read laws t s.requires w.requires) (bookmarks-read laws t marked worked r s w) (dirstate-read laws t marked worked r s w) l.1 (roots-read laws t marked worked r s w) working;
        loads = l.2;
        is_view = record { begins = l.3.0; entries = l.3.1; bookmarks = refl; working = refl; phases = laws.phases r log.entries s.phases.roots r.phases is l.2.nodes_are (l.2.parents_are ∙ laws.parents r is) s.phases.phases };
        refreshed = λ before unchanged same. laws.refreshed t before marks (working_nodes worked) log s.phases.roots worked.working (bookmarks-read laws t marked worked r s w) (dirstate-read laws t marked worked r s w) l.1 (roots-read laws t marked worked r s w) working unchanged same;
      },
    )

pub shown-over : (laws : Below) (t : Tree) (marked worked r : Repo) → Shows t marked worked r → IsRepo r → IsRepo worked → IsPrefixOf worked.changesets r.changesets → OpensWithin t marked r → (view : View) × (at_rest t open_asks ≡ Ok view) × IsViewOver view t marked worked r
shown-over laws t marked worked r s is working_is goes_on w = let o = opened laws t marked worked r s is working_is goes_on w in (o.0, o.1.answered, o.1.is_view)

-- ---- over files at rest

no-more : (xs : List Changeset) → IsPrefixOf xs xs
no-more xs = ([], sym (append-nil xs))

pub standing : (laws : Below) (t : Tree) (r : Repo) → Stands t r → OpensWithin t r r → (view : View) × IsOpened t r r r view
standing laws t r s w = opened laws t r r r (laws.shows t r s) s.repository s.repository (no-more r.changesets) w

pub ok-is : (x y : View) → (let a : Result View ReadAnswer = Ok x in a) ≡ Ok y → x ≡ y
ok-is x y e = cc

pub shown-again : (laws : Below) (t : Tree) (r : Repo) (old view : View) → Stands t r → OpensWithin t r r → at_rest t open_asks ≡ Ok view → first_changed 0 old.changelog.entries view.changelog.entries ≡ None → (old.changelog.inline ≡ false → view.changelog.inline ≡ false) → at_rest t (refresh_asks old) ≡ Ok view
shown-again laws t r old view s w answered none same =
    let o = standing laws t r s w in
    let is : o.0 ≡ view = ok-is o.0 view (sym o.1.answered ∙ answered) in
    o.1.refreshed old (ap (λ (v : View). first_changed 0 old.changelog.entries v.changelog.entries) is ∙ none) (λ was. ap (λ (v : View). v.changelog.inline) is ∙ same was) ∙ ap (λ v. let a : Result View ReadAnswer = Ok v in a) is

pub shown : (laws : Below) (t : Tree) (r : Repo) → Stands t r → OpensWithin t r r → (view : View) × (at_rest t open_asks ≡ Ok view) × IsViewOf view t r
shown laws t r s w =
    let o = standing laws t r s w in
    let v = o.1.is_view in (
      o.0,
      o.1.answered,
      record {
        entries = log-whole laws t (history r.changesets).changelog o.0.changelog s.revlogs.changelog w.changelog o.1.loads.loads;
        bookmarks = v.bookmarks;
        working = v.working;
        phases = v.phases;
      },
    )
