-- After the operations of a commit or an import the tree stands for the next repository, and is clean.
use Rattle.std.proofs.Common.{◌≡◌, ℕ, ◌+◌, ◌<◌, List, [], ◌∷◌, ◌++◌, Bool, true, false, cond, ◌||◌, not, length, drop, map, refl, sym, ◌∙◌, ap, subst, inl, inr}
use Rattle.std.specs.Prelude.{Option, Some, None, Result, Ok, Err, is_some, flat_map, unwrap_or, if◌then◌else◌}
use Rattle.std.specs.List.{AllByRecursion, list_all}
use Rattle.hgs_bytes.specs.Bytes.{IsPrefixOf, same, among}
use Rattle.hgs_bytes.specs.Text.{line}
use Rattle.hgs_bytes.specs.Theorems.ByteLemmas.{same-eq}
use Rattle.hgs_files.specs.declared.op.Op.{Op}
use Rattle.hgs_files.specs.declared.op.Op.TheVariants.{Append}
use Rattle.hgs_files.specs.Tree.{Tree, after_all, bytes_at}
use Rattle.hgs_index.specs.declared.entry.Entry.{Entry}
use Rattle.hgs_index.specs.Node.{null_node}
use Rattle.hgs_index.specs.Revision.{ParentsBefore, Revision, nodes, nodes_from}
use Rattle.hgs_index.specs.Revlog.{Item, Stored, chunk_of, items_from}
use Rattle.hgs_index.specs.TrackedPath.{is_tracked}
use Rattle.hgs_index.specs.Theorems.RevisionLemmas.{nodes-append}
use Rattle.hgs_index.specs.Theorems.RevlogLemmas.{chunks_of, items_from-append, map-append}
use Rattle.hgs_journal.specs.Texts.{journal_text}
use Rattle.hgs_marks.specs.Bookmarks.{Mark, mark_lines}
use Rattle.hgs_model.specs.declared.command.NewChange.{NewChange}
use Rattle.hgs_model.specs.declared.command.Command.TheVariants.{Commit, Import}
use Rattle.hgs_model.specs.declared.phase.Phase.{Phase}
use Rattle.hgs_model.specs.declared.phase.Phase.TheVariants.{Public, Draft, Secret}
use Rattle.hgs_model.specs.History.{History, changeset_nodes, history, no_history}
use Rattle.hgs_model.specs.IsRepo.{IsRepo}
use Rattle.hgs_model.specs.Phase.{phase_number}
use Rattle.hgs_model.specs.Repo.{Bookmark, Changeset, Repo, paths_at, tracked_paths}
use Rattle.hgs_model.specs.Step.{Answer, sets_bookmark, step}
use Rattle.hgs_model.specs.Valid.{IsNewChange, IsValid}
use Rattle.hgs_model.specs.Theorems.BeforeLemmas.{changelog-parents}
use Rattle.hgs_model.specs.Theorems.HistoryLemmas.{history_from-append, history_from-extends}
use Rattle.hgs_model.specs.Theorems.ImportLemmas.{commit-gone, import-gone}
use Rattle.hgs_model.specs.Theorems.NewChangesetLemmas.{commit-keeps, import-keeps}
use Rattle.hgs_model.specs.Theorems.StepLemmas.{length-changeset_nodes}
use Rattle.hgs_phases.specs.declared.fault.RootsFault.{RootsFault}
use Rattle.hgs_phases.specs.declared.roots.Root.{Root}
use Rattle.hgs_phases.specs.Phases.{history_of, phases_by}
use Rattle.hgs_phases.specs.Printed.{written_roots}
use Rattle.hgs_phases.specs.Roots.{read_roots}
use Rattle.hgs_phases.specs.Theorems.WrittenLemmas.{written_read, written_same}
use Rattle.hgs_revlog.specs.Log.{nodes_of}
use Rattle.hgs_stands.specs.Places.{bookmarks_path, roots_path, fncache_path, changelog_index, changelog_data, manifest_index, manifest_data}
use Rattle.hgs_stands.specs.Stands.{HasBookmarks, HasPhases, IsClean, Stands, changeset_entries, entries_of, mark_of}
use Rattle.hgs_stands.specs.Theorems.PhaseLemmas.{entries-nodes, entries-parents}
use Rattle.hgs_ops.specs.Growth.{append_some, filelogs_grow, growth, grown, new_changelog_entry, new_chunks, new_items, new_names, new_paths}
use Rattle.hgs_ops.specs.Operations.{backups_of, journal_of, operations, transaction_of}
use Rattle.hgs_ops.specs.Replaced.{new_bookmarks, new_dirstate, phase_numbered, roots_change, roots_of}
use Rattle.hgs_ops.specs.Unhindered.{IsUnhindered}
use Rattle.hgs_ops.specs.Theorems.Touch.{touched, touched-append, all-append, bool, never, and-left, and-right, and-both}
use Rattle.hgs_ops.specs.Theorems.Apart.{fixed, among-part}
use Rattle.hgs_ops.specs.Theorems.CommitTree.{quiet, is_quiet, CommitLeaves, commit-leaves, is_append}
use Rattle.hgs_ops.specs.Theorems.ImportTree.{import-leaves}
use Rattle.hgs_ops.specs.Theorems.FileGrowth.{filelogs-appends, filelogs-touched, touched-some, some-appends, grown-appends, grown-touched}
use Rattle.hgs_ops.specs.Theorems.NodeLemmas.{have-nodes, is-changelog}
use Rattle.hgs_ops.specs.Theorems.RootsLemmas.{are-phases, is_known, numbers-back, phases-low, written-known, written-phases}
use Rattle.hgs_ops.specs.Theorems.RootsStay.{or-front, phases-many, roots-known}
use Rattle.hgs_ops.specs.Theorems.SmallLemmas.{HasName, mark-names, written-bookmarks, written-dirstate}
use Rattle.hgs_ops.specs.Theorems.StandsCommit.{GrowthFacts, not-stores, filelog-stands, manifest-stands, changelog-stands, names-stand, fncache-stands, requires-untouched, trees-tracked}

-- ---- the growth

not-in : (a q : List ℕ) → is_quiet a ≡ false → is_quiet q ≡ true → same a q ≡ false
not-in a q e g = elim (bool (same a q)) [
  | inl h ↦ never (sym g ∙ ap is_quiet (sym (same-eq a q h)) ∙ e)
  | inr h ↦ h
]

quiet-fixed : (q : List ℕ) → is_quiet q ≡ true → among q fixed ≡ true
quiet-fixed q e = elim (bool (among q fixed)) [
  | inl h ↦ h
  | inr h ↦ never (sym e ∙ among-part quiet fixed q refl h)
]

-- the four parts of the growth
abbrev pub part_files : Tree → Repo → Repo → List Op
part_files t r next = filelogs_grow t (history r.changesets).filelog (history next.changesets).filelog (new_paths r next)

abbrev pub part_lines : Repo → Repo → List ℕ
part_lines r next = flat_map line (new_names (history r.changesets).filelog (history next.changesets).filelog (new_paths r next))

abbrev pub part_manifest : Tree → Repo → Repo → List Op
part_manifest t r next = grown false t manifest_index manifest_data (history r.changesets).manifest (history next.changesets).manifest

abbrev pub part_data : Tree → Repo → Repo → List ℕ
part_data t r next = new_chunks (new_items (length (bytes_at t changelog_data)) (history r.changesets).changelog (drop (length (history r.changesets).changelog) (history next.changesets).changelog))

four-touched : (q : List ℕ) (a b c d : List Op) → touched q a ≡ false → touched q b ≡ false → touched q c ≡ false → touched q d ≡ false → touched q (a ++ b ++ c ++ d) ≡ false
four-touched q a b c d x y z w = touched-append q (a ++ b ++ c) d (touched-append q (a ++ b) c (touched-append q a b x y) z) w

four-append : (a b c d : List Op) → list_all is_append a ≡ true → list_all is_append b ≡ true → list_all is_append c ≡ true → list_all is_append d ≡ true → list_all is_append (a ++ b ++ c ++ d) ≡ true
four-append a b c d x y z w = all-append is_append (a ++ b ++ c) d (all-append is_append (a ++ b) c (all-append is_append a b x y) z) w

-- the growth touches no quiet path, and only appends
pub growth-quiet : (t : Tree) (r next : Repo) (q : List ℕ) → is_quiet q ≡ true → touched q (growth t r next) ≡ false
growth-quiet t r next q e =
    four-touched q (part_files t r next) (append_some fncache_path (part_lines r next)) (part_manifest t r next) (append_some changelog_data (part_data t r next))
    (filelogs-touched t (history r.changesets).filelog (history next.changesets).filelog (new_paths r next) q (not-stores q (quiet-fixed q e) (new_paths r next)))
    (touched-some q fncache_path (part_lines r next) (not-in fncache_path q refl e))
    (grown-touched false t manifest_index manifest_data q (history r.changesets).manifest (history next.changesets).manifest (not-in manifest_index q refl e) (not-in manifest_data q refl e))
    (touched-some q changelog_data (part_data t r next) (not-in changelog_data q refl e))

pub growth-appends : (t : Tree) (r next : Repo) → list_all is_append (growth t r next) ≡ true
growth-appends t r next =
    four-append (part_files t r next) (append_some fncache_path (part_lines r next)) (part_manifest t r next) (append_some changelog_data (part_data t r next))
    (filelogs-appends t (history r.changesets).filelog (history next.changesets).filelog (new_paths r next)) (some-appends fncache_path (part_lines r next))
    (grown-appends false t manifest_index manifest_data (history r.changesets).manifest (history next.changesets).manifest) (some-appends changelog_data (part_data t r next))

-- nor the changelog's index
pub growth-index : (t : Tree) (r next : Repo) → touched changelog_index (growth t r next) ≡ false
growth-index t r next =
    four-touched changelog_index (part_files t r next) (append_some fncache_path (part_lines r next)) (part_manifest t r next) (append_some changelog_data (part_data t r next))
    (filelogs-touched t (history r.changesets).filelog (history next.changesets).filelog (new_paths r next) changelog_index (not-stores changelog_index refl (new_paths r next)))
    (touched-some changelog_index fncache_path (part_lines r next) refl)
    (grown-touched false t manifest_index manifest_data changelog_index (history r.changesets).manifest (history next.changesets).manifest refl refl)
    (touched-some changelog_index changelog_data (part_data t r next) refl)

-- ---- bookmarks

-- the nodes of the changesets with the new ones
pub nodes-more : (r next : Repo) → IsPrefixOf r.changesets next.changesets → IsPrefixOf (changeset_nodes r.changesets) (changeset_nodes next.changesets)
nodes-more r next behind =
    let more = (history_from-extends (history r.changesets) behind.0).changelog in
    let p = nodes-append (history r.changesets).changelog more.0 in
    (p.0, ap nodes (ap (λ (l : List Changeset). (history l).changelog) behind.1 ∙ ap (λ (x : History). x.changelog) (history_from-append no_history r.changesets behind.0) ∙ more.1) ∙ p.1)

more-nodes : (t : Tree) (r next : Repo) → GrowthFacts t r next → IsPrefixOf (changeset_nodes r.changesets) (changeset_nodes next.changesets)
more-nodes t r next f = nodes-more r next f.goes_on

among-more : (x : List ℕ) (xs ys : List (List ℕ)) → among x xs ≡ true → among x (xs ++ ys) ≡ true
among-more x [] ys e = never (sym e)
among-more x (y ∷ xs) ys e = by (same x y) (among-more x xs ys) e
  where
    by : (z : Bool) → (among x xs ≡ true → among x (xs ++ ys) ≡ true) → (z || among x xs) ≡ true → (z || among x (xs ++ ys)) ≡ true
    by true rec g = refl
    by false rec g = rec g

lines-known : (known more : List (List ℕ)) (marks : List Mark) → list_all (λ (m : Mark). among m.node known) marks ≡ true → list_all (λ (m : Mark). among m.node (known ++ more)) marks ≡ true
lines-known known more [] e = refl
lines-known known more (m ∷ marks) e = and-both _ _ (among-more m.node known more (and-left _ _ e)) (lines-known known more marks (and-right (among m.node known) _ e))

pub marks-same : (known more : List (List ℕ)) (marks : List Bookmark) → AllByRecursion (λ (m : Bookmark). m.rev < length known) marks → map (mark_of (known ++ more)) marks ≡ map (mark_of known) marks
marks-same known more [] all = refl
marks-same known more (m ∷ marks) all = λ i. record { name = m.name; node = or-front known more m.rev null_node all.0 i } ∷ marks-same known more marks all.1 i

bookmarks-stand : (t : Tree) (r next : Repo) (f : GrowthFacts t r next) (bk : Bool) → AllByRecursion HasName next.bookmarks → (bk ≡ false → next.bookmarks ≡ r.bookmarks) → (u : Tree)
    → u bookmarks_path ≡ (if bk then Some (new_bookmarks next).text else t bookmarks_path) → HasBookmarks u next
bookmarks-stand t r next f true named kept u e = written-bookmarks u next f.repository named e
bookmarks-stand t r next f false named kept u e =
    let m = more-nodes t r next f in
    let s = f.stands.bookmarks in
    let low = subst (λ k. AllByRecursion (λ (m : Bookmark). m.rev < k) r.bookmarks) (sym (length-changeset_nodes r f.stands.repository)) f.stands.repository.marks in
    record {
      lines = s.lines;
      text = ap mark_lines (ap (λ (x : Option (List ℕ)). unwrap_or x []) e) ∙ s.text;
      known = ap (λ ns. list_all (λ (x : Mark). among x.node ns) s.lines) m.1 ∙ lines-known (changeset_nodes r.changesets) m.0 s.lines s.known;
      marks = s.marks ∙ sym (marks-same (changeset_nodes r.changesets) m.0 r.bookmarks low) ∙ ap (λ ns. map (mark_of ns) r.bookmarks) (sym m.1) ∙ ap (map (mark_of (changeset_nodes next.changesets))) (sym (kept refl));
    }

-- ---- phases

abbrev stored_of : List Revision → List Stored
stored_of revisions = map (λ x. record { revision = x; chunk = chunk_of x.text }) revisions

-- the items of more revisions
abbrev items_behind : List Revision → List Revision → List Item
items_behind revisions more = items_from (0 + length (chunks_of (stored_of revisions))) (nodes_from [] (map (λ s. s.revision) (stored_of revisions))) (stored_of more)

pub entries-join : (revisions more : List Revision) → entries_of (revisions ++ more) ≡ entries_of revisions ++ map (λ (i : Item). i.entry) (items_behind revisions more)
entries-join revisions more =
    ap (λ l. map (λ (i : Item). i.entry) (items_from 0 [] l)) (map-append (λ (y : Revision). record { revision = y; chunk = chunk_of y.text }) revisions more)
    ∙ ap (map (λ (i : Item). i.entry)) (items_from-append 0 [] (stored_of revisions) (stored_of more))
    ∙ map-append (λ (i : Item). i.entry) (items_from 0 [] (stored_of revisions)) (items_behind revisions more)

-- where changesets are added the entries of the changelog go on
pub history-more : (r next : Repo) → IsPrefixOf r.changesets next.changesets → IsPrefixOf (changeset_entries r.changesets) (changeset_entries next.changesets)
history-more r next p =
    let x = (history_from-extends (history r.changesets) p.0).changelog in
    (map (λ (i : Item). i.entry) (items_behind (history r.changesets).changelog x.0), ap entries_of (ap (λ (l : List Changeset). (history l).changelog) p.1 ∙ ap (λ (k : History). k.changelog) (history_from-append no_history r.changesets p.0) ∙ x.1) ∙ entries-join (history r.changesets).changelog x.0)

phase-back : (p : Phase) → phase_numbered (phase_number p) ≡ p
phase-back Public = refl
phase-back Draft = refl
phase-back Secret = refl

phases-back : (ps : List Phase) → map phase_numbered (map phase_number ps) ≡ ps
phases-back [] = refl
phases-back (p ∷ ps) = λ i. phase-back p i ∷ phases-back ps i

roots-once : (text other : List ℕ) (a b : List Root) → text ≡ other → read_roots text ≡ Ok a → read_roots other ≡ Ok b → a ≡ b
roots-once text other a b e x y = ok-same (sym x ∙ ap read_roots e ∙ y)
  where
    ok-same : ◌≡◌ {A = Result (List Root) RootsFault} (Ok a) (Ok b) → a ≡ b
    ok-same h = ap (λ o. elim o [ Ok z ↦ z | Err w ↦ a ]) h

not-false : (b : Bool) → not b ≡ false → b ≡ true
not-false true g = refl
not-false false g = sym g

-- where the text that is written of the phases stays, so may the one that stands
roots-stay : (t : Tree) (r next : Repo) (f : GrowthFacts t r next) (u : Tree) → u roots_path ≡ t roots_path → roots_change r next ≡ false → HasPhases u next
roots-stay t r next f u kept e = record {
  roots = s.roots;
  text = ap read_roots (ap (λ (x : Option (List ℕ)). unwrap_or x []) kept) ∙ s.text;
  known = ap (λ ns. list_all (is_known ns) s.roots) (more-nodes t r next f).1 ∙ roots-known (changeset_nodes r.changesets) (more-nodes t r next f).0 s.roots s.known;
  phases = ap (map phase_number) given ∙ numbers-back next.phases (phases-low next f.repository);
}
  where
    s : HasPhases t r
    s = f.stands.phases

    -- the roots that are written of the repository before
    own : List Root
    own = written_roots (map phase_numbered r.phases) (changeset_entries r.changesets)

    more : IsPrefixOf (history r.changesets).changelog (history next.changesets).changelog
    more =
        let x = (history_from-extends (history r.changesets) f.goes_on.0).changelog in
        (x.0, ap (λ (l : List Changeset). (history l).changelog) f.goes_on.1 ∙ ap (λ (k : History). k.changelog) (history_from-append no_history r.changesets f.goes_on.0) ∙ x.1)

    back : List Entry
    back = map (λ (i : Item). i.entry) (items_behind (history r.changesets).changelog more.0)

    whole : changeset_entries next.changesets ≡ changeset_entries r.changesets ++ back
    whole = ap entries_of more.1 ∙ entries-join (history r.changesets).changelog more.0

    before : ParentsBefore 0 (history_of (changeset_entries r.changesets ++ back))
    before = subst (ParentsBefore 0) (sym (ap history_of (sym whole) ∙ entries-parents (history next.changesets).changelog ∙ changelog-parents next f.repository)) f.repository.parents

    known : (roots : List Root) → list_all (is_known (changeset_nodes r.changesets)) roots ≡ true → list_all (is_known (nodes_of (changeset_entries r.changesets))) roots ≡ true
    known roots k = ap (λ ns. list_all (is_known ns) roots) (entries-nodes (history r.changesets).changelog) ∙ k

    -- both give the phases before
    standing-gives : phases_by s.roots (changeset_entries r.changesets) ≡ map phase_numbered r.phases
    standing-gives = sym (phases-back (phases_by s.roots (changeset_entries r.changesets))) ∙ ap (map phase_numbered) s.phases

    own-gives : phases_by own (changeset_entries r.changesets) ≡ map phase_numbered r.phases
    own-gives = written_same (changeset_entries r.changesets) (map phase_numbered r.phases) (is-changelog r f.stands.repository f.stands.revlogs.changelog.different) (are-phases r f.stands.repository)

    written : own ≡ written_roots (map phase_numbered next.phases) (changeset_entries next.changesets)
    written =
        roots-once (roots_of r) (roots_of next) _ _ (same-eq (roots_of r) (roots_of next) (not-false (same (roots_of r) (roots_of next)) e))
        (written_read (changeset_entries r.changesets) (map phase_numbered r.phases) (have-nodes r)) (written_read (changeset_entries next.changesets) (map phase_numbered next.phases) (have-nodes next))

    given : phases_by s.roots (changeset_entries next.changesets) ≡ map phase_numbered next.phases
    given =
        ap (phases_by s.roots) whole
        ∙ phases-many s.roots own (changeset_entries r.changesets) back (known s.roots s.known) (known own (written-known r)) before (standing-gives ∙ sym own-gives)
        ∙ ap (phases_by own) (sym whole)
        ∙ ap (λ l. phases_by l (changeset_entries next.changesets)) written
        ∙ written_same (changeset_entries next.changesets) (map phase_numbered next.phases) (is-changelog next f.repository f.un.changelog.different) (are-phases next f.repository)

roots-stand : (t : Tree) (r next : Repo) (f : GrowthFacts t r next) (u : Tree) → u roots_path ≡ (if roots_change r next then Some (roots_of next) else t roots_path) → HasPhases u next
roots-stand t r next f u e = by (roots_change r next) refl
  where
    by : (b : Bool) → roots_change r next ≡ b → HasPhases u next
    by true g = written-phases u next f.repository f.un.changelog.different (e ∙ ap (λ b. cond b (Some (roots_of next)) (t roots_path)) g)
    by false g = roots-stay t r next f u (e ∙ ap (λ b. cond b (Some (roots_of next)) (t roots_path)) g) g

-- ---- the whole

tracked-working : (next : Repo) → IsRepo next → list_all is_tracked (tracked_paths next) ≡ true
tracked-working next is = by next.working.0
  where
    by : (o : Option ℕ) → list_all is_tracked (paths_at next.changesets o) ≡ true
    by None = refl
    by (Some rev) = trees-tracked no_history next.changesets is.changesets rev

pub commit-stands : (t : Tree) (r next : Repo) (f : GrowthFacts t r next) (bk : Bool) → AllByRecursion HasName next.bookmarks → (bk ≡ false → next.bookmarks ≡ r.bookmarks) → (u : Tree)
    → CommitLeaves t u (roots_change r next) bk (roots_of next) (new_dirstate next).text (new_bookmarks next).text (growth t r next) (Append changelog_index (new_changelog_entry t r next))
    → IsClean u next
commit-stands t r next f bk named kept u leaves = record {
  stands = record {
    repository = f.repository;
    requires = record { text = f.stands.requires.text; there = requires-untouched t r next f u _ _ _ _ leaves ∙ f.stands.requires.there; known = f.stands.requires.known; whole = f.stands.requires.whole };
    revlogs = record {
      changelog = changelog-stands t r next f u _ _ _ _ leaves;
      manifest = manifest-stands t r next f u _ _ _ _ leaves;
      filelogs = filelog-stands t r next f u _ _ _ _ leaves;
      names = names-stand t r next f u _ _ _ _ leaves;
    };
    fncache = fncache-stands t r next f u _ _ _ _ leaves;
    phases = roots-stand t r next f u leaves.roots_are;
    bookmarks = bookmarks-stand t r next f bk named kept u leaves.marks_are;
    dirstate = written-dirstate u next (tracked-working next f.repository) leaves.dirstate_is;
    no_journal = leaves.journal;
  };
  no_locks = (leaves.wlock, (leaves.lock, tt));
}

-- after the operations of a commit the tree stands for the next repository, and is clean
pub commit-leads : (t : Tree) (r next : Repo) (n : NewChange) (who : List ℕ) (answer : Answer) → Stands t r → IsNewChange n → step r (Commit n) ≡ Ok (next, answer) → IsUnhindered t r next
    → IsClean (after_all (operations (transaction_of t r (Commit n) who next)) t) next
commit-leads t r next n who answer s good e un =
    let d = commit-gone r n (next, answer) good e in
    commit-stands t r next (record { stands = s; repository = commit-keeps r n next answer s.repository good e; goes_on = d.changesets; un = un }) (is_some n.bookmark) (d.named (mark-names t r s)) (λ none. d.marks (ap (λ b. b || false) none)) _
    (commit-leaves t who (roots_change r next) (is_some n.bookmark) (roots_of next) (new_dirstate next).text (new_bookmarks next).text
    (backups_of t r (Commit n) next) (journal_text (journal_of t r (Commit n) next)) (growth t r next) changelog_index (new_changelog_entry t r next)
    refl (growth-appends t r next) (growth-quiet t r next))

-- and after those of an import
pub import-leads : (t : Tree) (r next : Repo) (changes : List NewChange) (who : List ℕ) (answer : Answer) → Stands t r → IsValid (Import changes) → step r (Import changes) ≡ Ok (next, answer) → IsUnhindered t r next
    → IsClean (after_all (operations (transaction_of t r (Import changes) who next)) t) next
import-leads t r next changes who answer s good e un =
    let d = import-gone r changes (next, answer) good.each e in
    commit-stands t r next (record { stands = s; repository = import-keeps r changes next answer s.repository good.each e; goes_on = d.changesets; un = un }) (sets_bookmark changes) (d.named (mark-names t r s)) d.marks _
    (import-leaves t who (roots_change r next) (sets_bookmark changes) (roots_of next) (new_dirstate next).text (new_bookmarks next).text
    (backups_of t r (Import changes) next) (journal_text (journal_of t r (Import changes) next)) (growth t r next) (new_changelog_entry t r next)
    (growth-index t r next) (growth-appends t r next) (growth-quiet t r next))
