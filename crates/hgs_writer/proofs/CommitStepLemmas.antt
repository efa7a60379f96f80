-- The step that is worked out of a commit is the step of the repository.
use Rattle.std.proofs.Common.{◌≡◌, ℕ, List, [], ◌∷◌, ◌++◌, false, length, drop, sym, ◌∙◌, ap, subst, append-nil, append_assoc}
use Rattle.std.specs.Prelude.{Option, Some, None, flat_map, is_some}
use Rattle.hgs_bytes.specs.Text.{line}
use Rattle.hgs_files.specs.declared.op.Op.{Op}
use Rattle.hgs_files.specs.Tree.{Tree, bytes_at}
use Rattle.hgs_index.specs.declared.entry.Entry.{Entry}
use Rattle.hgs_index.specs.Either.{chunk_bytes}
use Rattle.hgs_index.specs.Entry.{entry_bytes}
use Rattle.hgs_index.specs.Revision.{Parents, Revision, nodes, standing}
use Rattle.hgs_index.specs.Revlog.{chunk_of, entry_after, next_header}
use Rattle.hgs_model.specs.History.{History, changeset_revision, history, manifest_revision, manifest_with}
use Rattle.hgs_model.specs.IsRepo.{IsRepo}
use Rattle.hgs_model.specs.Repo.{Changeset, Repo}
use Rattle.hgs_model.specs.Step.{done_at, new_changeset}
use Rattle.hgs_model.specs.declared.command.Command.TheVariants.{Commit}
use Rattle.hgs_model.specs.declared.command.NewChange.{NewChange}
use Rattle.hgs_ops.specs.Growth.{append_some, as_stored, filelogs_grow, grown, growth, new_changelog_entry, new_chunks, new_entries, new_items, new_names, new_paths, own_header}
use Rattle.hgs_ops.specs.Replaced.{Replacement, new_bookmarks, new_dirstate, new_rename, new_roots, only_if, roots_change}
use Rattle.hgs_ops.specs.Theorems.CommitLemmas.{growth-appends}
use Rattle.hgs_ops.specs.Theorems.GrowLemmas.{drop-front}
use Rattle.hgs_revlog.specs.Add.{next_entry}
use Rattle.hgs_revlog.specs.Log.{new_header, stored_sum}
use Rattle.hgs_stands.specs.Places.{changelog_data, changelog_index, fncache_path, manifest_data, manifest_index}
use Rattle.hgs_stands.specs.Stands.{Stands, has_inline_log}
use Rattle.hgs_transaction.specs.OfTransaction.{IsOfTree}
use Rattle.hgs_transaction.specs.declared.parts.Change.{Change}
use Rattle.hgs_transaction.specs.declared.parts.Change.TheVariants.{Append}
use Rattle.hgs_transaction.specs.declared.parts.Replacing.{Replacing}
use Rattle.hgs_steps.specs.Planned.{IsLoadedOf, IsStepOf}
use Rattle.hgs_steps.specs.declared.loaded.Loaded.{Loaded}
use Rattle.hgs_commit.specs.Appended.{append_some as append_to}
use Rattle.hgs_commit.specs.Changeset.{of_changelog, of_manifest}
use Rattle.hgs_commit.specs.Commit.{OfWritten, appends_of, entries_with, new_phase, new_roots as new_roots_of, step_with}
use Rattle.hgs_commit.specs.Texts.{OfGrowth, OfLog, changes_of, growth_as, growth_of}
use Rattle.hgs_commit.specs.Trees.{OfGrown}
use Rattle.hgs_writer.specs.Growth.{AreAppends, AreGrownFilesOf, IsWhole}
use Rattle.hgs_writer.specs.Logs.{IsLogOf}
use Rattle.hgs_writer.specs.NewTexts.{growth_by}
use Rattle.hgs_writer.specs.StepsBelow.{StepsBelow}
use Rattle.hgs_writer.proofs.FormLemmas.{separate-chunks, separate-entries}
use Rattle.hgs_writer.proofs.GrowthLemmas.{appends-join, appends-some, entry-bytes, growth-grows, one-entry}
use Rattle.hgs_writer.proofs.NextLemmas.{new-node, next, next-log, next-manifest, next-node}
use Rattle.hgs_writer.proofs.PartsLemmas.{IsReplacedFirst, before-are, map-only, renames-are, replaced-are, replaced-first, standing-are}
use Rattle.hgs_writer.proofs.ReplacedLemmas.{AreBehind, roots-are}

-- ---- the changelog's new revision

-- its chunk
pub chunk-appends : (t : Tree) (f : OfLog) (old new : List Revision) (r : Revision) → f.log.inline ≡ false → IsWhole t f → new ≡ old ++ r ∷ []
    → AreAppends t (append_some f.chunks (new_chunks (new_items (length (bytes_at t f.chunks)) old (drop (length old) new)))) (append_to f.chunks (stored_sum f.log.entries) (chunk_of r.text))
chunk-appends t f old new r separate whole e =
    let chunk = ap (λ (revs : List Revision). new_chunks (new_items (length (bytes_at t f.chunks)) old revs)) (ap (drop (length old)) e ∙ drop-front old (r ∷ [])) ∙ append-nil (chunk_of r.text) in
    subst (λ (bytes : List ℕ). AreAppends t (append_some f.chunks bytes) (append_to f.chunks (stored_sum f.log.entries) (chunk_of r.text))) (sym chunk) (appends-some t f.chunks (stored_sum f.log.entries) (chunk_of r.text) (sym (separate-chunks t f separate whole)))

-- its entry
pub entry-is : (t : Tree) (f : OfLog) (old new : List Revision) (r : Revision) → f.log.inline ≡ false → IsLogOf t f old → IsWhole t f → new ≡ old ++ r ∷ []
    → entry_bytes (next_entry f.log.entries r) (new_header f.log) ≡ new_entries false old (new_items (length (bytes_at t f.chunks)) old (drop (length old) new))
entry-is t f old new r separate is whole e =
    entry-bytes t f old r is whole
    ∙ ap (λ b. entry_bytes (entry_after (length (chunk_bytes b (bytes_at t f.index) (bytes_at t f.chunks))) (nodes old) (as_stored r)) (next_header old (own_header b))) separate
    ∙ sym (one-entry false (length (bytes_at t f.chunks)) old r)
    ∙ ap (λ (revs : List Revision). new_entries false old (new_items (length (bytes_at t f.chunks)) old revs)) (sym (ap (drop (length old)) e ∙ drop-front old (r ∷ [])))

-- ---- all appends

-- four lists of changes one after another
four-appends : (t : Tree) (a b c d : List Op) (u v w x : List Change) → AreAppends t a u → AreAppends t b v → AreAppends t c w → AreAppends t d x → AreAppends t (a ++ b ++ c ++ d) (u ++ (v ++ (w ++ x)))
four-appends t a b c d u v w x p q m o =
    subst (λ (ops : List Op). AreAppends t ops (u ++ (v ++ (w ++ x)))) (sym (append_assoc (a ++ b) c d ∙ append_assoc a b (c ++ d)))
    (appends-join t a (b ++ (c ++ d)) u (v ++ (w ++ x)) p (appends-join t b (c ++ d) v (w ++ x) q (appends-join t c d w x m o)))

-- what is written of a commit: its files, and the manifest and the changeset as their revlogs have them
pub record IsWrittenOf (t : Tree) (r next : Repo) (l : Loaded) (h : History) (c : Changeset) (x : OfGrown) (w : OfWritten) : Type 0 where
  pub files : AreGrownFilesOf t r next x
  pub filelogs : w.filelogs ≡ x.growth
  pub lines : w.lines ≡ x.lines
  pub manifest : w.manifest ≡ growth_by (of_manifest l.manifest) (manifest_revision h c) (standing h.manifest (manifest_revision h c).text (manifest_revision h c).parents)
  pub changeset : Some w.changeset ≡ growth_by (of_changelog l.changelog) (changeset_revision h c) None

some-is : (x y : OfGrowth) → Some x ≡ Some y → x ≡ y
some-is x y e = cc

module _ (t : Tree) (r : Repo) (l : Loaded) (loads : IsLoadedOf t l) (n : NewChange) (parents : Parents) (x : OfGrown) (w : OfWritten) (new : standing (history r.changesets).changelog (changeset_revision (history r.changesets) (new_changeset (history r.changesets) parents n)).text parents ≡ None)
    (changelog : IsLogOf t (of_changelog l.changelog) (history r.changesets).changelog) (changelog_whole : IsWhole t (of_changelog l.changelog)) (manifest : IsLogOf t (of_manifest l.manifest) (history r.changesets).manifest) (manifest_whole : IsWhole t (of_manifest l.manifest))
    (changelog_separate : l.changelog.inline ≡ false) (manifest_separate : l.manifest.inline ≡ false)
    (is : IsWrittenOf t r (next r n parents) l (history r.changesets) (new_changeset (history r.changesets) parents n) x w) where
  abbrev h : History
  h = history r.changesets

  abbrev c : Changeset
  c = new_changeset h parents n

  abbrev then-next : Repo
  then-next = next r n parents

  abbrev added-changeset : OfGrowth
  added-changeset = growth_as false (of_changelog l.changelog) (entry_bytes (next_entry l.changelog.entries (changeset_revision h c)) (new_header l.changelog)) (chunk_of (changeset_revision h c).text)

  changeset-is : w.changeset ≡ added-changeset
  changeset-is =
      some-is w.changeset (growth_of (of_changelog l.changelog) (entry_bytes (next_entry l.changelog.entries (changeset_revision h c)) (new_header l.changelog)) (chunk_of (changeset_revision h c).text)) is.changeset
      ∙ ap (λ b. growth_as b (of_changelog l.changelog) (entry_bytes (next_entry l.changelog.entries (changeset_revision h c)) (new_header l.changelog)) (chunk_of (changeset_revision h c).text)) changelog_separate

  manifest-grows : AreAppends t (grown false t manifest_index manifest_data h.manifest (history then-next.changesets).manifest) (changes_of w.manifest)
  manifest-grows =
      subst (λ (revs : List Revision). AreAppends t (grown false t manifest_index manifest_data h.manifest revs) (changes_of w.manifest)) (sym (next-manifest r n parents))
      (subst (λ (o : Option OfGrowth). AreAppends t (grown false t manifest_index manifest_data h.manifest (manifest_with h c)) (changes_of o)) (sym is.manifest)
      (subst (λ b. AreAppends t (grown b t manifest_index manifest_data h.manifest (manifest_with h c)) (changes_of (growth_by (of_manifest l.manifest) (manifest_revision h c) (standing h.manifest (manifest_revision h c).text (manifest_revision h c).parents)))) manifest_separate
      (growth-grows t (of_manifest l.manifest) h.manifest (manifest_revision h c) (standing h.manifest (manifest_revision h c).text (manifest_revision h c).parents) manifest manifest_whole)))

  chunk-grows : AreAppends t (append_some changelog_data (new_chunks (new_items (length (bytes_at t changelog_data)) h.changelog (drop (length h.changelog) (history then-next.changesets).changelog)))) w.changeset.chunk
  chunk-grows =
      subst (λ (g : OfGrowth). AreAppends t (append_some changelog_data (new_chunks (new_items (length (bytes_at t changelog_data)) h.changelog (drop (length h.changelog) (history then-next.changesets).changelog)))) g.chunk) (sym changeset-is)
      (chunk-appends t (of_changelog l.changelog) h.changelog (history then-next.changesets).changelog (changeset_revision h c) changelog_separate changelog_whole (next-log r n parents new))

  pub appends-are : AreAppends t (growth t r then-next) (appends_of l w)
  appends-are =
      four-appends t (filelogs_grow t h.filelog (history then-next.changesets).filelog (new_paths r then-next)) (append_some fncache_path (flat_map line (new_names h.filelog (history then-next.changesets).filelog (new_paths r then-next))))
      (grown false t manifest_index manifest_data h.manifest (history then-next.changesets).manifest) (append_some changelog_data (new_chunks (new_items (length (bytes_at t changelog_data)) h.changelog (drop (length h.changelog) (history then-next.changesets).changelog))))
      w.filelogs (append_to fncache_path l.fncache_length w.lines) (changes_of w.manifest) w.changeset.chunk
      (subst (AreAppends t (filelogs_grow t h.filelog (history then-next.changesets).filelog (new_paths r then-next))) (sym is.filelogs) is.files.filelogs)
      (subst (λ (bytes : List ℕ). AreAppends t (append_some fncache_path bytes) (append_to fncache_path l.fncache_length w.lines)) (is.lines ∙ is.files.lines) (appends-some t fncache_path l.fncache_length w.lines loads.fncache_length))
      manifest-grows chunk-grows

  pub publish-is : Op.Append w.changeset.entry.path w.changeset.entry.bytes ≡ Op.Append changelog_index (new_changelog_entry t r then-next)
  publish-is =
      ap (λ (g : OfGrowth). Op.Append g.entry.path g.entry.bytes) changeset-is
      ∙ ap (Op.Append changelog_index) (entry-is t (of_changelog l.changelog) h.changelog (history then-next.changesets).changelog (changeset_revision h c) changelog_separate changelog changelog_whole (next-log r n parents new))

  pub publish-stands : IsOfTree t (Append w.changeset.entry)
  publish-stands = subst (λ (g : OfGrowth). IsOfTree t (Append g.entry)) (sym changeset-is) (sym (separate-entries t (of_changelog l.changelog) changelog_separate changelog_whole))

  -- the step of the repository
  pub step-is : (after : List Replacing) (e : Entry) (laws : StepsBelow) → Stands t r → IsRepo then-next → length l.changelog.entries ≡ length r.changesets → w.node ≡ new-node r n parents → entries_with l.changelog.entries w.changeset.entry.bytes ≡ l.changelog.entries ++ e ∷ [] → e.node.0 ≡ new-node r n parents → (e.p1, e.p2) ≡ parents
      → AreBehind t r then-next (is_some n.bookmark) after → has_inline_log t ≡ false → IsStepOf t r (Commit n) (done_at then-next (length r.changesets)) (step_with l n parents w after)
  step-is after e laws s next_is count node entries entry_node from behind separate = record {
    parts = record {
      before = before-are t (growth t r then-next) (appends_of l w) appends-are (growth-appends t r then-next) (roots_change r then-next) (new_roots then-next) roots first w.changeset.entry publish-stands later after behind.files;
      publish = publish-is;
      after = renames-are t (growth t r then-next) (appends_of l w) appends-are (growth-appends t r then-next) (roots_change r then-next) (new_roots then-next) roots first w.changeset.entry publish-stands later after behind.files ∙ ap (λ ops. new_rename (new_dirstate then-next) ∷ ops) (map-only new_rename (is_some n.bookmark) (new_bookmarks then-next));
      replaced = replaced-are t (growth t r then-next) (appends_of l w) appends-are (growth-appends t r then-next) (roots_change r then-next) (new_roots then-next) roots first w.changeset.entry publish-stands later after behind.files;
      standing = standing-are t (growth t r then-next) (appends_of l w) appends-are (growth-appends t r then-next) (roots_change r then-next) (new_roots then-next) roots first w.changeset.entry publish-stands later after behind.files;
    };
    rev = count;
    node = node ∙ sym (next-node r n parents new s.repository);
    few = behind.few;
    separate = separate;
  }
    where
      roots : Option Replacing
      roots = new_roots_of l (new_phase l parents n.phase) w.changeset.entry.bytes

      first : IsReplacedFirst t (roots_change r then-next) (new_roots then-next) roots
      first = replaced-first t (roots_change r then-next) (new_roots then-next) roots (roots-are laws t r l s loads n parents new w.changeset.entry.bytes e next_is entries entry_node from)

      later : List Replacement
      later = new_dirstate then-next ∷ only_if (is_some n.bookmark) (new_bookmarks then-next)
