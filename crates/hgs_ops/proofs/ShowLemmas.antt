-- A transaction shows the repository before it until its publishing operation is whole, and while it is undone.
use Rattle.std.proofs.Common.{◌≡◌, ◌⊎◌, ℕ, ◌<◌, List, [], ◌∷◌, ◌++◌, Bool, true, false, length, drop, take, refl, sym, ◌∙◌, ap, subst, inl, inr, append-nil, arith, take_at}
use Rattle.std.specs.Prelude.{◌/◌, Ok, Option, Some, None, is_some}
use Rattle.hgs_bytes.specs.Bytes.{IsPrefixOf, same}
use Rattle.hgs_files.specs.declared.op.Op.{Op}
use Rattle.hgs_files.specs.declared.op.Op.TheVariants.{Append, Create, Rename}
use Rattle.hgs_files.specs.Log.{IsDone}
use Rattle.hgs_files.specs.Tree.{Tree, after_all, apply, bytes_at, renamed, with_file}
use Rattle.hgs_files.specs.Theorems.TreeLemmas.{after_all-append, bytes_at-is, bytes_at-with_file, with_file-same}
use Rattle.hgs_index.specs.Inline.{index_apart}
use Rattle.hgs_index.specs.declared.entry.Entry.{Entry}
use Rattle.hgs_index.specs.declared.entry.Header.{Header}
use Rattle.hgs_index.specs.Entry.{entry_bytes}
use Rattle.hgs_index.specs.Revision.{Revision, nodes, parent_node}
use Rattle.hgs_index.specs.Revlog.{all_different, entry_after}
use Rattle.hgs_index.specs.Theorems.EntryPartLemmas.{length-entry_bytes}
use Rattle.hgs_journal.specs.Covers.{is_loose}
use Rattle.hgs_journal.specs.Names.{journal_path}
use Rattle.hgs_journal.specs.Texts.{journal_text}
use Rattle.hgs_model.specs.declared.command.Command.{Command}
use Rattle.hgs_model.specs.declared.command.Command.TheVariants.{Commit, Import, Move, Mark, Unmark}
use Rattle.hgs_model.specs.declared.command.NewChange.{NewChange}
use Rattle.hgs_model.specs.History.{History, changeset_nodes, changeset_revision, history}
use Rattle.hgs_model.specs.IsRepo.{IsRepo}
use Rattle.hgs_model.specs.Repo.{Repo}
use Rattle.hgs_model.specs.Step.{Answer, new_changeset, sets_bookmark, step}
use Rattle.hgs_model.specs.Valid.{IsNewChange, IsValid}
use Rattle.hgs_model.specs.Theorems.CountLemmas.{changelog-one}
use Rattle.hgs_model.specs.Theorems.HistoryLemmas.{history-push}
use Rattle.hgs_model.specs.Theorems.NewChangesetLemmas.{commit-keeps, import-keeps, new-change-is-next, step_commit-did}
use Rattle.hgs_model.specs.Theorems.ImportLemmas.{commit-gone, import-gone}
use Rattle.hgs_model.specs.Theorems.NodeLemmas.{node_hash-node}
use Rattle.hgs_phases.specs.Roots.{read_roots}
use Rattle.hgs_stands.specs.Places.{bookmarks_path, changelog_data, changelog_index, dirstate_path, roots_path}
use Rattle.hgs_stands.specs.Shows.{Shows}
use Rattle.hgs_stands.specs.Stands.{Stands, has_inline_log}
use Rattle.hgs_stands.specs.Theorems.FormLemmas.{changelog-plain, part-counted}
use Rattle.hgs_ops.specs.Growth.{as_stored, growth, new_changelog_entry, new_entries, new_items, own_header}
use Rattle.hgs_ops.specs.Operations.{backups_of, changes_before, journal_of, journalled, new_changelog_index, new_changelog_path, publishing, renames_after, strays, transaction_of}
use Rattle.hgs_ops.specs.Replaced.{new_bookmarks, new_dirstate, new_rename, new_roots, replacements, roots_change, roots_of}
use Rattle.hgs_ops.specs.Unhindered.{IsReady}
use Rattle.hgs_ops.proofs.BeginsLemmas.{GivesPhases, IsStill, gives-own}
use Rattle.hgs_ops.proofs.Below.{Below}
use Rattle.hgs_ops.specs.Theorems.CommitLemmas.{growth-appends, growth-index, growth-quiet}
use Rattle.hgs_ops.specs.Theorems.CommitTree.{first_of, new_roots_path, roots-put}
use Rattle.hgs_ops.proofs.FrontPhases.{roots-front}
use Rattle.hgs_ops.proofs.ImportParts.{before-comes, nothing-of, rename-all}
use Rattle.hgs_ops.proofs.Parts.{append-less, done-split, part-other}
use Rattle.hgs_ops.specs.Theorems.GrowLemmas.{drop-front}
use Rattle.hgs_ops.specs.Theorems.RootsLemmas.{written-phases}
use Rattle.hgs_ops.proofs.ShowPlan.{begun-same, begun-still, undoing-shows, working-shows}
use Rattle.hgs_ops.specs.Theorems.Touch.{apply-other, bytes-same, or-both, touched, touched-append}
use Rattle.hgs_ops.proofs.TransactionLemmas.{first-untouched, plan-of}

-- ---- an operation that is never done in part

-- nothing is done of the one rename where something is left of it
rename-none : (from to : List ℕ) (done : List Op) (o : Op) (l : List Op) → IsDone (Rename from to ∷ []) done (o ∷ l) → done ≡ []
rename-none from to [] o l h = refl
rename-none from to (op ∷ more) o l (j, (rest, (f, g), e), k) = absurd (none more (subst (λ (x : List Op). IsDone x more (o ∷ l)) (e ∙ append-nil rest ∙ g) k))
  where
    none : (more : List Op) → IsDone [] more (o ∷ l) → ⊥
    none [] h = no h
      where
        no : [] ≡ o ∷ l → ⊥
        no e = cc
    none (x ∷ more) (i, d, m) = d

node-size : (known : List (List ℕ)) (r : Revision) → length (entry_after 0 known (as_stored r)).node.0 ≡ 20
node-size known r = (node_hash-node (parent_node known r.parents.0) (parent_node known r.parents.1) r.text).size

no-chunk : (e : Entry) (first : Option Header) → length e.node.0 ≡ 20 → length ((entry_bytes e first ++ []) ++ []) ≡ 64
no-chunk e first size = ap length (append-nil (entry_bytes e first ++ []) ∙ append-nil (entry_bytes e first)) ∙ length-entry_bytes e first size

one-entry : (offset : ℕ) (old : List Revision) (r : Revision) → length (new_entries false old (new_items offset old (r ∷ []))) ≡ 64
one-entry offset [] r = no-chunk (entry_after offset [] (as_stored r)) (Some (own_header false)) (node-size [] r)
one-entry offset (x ∷ old) r = no-chunk (entry_after offset (nodes (x ∷ old)) (as_stored r)) None (node-size (nodes (x ∷ old)) r)

-- the new entry has 64 bytes
pub entry-length : (t : Tree) (r next : Repo) (n : NewChange) (answer : Answer) → Stands t r → IsNewChange n → step r (Commit n) ≡ Ok (next, answer) → length (new_changelog_entry t r next) ≡ 64
entry-length t r next n answer s good accepted =
    let d = step_commit-did r n next answer s.repository accepted in
    let h = history r.changesets in
    let c = new_changeset h d.parents n in
    let grew : (history next.changesets).changelog ≡ h.changelog ++ changeset_revision h c ∷ [] =
    ap (λ (q : Repo). (history q.changesets).changelog) d.is ∙ ap (λ (x : History). x.changelog) (history-push r.changesets c) ∙ changelog-one h c (new-change-is-next r n d.parents s.repository good d.changed) in
    ap (λ l. length (new_entries false h.changelog (new_items (length (bytes_at t changelog_data)) h.changelog l))) (ap (drop (length h.changelog)) grew ∙ drop-front h.changelog (changeset_revision h c ∷ []))
    ∙ one-entry (length (bytes_at t changelog_data)) h.changelog (changeset_revision h c)

-- ---- before the publishing operation of a commit or an import

-- What is known of the repositories, and of the tree with the journal, in which the operations begin.
pub record IsBegun (t opened : Tree) (r next : Repo) : Type 0 where
  pub stands : Stands t r
  pub repository : IsRepo next
  pub changesets : IsPrefixOf r.changesets next.changesets
  pub phases : IsPrefixOf r.phases next.phases
  pub different : all_different (changeset_nodes next.changesets) ≡ true
  pub same_files : (p : List ℕ) → is_loose strays p ≡ false → same p journal_path ≡ false → opened p ≡ t p
  pub put : roots_change r next ≡ true → opened new_roots_path ≡ Some (roots_of next)

module _ (t opened : Tree) (r next : Repo) (f : IsBegun t opened r next) where
  -- the roots that are written give the old changesets their phases
  written-gives : GivesPhases r (roots_of next)
  written-gives =
      let w : Tree = with_file t roots_path (Some (roots_of next)) in
      let h = written-phases w next f.repository f.different (with_file-same t roots_path (Some (roots_of next))) in
      let size : length r.phases ≡ length r.changesets = f.stands.repository.phase_count in (
        h.roots,
        ap read_roots (sym (bytes_at-with_file t roots_path (roots_of next))) ∙ h.text,
        roots-front h.roots r next f.stands.repository f.repository f.changesets h.phases ∙ ap (take (length r.changesets)) f.phases.1 ∙ take_at r.phases f.phases.0 (length r.changesets) size,
      )

  abbrev firsts : List Op
  firsts = first_of (roots_change r next) (roots_of next)

  abbrev working_ops : List Op
  working_ops = growth t r next ++ firsts

  -- a file that these do not touch
  pub kept-through : (q : List ℕ) (d m : List Op) → IsDone working_ops d m → is_loose strays q ≡ false → same q journal_path ≡ false → touched q (growth t r next) ≡ false → touched q (new_rename (new_roots next) ∷ []) ≡ false → bytes_at (after_all d opened) q ≡ bytes_at t q
  kept-through q d m k free off a b =
      bytes-same t (after_all d opened) q (part-other q working_ops d m opened k (touched-append q (growth t r next) firsts a (first-untouched (roots_change r next) (roots_of next) q b)) ∙ f.same_files q free off)

  -- the phase roots are as before or as they are written
  abbrev IsEither : Tree → Type 0
  IsEither v = (bytes_at v roots_path ≡ bytes_at t roots_path) ⊎ (bytes_at v roots_path ≡ roots_of next)

  firsts-either : (b : Bool) → roots_change r next ≡ b → (a d m : List Op) → IsDone (growth t r next) a [] → IsDone (first_of b (roots_of next)) d m → IsEither (after_all d (after_all a opened))
  firsts-either false e a d m ka k = inl (bytes-same t (after_all d (after_all a opened)) roots_path (ap (λ x. after_all x (after_all a opened) roots_path) (nothing-of d m k) ∙ part-other roots_path (growth t r next) a [] opened ka (growth-quiet t r next roots_path refl) ∙ f.same_files roots_path refl refl))
  firsts-either true e a d m ka k = elim (rename-all new_roots_path roots_path d m k) [
    | inl none ↦ inl (bytes-same t (after_all d (after_all a opened)) roots_path (ap (λ x. after_all x (after_all a opened) roots_path) none ∙ part-other roots_path (growth t r next) a [] opened ka (growth-quiet t r next roots_path refl) ∙ f.same_files roots_path refl refl))
    | inr all ↦ inr (bytes_at-is (after_all d (after_all a opened)) roots_path (roots_of next) (ap (λ x. after_all x (after_all a opened) roots_path) all ∙ renamed-to (after_all a opened) (put ∙ refl)))
  ]
    where
      put : after_all a opened new_roots_path ≡ Some (roots_of next)
      put = part-other new_roots_path (growth t r next) a [] opened ka (growth-quiet t r next new_roots_path refl) ∙ f.put e

      renamed-to : (v : Tree) → v new_roots_path ≡ Some (roots_of next) → apply (Rename new_roots_path roots_path) v roots_path ≡ Some (roots_of next)
      renamed-to v e = ap (λ z. renamed v new_roots_path roots_path z roots_path) e ∙ with_file-same (with_file v new_roots_path None) roots_path (Some (roots_of next))

  roots : (d m : List Op) → IsDone working_ops d m → IsEither (after_all d opened)
  roots d m k = elim (done-split (growth t r next) firsts d m k) [
    | inl (x, y) ↦ inl (bytes-same t (after_all d opened) roots_path (part-other roots_path (growth t r next) d x opened y (growth-quiet t r next roots_path refl) ∙ f.same_files roots_path refl refl))
    | inr (a, b, e, ka, kb) ↦ subst IsEither (sym (ap (λ x. after_all x opened) e ∙ after_all-append a b opened)) (firsts-either (roots_change r next) refl a b m ka kb)
  ]

  gives : (v : Tree) → IsEither v → GivesPhases r (bytes_at v roots_path)
  gives v (inl e) = subst (GivesPhases r) (sym e) (gives-own t r f.stands)
  gives v (inr e) = subst (GivesPhases r) (sym e) written-gives

  pub index-kept : (d m : List Op) → IsDone working_ops d m → bytes_at (after_all d opened) changelog_index ≡ bytes_at t changelog_index
  index-kept d m k = kept-through changelog_index d m k refl refl (growth-index t r next) refl

  -- whatever part is done, what tells of the repository is still of the one before
  pub part-still : (d m : List Op) → IsDone working_ops d m → IsStill r t (after_all d opened)
  part-still d m k = record {
    index = ap (λ x. length (index_apart x) / 64) (index-kept d m k);
    roots = gives (after_all d opened) (roots d m k);
    marks = kept-through bookmarks_path d m k refl refl (growth-quiet t r next bookmarks_path refl) refl;
    working = kept-through dirstate_path d m k refl refl (growth-quiet t r next dirstate_path refl) refl;
  }

  -- so it is with less than an entry behind the index
  pub entry-still : has_inline_log t ≡ false → length (new_changelog_entry t r next) ≡ 64 → (done : List Op) (o : Op) (l : List Op) → IsDone (working_ops ++ Append changelog_index (new_changelog_entry t r next) ∷ []) done (o ∷ l) → IsStill r t (after_all done opened)
  entry-still separate size done o l h = elim (done-split working_ops (Append changelog_index (new_changelog_entry t r next) ∷ []) done (o ∷ l) h) [
    | inl (m, k) ↦ part-still done m k
    | inr (a, b, e, k, g) ↦ subst (IsStill r t) (sym (ap (λ x. after_all x opened) e ∙ after_all-append a b opened)) (behind a b k g (part-still a [] k))
  ]
    where
      behind : (a b : List Op) → IsDone working_ops a [] → IsDone (Append changelog_index (new_changelog_entry t r next) ∷ []) b (o ∷ l) → IsStill r t (after_all a opened) → IsStill r t (after_all b (after_all a opened))
      behind a b k g i =
          let less = append-less changelog_index (new_changelog_entry t r next) b o l g in
          let now : bytes_at (after_all b (after_all a opened)) changelog_index ≡ bytes_at t changelog_index ++ less.0 = less.2 (after_all a opened) ∙ ap (λ x. x ++ less.0) (index-kept a [] k) in
          let other = (λ (q : List ℕ) (apart : same changelog_index q ≡ false). bytes-same (after_all a opened) (after_all b (after_all a opened)) q (part-other q (Append changelog_index (new_changelog_entry t r next) ∷ []) b (o ∷ l) (after_all a opened) g (or-both _ _ apart refl))) in
          record {
            index = ap (λ x. length (index_apart x) / 64) now ∙ part-counted (bytes_at t changelog_index) (bytes_at t changelog_data) less.0 (history r.changesets).changelog (changelog-plain t separate) f.stands.revlogs.changelog (small less.0 less.1);
            roots = subst (GivesPhases r) (sym (other roots_path refl)) i.roots;
            marks = other bookmarks_path refl ∙ i.marks;
            working = other dirstate_path refl ∙ i.working;
          }
        where
          small : (x : List ℕ) → (length x < length (new_changelog_entry t r next)) ⊎ (x ≡ []) → length x < 64
          small x (inl lt) = omega (arith, lt, size)
          small x (inr e) = let z : length x ≡ 0 = ap length e in omega (arith, z)

  -- and with the new index of an import made beside it
  pub made-still : (text : List ℕ) (done : List Op) (o : Op) (l : List Op) → IsDone ((growth t r next ++ Create new_changelog_path text ∷ firsts) ++ Rename new_changelog_path changelog_index ∷ []) done (o ∷ l) → IsStill r t (after_all done opened)
  made-still text done o l h = elim (done-split (growth t r next ++ Create new_changelog_path text ∷ firsts) (Rename new_changelog_path changelog_index ∷ []) done (o ∷ l) h) [
    | inl (m, k) ↦ part done m k
    | inr (a, b, e, k, g) ↦ subst (λ (d : List Op). IsStill r t (after_all d opened)) (sym (e ∙ ap (λ d. a ++ d) (rename-none new_changelog_path changelog_index b o l g) ∙ append-nil a)) (part a [] k)
  ]
    where
      part : (d m : List Op) → IsDone (growth t r next ++ Create new_changelog_path text ∷ firsts) d m → IsStill r t (after_all d opened)
      part d m k =
          let c = before-comes opened (growth t r next) firsts text (growth-quiet t r next new_changelog_path refl) (first-untouched (roots_change r next) (roots_of next) new_changelog_path refl) d m k in
          let i = part-still c.other c.rest c.is_done in
          let same_bytes = (λ (q : List ℕ) (apart : same new_changelog_path q ≡ false). bytes-same (after_all c.other opened) (after_all d opened) q (c.agree q apart)) in
          record {
            index = ap (λ x. length (index_apart x) / 64) (same_bytes changelog_index refl) ∙ i.index;
            roots = subst (GivesPhases r) (sym (same_bytes roots_path refl)) i.roots;
            marks = same_bytes bookmarks_path refl ∙ i.marks;
            working = same_bytes dirstate_path refl ∙ i.working;
          }

module _ (below : Below) (t : Tree) (r next : Repo) (who : List ℕ) (s : Stands t r) where
  -- the tree with the journal of a command
  abbrev opened_of : Command → Tree
  opened_of command = apply (transaction_of t r command who next).journal (after_all (transaction_of t r command who next).before t)

  same-files : (command : Command) (ready : IsReady t r command next) (p : List ℕ) → is_loose strays p ≡ false → same p journal_path ≡ false → opened_of command p ≡ t p
  same-files command ready p free off = begun-same below t who (replacements r command next) (journalled t r command next) (changes_before t r command next) (publishing t r command next) (renames_after command next) (plan-of t r next command ready) r s p free off

  commit-begun : (n : NewChange) (answer : Answer) → IsNewChange n → step r (Commit n) ≡ Ok (next, answer) → (ready : IsReady t r (Commit n) next) → IsBegun t (opened_of (Commit n)) r next
  commit-begun n answer good accepted ready =
      let d = commit-gone r n (next, answer) good accepted in
      record {
        stands = s;
        repository = commit-keeps r n next answer s.repository good accepted;
        changesets = d.changesets;
        phases = d.phases;
        different = ready.0.changelog.different;
        same_files = same-files (Commit n) ready;
        put = λ e. apply-other (transaction_of t r (Commit n) who next).journal (after_all (transaction_of t r (Commit n) who next).before t) new_roots_path refl
            ∙ roots-put t who (roots_change r next) (is_some n.bookmark) (roots_of next) (new_dirstate next).text (new_bookmarks next).text (backups_of t r (Commit n) next) (journal_text (journal_of t r (Commit n) next)) (growth t r next) changelog_index (new_changelog_entry t r next) refl (growth-appends t r next) (growth-quiet t r next) e;
      }

  import-begun : (changes : List NewChange) (answer : Answer) → IsValid (Import changes) → step r (Import changes) ≡ Ok (next, answer) → (ready : IsReady t r (Import changes) next) → IsBegun t (opened_of (Import changes)) r next
  import-begun changes answer good accepted ready =
      let d = import-gone r changes (next, answer) good.each accepted in
      record {
        stands = s;
        repository = import-keeps r changes next answer s.repository good.each accepted;
        changesets = d.changesets;
        phases = d.phases;
        different = ready.0.changelog.different;
        same_files = same-files (Import changes) ready;
        put = λ e. apply-other (transaction_of t r (Import changes) who next).journal (after_all (transaction_of t r (Import changes) who next).before t) new_roots_path refl
            ∙ roots-put t who (roots_change r next) (sets_bookmark changes) (roots_of next) (new_dirstate next).text (new_bookmarks next).text (backups_of t r (Import changes) next) (journal_text (journal_of t r (Import changes) next)) (growth t r next) changelog_index (new_changelog_entry t r next) refl (growth-appends t r next) (growth-quiet t r next) e;
      }

  pub commit-still : (n : NewChange) (answer : Answer) → IsNewChange n → step r (Commit n) ≡ Ok (next, answer) → (ready : IsReady t r (Commit n) next) → (done : List Op) (o : Op) (l : List Op)
      → IsDone ((transaction_of t r (Commit n) who next).changes ++ (transaction_of t r (Commit n) who next).publish ∷ []) done (o ∷ l) → IsStill r t (after_all done (opened_of (Commit n)))
  commit-still n answer good accepted ready done o l h =
      entry-still t (opened_of (Commit n)) r next (commit-begun n answer good accepted ready) ready.0.separate (entry-length t r next n answer s good accepted) done o l h

  pub import-still : (changes : List NewChange) (answer : Answer) → IsValid (Import changes) → step r (Import changes) ≡ Ok (next, answer) → (ready : IsReady t r (Import changes) next) → (done : List Op) (o : Op) (l : List Op)
      → IsDone ((transaction_of t r (Import changes) who next).changes ++ (transaction_of t r (Import changes) who next).publish ∷ []) done (o ∷ l) → IsStill r t (after_all done (opened_of (Import changes)))
  import-still changes answer good accepted ready done o l h = made-still t (opened_of (Import changes)) r next (import-begun changes answer good accepted ready) (new_changelog_index t r next) done o l h

-- ---- each command

module _ (below : Below) (t : Tree) (r next : Repo) (command : Command) (who : List ℕ) (s : Stands t r) (ready : IsReady t r command next) where
  abbrev before : List Op
  before = (transaction_of t r command who next).before

  abbrev laid : Tree
  laid = after_all before t

  abbrev opened_all : Tree
  opened_all = apply (transaction_of t r command who next).journal laid

  module _ (still : (done : List Op) (o : Op) (l : List Op) → IsDone ((transaction_of t r command who next).changes ++ (transaction_of t r command who next).publish ∷ []) done (o ∷ l) → IsStill r t (after_all done opened_all)) (done : List Op) (o : Op) (l : List Op) (h : IsDone ((transaction_of t r command who next).changes ++ (transaction_of t r command who next).publish ∷ []) done (o ∷ l)) where
    pub work-shows : Shows (after_all done opened_all) r r r
    work-shows = working-shows below t who (replacements r command next) (journalled t r command next) (changes_before t r command next) (publishing t r command next) (renames_after command next) (plan-of t r next command ready) r s still done o l h

    pub undo-shows : (undone rest : List Op) → IsDone (transaction_of t r command who next).undo undone rest → Shows (after_all undone (after_all done opened_all)) r r r
    undo-shows undone rest k = undoing-shows below t who (replacements r command next) (journalled t r command next) (changes_before t r command next) (publishing t r command next) (renames_after command next) (plan-of t r next command ready) r s still done o l h undone rest k

-- before it publishes a command other than a commit or an import has done nothing behind its journal
pub all-still : (below : Below) (t : Tree) (r next : Repo) (command : Command) (who : List ℕ) (answer : Answer) (s : Stands t r) → IsValid command → step r command ≡ Ok (next, answer) → (ready : IsReady t r command next) → (done : List Op) (o : Op) (l : List Op)
    → IsDone ((transaction_of t r command who next).changes ++ (transaction_of t r command who next).publish ∷ []) done (o ∷ l) → IsStill r t (after_all done (apply (transaction_of t r command who next).journal (after_all (transaction_of t r command who next).before t)))
all-still below t r next (Commit n) who answer s valid e ready done o l h = commit-still below t r next who s n answer valid e ready done o l h
all-still below t r next (Import changes) who answer s valid e ready done o l h = import-still below t r next who s changes answer valid e ready done o l h
all-still below t r next (Move rev phase force) who answer s valid e ready done o l h =
    subst (λ (x : List Op). IsStill r t (after_all x (apply (transaction_of t r (Move rev phase force) who next).journal (after_all (transaction_of t r (Move rev phase force) who next).before t)))) (sym (rename-none _ _ done o l h))
    (begun-still below t who (replacements r (Move rev phase force) next) (journalled t r (Move rev phase force) next) [] (publishing t r (Move rev phase force) next) [] (plan-of t r next (Move rev phase force) ready) r s)
all-still below t r next (Mark name rev) who answer s valid e ready done o l h =
    subst (λ (x : List Op). IsStill r t (after_all x (apply (transaction_of t r (Mark name rev) who next).journal (after_all (transaction_of t r (Mark name rev) who next).before t)))) (sym (rename-none _ _ done o l h))
    (begun-still below t who (replacements r (Mark name rev) next) (journalled t r (Mark name rev) next) [] (publishing t r (Mark name rev) next) [] (plan-of t r next (Mark name rev) ready) r s)
all-still below t r next (Unmark name) who answer s valid e ready done o l h =
    subst (λ (x : List Op). IsStill r t (after_all x (apply (transaction_of t r (Unmark name) who next).journal (after_all (transaction_of t r (Unmark name) who next).before t)))) (sym (rename-none _ _ done o l h))
    (begun-still below t who (replacements r (Unmark name) next) (journalled t r (Unmark name) next) [] (publishing t r (Unmark name) next) [] (plan-of t r next (Unmark name) ready) r s)
