-- What stands in locks and strays hinders nothing, and changes no operation.
use Rattle.std.proofs.Common.{◌≡◌, ◌⊎◌, ◌<◌, ◌^◌, ℕ, List, [], ◌∷◌, ◌++◌, Bool, true, false, ◌||◌, drop, flat_map, length, refl, sym, ◌∙◌, ap, subst, inl, inr}
use Rattle.std.specs.Prelude.{Option, unwrap_or}
use Rattle.std.specs.List.{list_any}
use Rattle.hgs_bytes.specs.Bytes.{among, same}
use Rattle.hgs_bytes.specs.Text.{line}
use Rattle.hgs_bytes.specs.Theorems.ByteLemmas.{same-eq}
use Rattle.hgs_files.specs.declared.op.Op.{Op}
use Rattle.hgs_files.specs.declared.op.Op.TheVariants.{Append, Cut, Rename, Remove, Create, Sync, Settle}
use Rattle.hgs_files.specs.Tree.{Tree, bytes_at}
use Rattle.hgs_index.specs.Either.{chunk_bytes}
use Rattle.hgs_index.specs.Inline.{is_inline}
use Rattle.hgs_index.specs.Revision.{Revision}
use Rattle.hgs_journal.specs.declared.journal.JournalLine.{JournalLine}
use Rattle.hgs_journal.specs.Covers.{is_loose, journal_paths}
use Rattle.hgs_journal.specs.Names.{in_store, journal_path}
use Rattle.hgs_model.specs.History.{history}
use Rattle.hgs_model.specs.Repo.{Repo}
use Rattle.hgs_model.specs.declared.command.Command.{Command}
use Rattle.hgs_model.specs.declared.command.Command.TheVariants.{Commit, Import, Move, Mark, Unmark}
use Rattle.hgs_ops.specs.Growth.{append_some, filelog_growth, filelogs_grow, grown, growth, grows_inline, new_changelog_entry, new_chunks, new_data, new_entries, new_items, new_names, new_paths}
use Rattle.hgs_ops.specs.Operations.{appending, changes_before, journal_lines, journalled, new_changelog_index, new_changelog_path, publishing, roots_renamed, strays}
use Rattle.hgs_ops.specs.Unhindered.{HavePlaces, IsReady, IsUnhindered}
use Rattle.hgs_ops.specs.Theorems.Clear.{any-append, clear-apart, growth-clear, paths-append, roots-no_lines}
use Rattle.hgs_ops.specs.Theorems.CommitTree.{first_of}
use Rattle.hgs_ops.specs.Replaced.{roots_change, roots_of}
use Rattle.hgs_ops.specs.Theorems.Touch.{bool, never, or-left, or-right}
use Rattle.hgs_path.specs.declared.name.Ext.{Ext}
use Rattle.hgs_path.specs.declared.name.Ext.TheVariants.{D, I}
use Rattle.hgs_path.specs.ListedNames.{names_of}
use Rattle.hgs_path.specs.StoreName.{store_name}
use Rattle.hgs_stands.specs.Places.{changelog_data, changelog_index, fncache_path, manifest_data, manifest_index}
use Rattle.hgs_stands.specs.Theorems.LooseLemmas.{store-not-loose}

-- two trees are the same but for their locks and strays
abbrev pub AreSameAside : Tree → Tree → Type 0
AreSameAside t u = (path : List ℕ) → is_loose strays path ≡ false → u path ≡ t path

bytes-of : (o p : Option (List ℕ)) → o ≡ p → unwrap_or o [] ≡ unwrap_or p []
bytes-of o p e = ap (λ x. unwrap_or x []) e

-- the journal's files are those that are appended to, whatever their lengths
paths-same : (t u : Tree) (ops : List Op) → journal_paths (journal_lines u ops) ≡ journal_paths (journal_lines t ops)
paths-same t u [] = refl
paths-same t u (Append path bytes ∷ ops) = ap (λ (l : List (List ℕ)). in_store (drop 6 path) ∷ l) (paths-same t u ops)
paths-same t u (Cut path len ∷ ops) = paths-same t u ops
paths-same t u (Rename from to ∷ ops) = paths-same t u ops
paths-same t u (Remove path ∷ ops) = paths-same t u ops
paths-same t u (Create path bytes ∷ ops) = paths-same t u ops
paths-same t u (Sync path ∷ ops) = paths-same t u ops
paths-same t u (Settle ∷ ops) = paths-same t u ops

-- no lock and no stray is in the journal of a commit or an import
among-not : (test : List ℕ → Bool) (p : List ℕ) (paths : List (List ℕ)) → list_any test paths ≡ false → among p paths ≡ true → ((x : List ℕ) → same p x ≡ true → test p ≡ test x) → test p ≡ false
among-not test p [] none there e = never (sym there)
among-not test p (x ∷ paths) none there e = by (bool (same p x)) (among-not test p paths (or-right (test x) (list_any test paths) none))
  where
    by : (same p x ≡ true) ⊎ (same p x ≡ false) → (among p paths ≡ true → ((y : List ℕ) → same p y ≡ true → test p ≡ test y) → test p ≡ false) → test p ≡ false
    by (inl h) rest = e x h ∙ or-left (test x) (list_any test paths) none
    by (inr h) rest = rest (ap (λ b. b || among p paths) (sym h) ∙ there) e

module _ (t u : Tree) (aside : AreSameAside t u) where
  own : (path : List ℕ) → is_loose strays path ≡ false → bytes_at u path ≡ bytes_at t path
  own path free = bytes-of (u path) (t path) (aside path free)

  stored : (path : List ℕ) (ext : Ext) → u (store_name path ext) ≡ t (store_name path ext)
  stored path ext = aside (store_name path ext) (store-not-loose strays path ext refl)

  -- ---- operations

  grown-same : (inline : Bool) (index data_path : List ℕ) (old all : List Revision) → u index ≡ t index → u data_path ≡ t data_path → grown inline u index data_path old all ≡ grown inline t index data_path old all
  grown-same inline index data_path old all i d =
      let growing = λ (x y : Option (List ℕ)). (let items = new_items (length (chunk_bytes inline (unwrap_or x []) (unwrap_or y []))) old (drop (length old) all) in append_some data_path (new_data inline items) ++ append_some index (new_entries inline old items)) in
      ap (λ x. growing x (u data_path)) i ∙ ap (growing (t index)) d

  filelog-same : (path : List ℕ) (old all : List Revision) → filelog_growth u path old all ≡ filelog_growth t path old all
  filelog-same path old all =
      ap (λ (x : Option (List ℕ)). grown (grows_inline (unwrap_or x []) old all) u (store_name path I) (store_name path D) old all) (stored path I)
      ∙ grown-same (grows_inline (bytes_at t (store_name path I)) old all) (store_name path I) (store_name path D) old all (stored path I) (stored path D)

  pub growth-same : (r next : Repo) → growth u r next ≡ growth t r next
  growth-same r next =
      let old = history r.changesets in
      let new = history next.changesets in
      let files : filelogs_grow u old.filelog new.filelog (new_paths r next) ≡ filelogs_grow t old.filelog new.filelog (new_paths r next) = ap (λ (f : List ℕ → List Op). flat_map f (new_paths r next)) (λ i path. filelog-same path (old.filelog path) (new.filelog path) i) in
      let manifest = grown-same false manifest_index manifest_data old.manifest new.manifest (aside manifest_index refl) (aside manifest_data refl) in
      let lines = append_some fncache_path (flat_map line (new_names old.filelog new.filelog (new_paths r next))) in
      let entries = λ (o : Option (List ℕ)). append_some changelog_data (new_chunks (new_items (length (unwrap_or o [])) old.changelog (drop (length old.changelog) new.changelog))) in
      ap (λ l. l ++ lines ++ grown false u manifest_index manifest_data old.manifest new.manifest ++ entries (u changelog_data)) files
      ∙ ap (λ l. filelogs_grow t old.filelog new.filelog (new_paths r next) ++ lines ++ l ++ entries (u changelog_data)) manifest
      ∙ ap (λ o. filelogs_grow t old.filelog new.filelog (new_paths r next) ++ lines ++ grown false t manifest_index manifest_data old.manifest new.manifest ++ entries o) (aside changelog_data refl)

  pub entry-same : (r next : Repo) → new_changelog_entry u r next ≡ new_changelog_entry t r next
  entry-same r next =
      let old = (history r.changesets).changelog in
      ap (λ (o : Option (List ℕ)). new_entries false old (new_items (length (unwrap_or o [])) old (drop (length old) (history next.changesets).changelog))) (aside changelog_data refl)

  pub appending-same : (r next : Repo) → appending u r next ≡ appending t r next
  appending-same r next =
      ap (λ l. (l ++ roots_renamed r next) ++ Append changelog_index (new_changelog_entry u r next) ∷ []) (growth-same r next)
      ∙ ap (λ l. (growth t r next ++ roots_renamed r next) ++ Append changelog_index l ∷ []) (entry-same r next)

  pub changes-same : (r : Repo) (command : Command) (next : Repo) → changes_before u r command next ≡ changes_before t r command next
  changes-same r (Commit n) next = ap (λ l. l ++ roots_renamed r next) (growth-same r next)
  changes-same r (Import changes) next =
      ap (λ l. l ++ Create new_changelog_path (new_changelog_index u r next) ∷ roots_renamed r next) (growth-same r next)
      ∙ ap (λ o. growth t r next ++ Create new_changelog_path (unwrap_or o [] ++ new_changelog_entry u r next) ∷ roots_renamed r next) (aside changelog_index refl)
      ∙ ap (λ l. growth t r next ++ Create new_changelog_path (bytes_at t changelog_index ++ l) ∷ roots_renamed r next) (entry-same r next)
  changes-same r (Move rev phase force) next = refl
  changes-same r (Mark name rev) next = refl
  changes-same r (Unmark name) next = refl

  pub publishing-same : (r : Repo) (command : Command) (next : Repo) → publishing u r command next ≡ publishing t r command next
  publishing-same r (Commit n) next = ap (λ l. Append changelog_index l) (entry-same r next)
  publishing-same r (Import changes) next = refl
  publishing-same r (Move rev phase force) next = refl
  publishing-same r (Mark name rev) next = refl
  publishing-same r (Unmark name) next = refl

  pub journalled-same : (r : Repo) (command : Command) (next : Repo) → journalled u r command next ≡ journalled t r command next
  journalled-same r (Commit n) next = appending-same r next
  journalled-same r (Import changes) next = appending-same r next
  journalled-same r (Move rev phase force) next = refl
  journalled-same r (Mark name rev) next = refl
  journalled-same r (Unmark name) next = refl

  -- ---- what hinders

  pub unhindered-same : (r next : Repo) → IsUnhindered t r next → IsUnhindered u r next
  unhindered-same r next h = record {
    room = record {
      changesets = h.room.changesets;
      changelog = subst (λ (b : List ℕ). HavePlaces (length b) (history r.changesets).changelog (history next.changesets).changelog) (sym (own changelog_data refl)) h.room.changelog;
      manifest = subst (λ (b : List ℕ). HavePlaces (length b) (history r.changesets).manifest (history next.changesets).manifest) (sym (own manifest_data refl)) h.room.manifest;
      filelogs = λ path new. subst (λ (b : List ℕ). HavePlaces (length b) ((history r.changesets).filelog path) ((history next.changesets).filelog path))
          (λ i. chunk_bytes (grows_inline (bytes path I i) ((history r.changesets).filelog path) ((history next.changesets).filelog path)) (bytes path I i) (bytes path D i)) (h.room.filelogs path new);
    };
    separate = (λ i. is_inline (own changelog_index refl i) || is_inline (own manifest_index refl i)) ∙ h.separate;
    changelog = h.changelog;
    manifest = h.manifest;
    filelogs = h.filelogs;
    names = h.names;
    listed = λ names text. h.listed names (ap names_of (sym (own fncache_path refl)) ∙ text);
    free = λ path ext new unused part. sym (bytes path ext) ∙ h.free path ext new unused part;
  }
    where
      bytes : (path : List ℕ) (ext : Ext) → bytes_at t (store_name path ext) ≡ bytes_at u (store_name path ext)
      bytes path ext = sym (bytes-of (u (store_name path ext)) (t (store_name path ext)) (stored path ext))

  abbrev is_aside : List ℕ → Bool
  is_aside path = is_loose strays path || same path journal_path

  journal-apart : (r next : Repo) → list_any is_aside (journal_paths (journal_lines u (appending u r next))) ≡ false
  journal-apart r next =
      ap (list_any is_aside) (paths-append u (growth u r next ++ first_of (roots_change r next) (roots_of next)) (Append changelog_index (new_changelog_entry u r next) ∷ []) ∙ ap (λ l. l ++ (changelog_index ∷ [])) (paths-append u (growth u r next) (first_of (roots_change r next) (roots_of next))))
      ∙ any-append is_aside (journal_paths (journal_lines u (growth u r next)) ++ journal_paths (journal_lines u (first_of (roots_change r next) (roots_of next)))) (changelog_index ∷ [])
      (any-append is_aside (journal_paths (journal_lines u (growth u r next))) (journal_paths (journal_lines u (first_of (roots_change r next) (roots_of next)))) (clear-apart u (growth u r next) (growth-clear u r next))
      (ap (λ (l : List JournalLine). list_any is_aside (journal_paths l)) (roots-no_lines u (roots_change r next) (roots_of next)))) refl

  journalled-own : (r next : Repo) (path : List ℕ) → among path (journal_paths (journal_lines u (appending u r next))) ≡ true → is_loose strays path ≡ false
  journalled-own r next path there = or-left (is_loose strays path) (same path journal_path)
      (among-not is_aside path (journal_paths (journal_lines u (appending u r next))) (journal-apart r next) there (λ x e. ap is_aside (same-eq path x e)))

  lengths-same : (r : Repo) (next : Repo) → ((path : List ℕ) → among path (journal_paths (journal_lines t (appending t r next))) ≡ true → length (bytes_at t path) < 2 ^ 64)
      → (path : List ℕ) → among path (journal_paths (journal_lines u (appending u r next))) ≡ true → length (bytes_at u path) < 2 ^ 64
  lengths-same r next h path there =
      subst (λ (b : List ℕ). length b < 2 ^ 64) (sym (own path (journalled-own r next path there)))
      (h path (ap (among path) (sym (ap (λ l. journal_paths (journal_lines u l)) (appending-same r next) ∙ paths-same t u (appending t r next))) ∙ there))

  -- what is ready in one is ready in the other
  pub ready-same : (r : Repo) (command : Command) (next : Repo) → IsReady t r command next → IsReady u r command next
  ready-same r (Commit n) next h = (unhindered-same r next h.0, record { paths = h.1.paths; sizes = lengths-same r next h.1.sizes })
  ready-same r (Import changes) next h = (unhindered-same r next h.0, record { paths = h.1.paths; sizes = lengths-same r next h.1.sizes })
  ready-same r (Move rev phase force) next h = tt
  ready-same r (Mark name rev) next h = tt
  ready-same r (Unmark name) next h = tt
