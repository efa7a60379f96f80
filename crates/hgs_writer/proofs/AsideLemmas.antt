-- Locks and strays aside two trees are the same: a command needs and reads the same of both, and there is as much room in both.
use Rattle.std.proofs.Common.{◌≡◌, ℕ, ◌+◌, List, [], ◌∷◌, Bool, false, ◌||◌, drop, length, refl, sym, ◌∙◌, ap, subst, inl, inr}
use Rattle.std.specs.Prelude.{◌≤◌, Option, Result, Ok, Err, sum_by, unwrap_or}
use Rattle.hgs_files.specs.Tree.{Tree, after_all, bytes_at}
use Rattle.hgs_index.specs.Either.{chunk_bytes, chunks_either}
use Rattle.hgs_index.specs.Inline.{is_inline}
use Rattle.hgs_index.specs.Revision.{Revision}
use Rattle.hgs_index.specs.Revlog.{chunk_of}
use Rattle.hgs_journal.specs.Covers.{is_loose}
use Rattle.hgs_legal.specs.ListsPaths.{AreKeptLines, ListsPaths}
use Rattle.hgs_load.specs.Open.{most_bookmarks_text, most_dirstate, most_roots}
use Rattle.hgs_loading.specs.Small.{most_fncache}
use Rattle.hgs_model.specs.History.{history}
use Rattle.hgs_model.specs.Repo.{Repo}
use Rattle.hgs_model.specs.Step.{Next, step}
use Rattle.hgs_model.specs.declared.command.Command.TheVariants.{Commit}
use Rattle.hgs_model.specs.declared.command.NewChange.{NewChange}
use Rattle.hgs_model.specs.declared.command.Refusal.{Refusal}
use Rattle.hgs_ops.specs.Growth.{grows_inline}
use Rattle.hgs_ops.specs.Laid.{laid}
use Rattle.hgs_ops.specs.Operations.{strays}
use Rattle.hgs_ops.specs.Theorems.Beside.{AreSameAside}
use Rattle.hgs_path.specs.declared.name.Ext.{Ext}
use Rattle.hgs_path.specs.declared.name.Ext.TheVariants.{I, D}
use Rattle.hgs_path.specs.StoreName.{store_name}
use Rattle.hgs_revlog.specs.Held.{AreWithinLimits}
use Rattle.hgs_revlog.specs.Load.{most_data}
use Rattle.hgs_stands.specs.Places.{bookmarks_path, changelog_data, changelog_index, dirstate_path, fncache_path, manifest_data, manifest_index, roots_path}
use Rattle.hgs_stands.specs.Stands.{has_inline_log}
use Rattle.hgs_writer.specs.Alone.{LacksRoom, SomeLacksRoom}
use Rattle.hgs_writer.specs.Below.{Below}
use Rattle.hgs_writer.specs.Commits.{CanBeRead}
use Rattle.hgs_writer.specs.Free.{HasRoomFor, IsFree, new_lines}
use Rattle.hgs_writer.specs.Imports.{AreReadWithin, SomeRecord}
use Rattle.hgs_writer.specs.Limits.{LoadsWithin}

module _ (laws : Below) (t u : Tree) (aside : AreSameAside t u) where
  -- a file that is neither has the same bytes
  bytes-stay : (path : List ℕ) → is_loose strays path ≡ false → bytes_at t path ≡ bytes_at u path
  bytes-stay path free = ap (λ (o : Option (List ℕ)). unwrap_or o []) (sym (aside path free))

  -- so has a filelog's file
  filelog-stays : (path : List ℕ) (ext : Ext) → bytes_at t (store_name path ext) ≡ bytes_at u (store_name path ext)
  filelog-stays path ext = bytes-stay (store_name path ext) (ap (is_loose strays) (laws.filelog_names path ext).1)

  list-stays : bytes_at t fncache_path ≡ bytes_at u fncache_path
  list-stays = bytes-stay fncache_path refl

  pub lists-stay : (r : Repo) → ListsPaths t r → ListsPaths u r
  lists-stay r lists = record { lines = subst (AreKeptLines r.changesets) list-stays lists.lines }

  pub read-stays : (r : Repo) → CanBeRead t r → CanBeRead u r
  read-stays r read = record {
    trees = read.trees;
    filelogs = λ path used. subst (AreWithinLimits ((history r.changesets).filelog path)) (λ i. chunks_either (filelog-stays path I i) (filelog-stays path D i)) (read.filelogs path used);
  }

  pub loads-stay : (r : Repo) → LoadsWithin t r → LoadsWithin u r
  loads-stay r within = record {
    bookmarks = subst (λ (b : List ℕ). length b ≤ most_bookmarks_text) (bytes-stay bookmarks_path refl) within.bookmarks;
    dirstate = subst (λ (b : List ℕ). length b ≤ most_dirstate) (bytes-stay dirstate_path refl) within.dirstate;
    roots = subst (λ (b : List ℕ). length b ≤ most_roots) (bytes-stay roots_path refl) within.roots;
    fncache = subst (λ (b : List ℕ). length b ≤ most_fncache) list-stays within.fncache;
    changelog = subst (AreWithinLimits (history r.changesets).changelog) (λ i. chunks_either (bytes-stay changelog_index refl i) (bytes-stay changelog_data refl i)) within.changelog;
    manifest = subst (AreWithinLimits (history r.changesets).manifest) (λ i. chunks_either (bytes-stay manifest_index refl i) (bytes-stay manifest_data refl i)) within.manifest;
  }

  -- there is as much room
  revlog-stays : (inline : Bool) (index chunks : List ℕ) (old all : List Revision) → bytes_at t index ≡ bytes_at u index → bytes_at t chunks ≡ bytes_at u chunks → HasRoomFor inline t index chunks old all → HasRoomFor inline u index chunks old all
  revlog-stays inline index chunks old all same_index same_bytes room = record {
    few = room.few;
    data_end = subst (λ (b : List ℕ). length b + sum_by (λ (x : Revision). length (chunk_of x.text)) (drop (length old) all) ≤ most_data) (λ i. chunk_bytes inline (same_index i) (same_bytes i)) room.data_end;
    new = room.new;
  }

  filelog-room : (path : List ℕ) (old all : List Revision) → HasRoomFor (grows_inline (bytes_at t (store_name path I)) old all) t (store_name path I) (store_name path D) old all → HasRoomFor (grows_inline (bytes_at u (store_name path I)) old all) u (store_name path I) (store_name path D) old all
  filelog-room path old all room =
      subst (λ (index : List ℕ). HasRoomFor (grows_inline index old all) u (store_name path I) (store_name path D) old all) (filelog-stays path I)
      (revlog-stays (grows_inline (bytes_at t (store_name path I)) old all) (store_name path I) (store_name path D) old all (filelog-stays path I) (filelog-stays path D) room)

  -- the forms of changelog and manifest stay
  pub form-stays : has_inline_log u ≡ has_inline_log t
  form-stays = λ i. is_inline (sym (bytes-stay changelog_index refl) i) || is_inline (sym (bytes-stay manifest_index refl) i)

  pub room-stays : (r next : Repo) → IsFree t r next → IsFree u r next
  room-stays r next free = record {
    bookmarks = free.bookmarks;
    separate = form-stays ∙ free.separate;
    changelog = revlog-stays false changelog_index changelog_data (history r.changesets).changelog (history next.changesets).changelog (bytes-stay changelog_index refl) (bytes-stay changelog_data refl) free.changelog;
    manifest = revlog-stays false manifest_index manifest_data (history r.changesets).manifest (history next.changesets).manifest (bytes-stay manifest_index refl) (bytes-stay manifest_data refl) free.manifest;
    filelogs = λ path. filelog-room path ((history r.changesets).filelog path) ((history next.changesets).filelog path) (free.filelogs path);
    list = subst (λ (b : List ℕ). length b + length (new_lines r next) ≤ most_fncache) list-stays free.list;
    files = λ path ext there none part. sym (filelog-stays path ext) ∙ free.files path ext there none part;
  }

  pub lacks-before : (r : Repo) (stepped : Result Next Refusal) → LacksRoom u r stepped → LacksRoom t r stepped
  lacks-before r (Err e) lacks = lacks
  lacks-before r (Ok next) lacks = λ free. lacks (room-stays r next.0 free)

-- ---- records, one after another

module _ (laws : Below) where
  pub within-stay : (t u : Tree) (r : Repo) (changes : List NewChange) → AreSameAside t u → AreReadWithin t r changes → AreReadWithin u r changes
  within-stay t u r [] aside within = tt
  within-stay t u r (n ∷ changes) aside within = (
    loads-stay laws t u aside r within.0,
    read-stays laws t u aside r within.1,
    λ next e. within-stay (after_all (laid t r n next.0) t) (after_all (laid u r n next.0) u) next.0 changes (λ path free. laws.laid_alike t u r next.0 n aside path free) (within.2 next e),
  )

  pub some-before : (t u : Tree) (r : Repo) (changes : List NewChange) → AreSameAside t u → SomeLacksRoom u r changes → SomeLacksRoom t r changes
  some-before t u r [] aside some = absurd some
  some-before t u r (n ∷ changes) aside (inl lacks) = inl (lacks-before laws t u aside r (step r (Commit n)) lacks)
  some-before t u r (n ∷ changes) aside (inr (next, e, some)) = inr (next, e, some-before (after_all (laid t r n next.0) t) (after_all (laid u r n next.0) u) next.0 changes (λ path free. laws.laid_alike t u r next.0 n aside path free) some)

-- what holds of no tree holds of some record of it where it holds of some record of the other
pub some-alike : (P : Repo → NewChange → Type 0) (t u : Tree) (r : Repo) (changes : List NewChange) → SomeRecord (λ v now n. P now n) u r changes → SomeRecord (λ v now n. P now n) t r changes
some-alike P t u r [] some = absurd some
some-alike P t u r (n ∷ changes) (inl is) = inl is
some-alike P t u r (n ∷ changes) (inr (next, e, some)) = inr (next, e, some-alike P (after_all (laid t r n next.0) t) (after_all (laid u r n next.0) u) next.0 changes some)
