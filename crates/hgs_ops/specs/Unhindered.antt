-- What may keep an accepted commit or import from being done in a tree.
use Rattle.std.specs.Prelude.{◌≡◌, ◌≤◌, ◌<◌, ◌^◌, ℕ, List, [], true, false, length, drop, Ok}
use Rattle.std.specs.List.{AllByRecursion}
use Rattle.hex.specs.Hex.{IsBytes}
use Rattle.hgs_bytes.specs.Bytes.{among}
use Rattle.hgs_files.specs.Tree.{Tree, bytes_at}
use Rattle.hgs_index.specs.Node.{null_node}
use Rattle.hgs_index.specs.Revision.{Revision, nodes}
use Rattle.hgs_index.specs.Revlog.{Item, all_different}
use Rattle.hgs_journal.specs.Covers.{journal_paths}
use Rattle.hgs_model.specs.History.{history, uses}
use Rattle.hgs_model.specs.Repo.{Repo}
use Rattle.hgs_model.specs.declared.command.Command.{Command}
use Rattle.hgs_model.specs.declared.command.Command.TheVariants.{Commit, Import}
use Rattle.hgs_path.specs.declared.name.Ext.{Ext}
use Rattle.hgs_path.specs.Fncache.{clashes}
use Rattle.hgs_path.specs.ListedNames.{names_of}
use Rattle.hgs_path.specs.StoreName.{listed_name, store_name}
use Rattle.hgs_revlog.specs.Load.{most_data, most_revisions, most_text}
use Rattle.hgs_stands.specs.Places.{changelog_data, fncache_path, manifest_data}
use Rattle.hgs_stands.specs.Stands.{has_inline_log, listed_file}
use Rattle.hgs_ops.specs.Growth.{begins_inline, growing_chunks, is_part, new_items, new_paths}
use Rattle.hgs_ops.specs.Operations.{journal_of}

-- Behind chunks of this length and the old revisions, the chunk of each new one begins at a number that has room in an entry.
abbrev pub HavePlaces : ℕ → List Revision → List Revision → Type 0
HavePlaces offset old all = AllByRecursion (λ (i : Item). i.entry.offset ≤ most_data) (new_items offset old (drop (length old) all))

-- the numbers of the changesets and of the bytes of data that are appended to have room in an index
pub record HasRoom (t : Tree) (r next : Repo) : Type 0 where
  pub changesets : length next.changesets ≤ most_revisions
  pub changelog : HavePlaces (length (bytes_at t changelog_data)) (history r.changesets).changelog (history next.changesets).changelog
  pub manifest : HavePlaces (length (bytes_at t manifest_data)) (history r.changesets).manifest (history next.changesets).manifest
  pub filelogs : (path : List ℕ) → among path (new_paths r next) ≡ true
      → HavePlaces (length (growing_chunks t path ((history r.changesets).filelog path) ((history next.changesets).filelog path))) ((history r.changesets).filelog path) ((history next.changesets).filelog path)

-- The texts of the revisions behind the old ones are within the limit, no two of all have one node, and none has the null
-- node.
pub record AreNewRevisions (old all : List Revision) : Type 0 where
  pub texts : AllByRecursion (λ (r : Revision). length r.text ≤ most_text) (drop (length old) all)
  pub different : all_different (nodes all) ≡ true
  pub not_null : among null_node (nodes all) ≡ false

-- No limit, no collision, no clash of names and no file in the way keeps a commit or an import from leading to the next
-- repository: changelog and manifest are separate, since no writer appends to an inline one, no used path clashes with a path of a new
-- changeset, a listed name of a file of such a path is that path's, and where a path is not used yet the files that its filelog
-- will have have no bytes.
pub record IsUnhindered (t : Tree) (r next : Repo) : Type 0 where
  pub room : HasRoom t r next
  pub separate : has_inline_log t ≡ false
  pub changelog : AreNewRevisions (history r.changesets).changelog (history next.changesets).changelog
  pub manifest : AreNewRevisions (history r.changesets).manifest (history next.changesets).manifest
  pub filelogs : (path : List ℕ) → AreNewRevisions ((history r.changesets).filelog path) ((history next.changesets).filelog path)
  pub names : (path other : List ℕ) → among path (new_paths r next) ≡ true → uses next.changesets other ≡ true → clashes path other ≡ false
  pub listed : (names : List (List ℕ)) → names_of (bytes_at t fncache_path) ≡ Ok names → (name path : List ℕ) (ext : Ext) → among name names ≡ true → among path (new_paths r next) ≡ true → listed_file name ≡ store_name path ext → listed_name path ext ≡ name
  pub free : (path : List ℕ) (ext : Ext) → among path (new_paths r next) ≡ true → uses r.changesets path ≡ false → is_part (begins_inline ((history next.changesets).filelog path)) ext ≡ true → bytes_at t (store_name path ext) ≡ []

-- What a journal can say of a commit or an import: the new changesets' paths are bytes, and the length of each file that is appended to
-- has room in a line.
pub record CanBeJournalled (t : Tree) (r : Repo) (command : Command) (next : Repo) : Type 0 where
  pub paths : AllByRecursion IsBytes (new_paths r next)
  pub sizes : (path : List ℕ) → among path (journal_paths (journal_of t r command next)) ≡ true → length (bytes_at t path) < 2 ^ 64

-- what a command needs of a tree beside being accepted
abbrev pub IsReady : Tree → Repo → Command → Repo → Type 0
IsReady t r (Commit n) next = IsUnhindered t r next × CanBeJournalled t r (Commit n) next
IsReady t r (Import changes) next = IsUnhindered t r next × CanBeJournalled t r (Import changes) next
IsReady t r _ next = Unit {0}
