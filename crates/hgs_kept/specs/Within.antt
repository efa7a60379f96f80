-- Writers whose turns meet the tests of limits, and repositories that are within the limits of readers.
use Rattle.std.specs.Prelude.{true, ◌≡◌, ◌≤◌, ◌+◌, ◌++◌, ◌∷◌, ℕ, List, None, drop, length, sum_by}
use Rattle.std.specs.List.{AllByRecursion, FoldsTo}
use Rattle.hgs_files.specs.declared.op.Op.{Op}
use Rattle.hgs_files.specs.Tree.{Tree, after_all, bytes_at}
use Rattle.hgs_index.specs.Revision.{Revision}
use Rattle.hgs_index.specs.Revlog.{chunk_of}
use Rattle.hgs_load.specs.Marks.{most_bookmarks}
use Rattle.hgs_model.specs.declared.command.Command.{Command}
use Rattle.hgs_model.specs.declared.command.Command.TheVariants.{Commit, Import, Mark, Move, Unmark}
use Rattle.hgs_model.specs.History.{History, history}
use Rattle.hgs_model.specs.Repo.{Changeset, Repo}
use Rattle.hgs_revlog.specs.Load.{most_data, most_revisions, most_text}
use Rattle.hgs_bytes.specs.Bytes.{same}
use Rattle.hgs_journal.specs.Names.{journal_path, locks, place}
use Rattle.hgs_ops.specs.Replaced.{Replacement, replacements}
use Rattle.hgs_ops.specs.Operations.{strays}
use Rattle.hgs_stands.specs.Places.{bookmarks_path, changelog_data, changelog_index, dirstate_path, manifest_data, roots_path}
use Rattle.hgs_shown.specs.Limits.{IsSmallTree}
use Rattle.hgs_legal.specs.LegalLog.{Goes, Idle, Preparing, State, Turn, current, start_of, through_publishing}

-- One operation of a log. A turn that it begins meets this test, over the tree and the repository before it.
pub record GoesBy (Meets : Tree → Repo → Turn → Type 0) (s : State) (op : Op) (s' : State) : Type 0 where
  pub goes : Goes s op s'
  pub met : (x : Turn) (left rest : List Op) → goes.there ≡ Idle None rest → s'.doing ≡ Preparing x left → Meets s.files (current s) x

-- a run each turn of which meets the test
abbrev pub IsRunBy : (Tree → Repo → Turn → Type 0) → Tree → Repo → List Op → State → Type 0
IsRunBy Meets t r log s = FoldsTo (GoesBy Meets) (start_of t r) log s

-- No list has more revisions than may be read.
pub record AreFew (h : History) : Type 0 where
  pub changelog : length h.changelog ≤ most_revisions
  pub manifest : length h.manifest ≤ most_revisions
  pub filelogs : (path : List ℕ) → length (h.filelog path) ≤ most_revisions

-- a commit and an import are tested for the numbers of revisions, each command for that of the bookmarks behind it
abbrev pub AreFewBehind : Command → Repo → Type 0
AreFewBehind (Commit n) next = AreFew (history next.changesets)
AreFewBehind (Import changes) next = AreFew (history next.changesets)
AreFewBehind (Move rev phase force) next = Unit {0}
AreFewBehind (Mark name rev) next = Unit {0}
AreFewBehind (Unmark name) next = Unit {0}

pub record IsCounted (t : Tree) (r : Repo) (x : Turn) : Type 0 where
  pub bookmarks : length x.next.bookmarks ≤ most_bookmarks
  pub revisions : AreFewBehind x.command x.next

abbrev pub AreShort : List Revision → Type 0
AreShort revisions = AllByRecursion (λ (r : Revision). length r.text ≤ most_text) revisions

-- A repository within the limits of readers, its files aside.
pub record IsWithin (r : Repo) : Type 0 where
  pub bookmarks : length r.bookmarks ≤ most_bookmarks
  pub few : AreFew (history r.changesets)
  pub changelog : AreShort (history r.changesets).changelog
  pub manifest : AreShort (history r.changesets).manifest
  pub filelogs : (path : List ℕ) → AreShort ((history r.changesets).filelog path)
  pub trees : AllByRecursion (λ (c : Changeset). IsSmallTree c.tree) r.changesets

-- If the file has no more bytes than this before the turn, it has no more behind its publishing operation, where all is done up
-- to there.
abbrev pub EndsWithin : List ℕ → ℕ → Tree → Repo → Turn → Type 0
EndsWithin path most t r x = length (bytes_at t path) ≤ most → length (bytes_at (after_all (x.ops.before ++ through_publishing x.ops) t) path) ≤ most

-- the bytes that new revisions add to the data
abbrev pub stored_behind : List Revision → List Revision → ℕ
stored_behind old all = sum_by (λ (r : Revision). length (chunk_of r.text)) (drop (length old) all)

-- a commit and an import are tested for the ends of the data of changelog and manifest
abbrev pub EndsInRoom : Tree → Repo → Repo → Type 0
EndsInRoom t r next =
    (length (bytes_at t changelog_data) + stored_behind (history r.changesets).changelog (history next.changesets).changelog ≤ most_data)
    × (length (bytes_at t manifest_data) + stored_behind (history r.changesets).manifest (history next.changesets).manifest ≤ most_data)

abbrev pub HasRoomBehind : Command → Tree → Repo → Repo → Type 0
HasRoomBehind (Commit n) t r next = EndsInRoom t r next
HasRoomBehind (Import changes) t r next = EndsInRoom t r next
HasRoomBehind (Move rev phase force) t r next = Unit {0}
HasRoomBehind (Mark name rev) t r next = Unit {0}
HasRoomBehind (Unmark name) t r next = Unit {0}

-- The turn meets all these tests.
pub record IsMeasured (t : Tree) (r : Repo) (x : Turn) : Type 0 where
  pub counted : IsCounted t r x
  pub room : HasRoomBehind x.command t r x.next

-- the files that writers write as a whole: those that a transaction replaces, the changelog's index, which an import does, the journal, the locks and what it may leave behind
abbrev pub written_whole : List (List ℕ)
written_whole = changelog_index ∷ roots_path ∷ dirstate_path ∷ bookmarks_path ∷ journal_path ∷ locks ++ strays

-- the turn replaces the file, if it does, by no more bytes than this
abbrev pub WritesWithin : List ℕ → ℕ → Tree → Repo → Turn → Type 0
WritesWithin path most t r x = AllByRecursion (λ (y : Replacement). same (place y.plain y.file) path ≡ true → length y.text ≤ most) (replacements r x.command x.next)
