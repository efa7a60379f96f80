-- Courses in which links tell the fronts of revlogs.
use Rattle.std.specs.Prelude.{◌≡◌, ◌≤◌, ◌+◌, ◌*◌, ℕ, List, false, true, length, take}
use Rattle.hgs_files.specs.declared.op.Op.{Op}
use Rattle.hgs_files.specs.Tree.{Tree, bytes_at}
use Rattle.hgs_index.specs.Inline.{index_apart, is_inline}
use Rattle.hgs_index.specs.Revision.{Revision}
use Rattle.hgs_later.specs.Later.{AreCutByLinks, EndByLinks}
use Rattle.hgs_links.specs.Fronts.{entry_in, linked_front}
use Rattle.hgs_model.specs.History.{history, uses}
use Rattle.hgs_model.specs.Repo.{Changeset}
use Rattle.hgs_path.specs.declared.name.Ext.TheVariants.{I}
use Rattle.hgs_path.specs.StoreName.{store_name}
use Rattle.hgs_stands.specs.Places.{manifest_index}
use Rattle.hgs_views.specs.Course.{Course, IsBetween, tree_after}

-- After each list on the way, and for each repository up to the one that the tree shows, links cut its revlogs' fronts.
abbrev pub CutsAlong : Course → List Op → List Op → Type 0
CutsAlong x first last = (log : List Op) (i : ℕ) → IsBetween first last log → i ≤ x.published log → AreCutByLinks (tree_after x log) (x.repo i).changesets (x.repo (x.published log)).changesets

-- Of the index in this tree exactly as many entries as there are revisions are counted by their links, and a separate one begins with what the store has of them.
pub record TellsFront (t store : Tree) (index : List ℕ) (changesets : ℕ) (revisions : List Revision) : Type 0 where
  pub counted : linked_front (length (index_apart (bytes_at t index))) changesets (index_apart (bytes_at t index)) ≡ length revisions
  pub bytes : is_inline (bytes_at t index) ≡ false → take (64 * length revisions) (bytes_at t index) ≡ bytes_at store index

-- So of the manifest, and of the filelog of each path that these changesets use.
pub record TellsFronts (t store : Tree) (changesets : List Changeset) : Type 0 where
  pub manifest : TellsFront t store manifest_index (length changesets) (history changesets).manifest
  pub filelogs : (path : List ℕ) → uses changesets path ≡ true → TellsFront t store (store_name path I) (length changesets) ((history changesets).filelog path)

-- So after each list on the way, and for each repository up to the one that the tree shows.
abbrev pub EndsAlong : Course → List Op → List Op → Type 0
EndsAlong x first last = (log : List Op) (i : ℕ) → IsBetween first last log → i ≤ x.published log → EndByLinks (tree_after x log) (x.store i) (x.repo i).changesets

-- Each whole entry of these bytes stood at this path, in a separate index, after some list on the way: what is read in pieces of whole entries, each piece at a moment of its own.
abbrev pub AreEntriesAlong : Course → List Op → List Op → List ℕ → List ℕ → Type 0
AreEntriesAlong x first last index bytes = (rev : ℕ) → 64 * rev + 64 ≤ length bytes
    → (log : List Op) × IsBetween first last log × (is_inline (bytes_at (tree_after x log) index) ≡ false) × (64 * rev + 64 ≤ length (bytes_at (tree_after x log) index)) × (entry_in bytes rev ≡ entry_in (bytes_at (tree_after x log) index) rev)
