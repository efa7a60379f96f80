-- The repositories that a growing list of operations goes through.
use Rattle.std.specs.Prelude.{◌≡◌, ◌≤◌, ℕ, List, [], ◌∷◌, true}
use Rattle.hgs_bytes.specs.Bytes.{IsPrefixOf}
use Rattle.hgs_files.specs.declared.op.Op.{Op}
use Rattle.hgs_files.specs.Tree.{Tree, bytes_at, after_all}
use Rattle.hgs_model.specs.History.{uses}
use Rattle.hgs_model.specs.IsRepo.{IsRepo}
use Rattle.hgs_model.specs.Repo.{Repo, Changeset}
use Rattle.hgs_path.specs.declared.name.Ext.{Ext}
use Rattle.hgs_path.specs.StoreName.{store_name}
use Rattle.hgs_shown.specs.Limits.{OpensWithin, ReadsWithin}
use Rattle.hgs_stands.specs.Places.{requires_path, bookmarks_path, dirstate_path, roots_path, changelog_index, changelog_data, manifest_index, manifest_data}
use Rattle.hgs_stands.specs.Shows.{Shows}
use Rattle.hgs_stands.specs.Stands.{HoldsChangesets}

-- Where the operations begin, the repositories that they lead to by number, a tree that holds the changesets of each, and of each list of operations three numbers: of the repository whose bookmarks the tree after it shows, of the one whose working parents it shows, and of the one whose changesets and phases it shows.
pub record Course : Type 0 where
  pub start : Tree
  pub repo : ℕ → Repo
  pub store : ℕ → Tree
  pub marked : List Op → ℕ
  pub worked : List Op → ℕ
  pub published : List Op → ℕ

abbrev pub tree_after : Course → List Op → Tree
tree_after x log = after_all log x.start

-- the list stands between these two
pub record IsBetween (first last log : List Op) : Type 0 where
  pub begins : IsPrefixOf first log
  pub ends : IsPrefixOf log last

-- Each file of a revlog that one tree has of these changesets stands at the front of the other's.
pub record KeepsFronts (t u : Tree) (changesets : List Changeset) : Type 0 where
  pub changelog : IsPrefixOf (bytes_at t changelog_index) (bytes_at u changelog_index)
  pub changelog_chunks : IsPrefixOf (bytes_at t changelog_data) (bytes_at u changelog_data)
  pub manifest : IsPrefixOf (bytes_at t manifest_index) (bytes_at u manifest_index)
  pub manifest_chunks : IsPrefixOf (bytes_at t manifest_data) (bytes_at u manifest_data)
  pub filelogs : (path : List ℕ) (ext : Ext) → uses changesets path ≡ true → IsPrefixOf (bytes_at t (store_name path ext)) (bytes_at u (store_name path ext))

-- the three numbers do not fall
pub record Rises (x : Course) (log more : List Op) : Type 0 where
  pub marked : x.marked log ≤ x.marked more
  pub worked : x.worked log ≤ x.worked more
  pub published : x.published log ≤ x.published more

-- bookmarks are no newer than working parents, and these no newer than changesets
pub record IsOrdered (x : Course) (log : List Op) : Type 0 where
  pub marked : x.marked log ≤ x.worked log
  pub worked : x.worked log ≤ x.published log

-- Each list from the first to the last shows the repositories of its numbers, none of which falls. A later repository goes on from the changesets of an earlier one, and what the files held of those stays at their front.
pub record IsCourse (x : Course) (first last : List Op) : Type 0 where
  pub repository : (i : ℕ) → i ≤ x.published last → IsRepo (x.repo i)
  pub goes_on : (i j : ℕ) → i ≤ j → j ≤ x.published last → IsPrefixOf (x.repo i).changesets (x.repo j).changesets
  pub holds : (i : ℕ) → i ≤ x.published last → HoldsChangesets (x.store i) (x.repo i).changesets
  pub ordered : (log : List Op) → IsBetween first last log → IsOrdered x log
  pub rises : (log more : List Op) → IsBetween first last log → IsBetween log last more → Rises x log more
  pub shows : (log : List Op) → IsBetween first last log → Shows (tree_after x log) (x.repo (x.marked log)) (x.repo (x.worked log)) (x.repo (x.published log))
  pub stays : (log : List Op) (i : ℕ) → IsBetween first last log → i ≤ x.published log → KeepsFronts (x.store i) (tree_after x log) (x.repo i).changesets

-- each tree on the way is within the limits of a load
abbrev pub OpensAlong : Course → List Op → List Op → Type 0
OpensAlong x first last = (log : List Op) → IsBetween first last log → OpensWithin (tree_after x log) (x.repo (x.marked log)) (x.repo (x.published log))

-- each tree on the way is within the limits of a reader of contents
abbrev pub ReadsAlong : Course → List Op → List Op → Type 0
ReadsAlong x first last = (log : List Op) → IsBetween first last log → ReadsWithin (tree_after x log) (x.repo (x.published log))

-- the course of files at rest that stand for one repository
abbrev pub still : Tree → Repo → Course
still t r = record { start = t; repo = λ i. r; store = λ i. t; marked = λ log. 0; worked = λ log. 0; published = λ log. 0 }

-- What one more list asks to be a step of a course: what its number adds, that no number falls, and what the tree after it shows and keeps.
pub record IsStep (x : Course) (log more : List Op) : Type 0 where
  pub repository : (i : ℕ) → i ≤ x.published more → IsRepo (x.repo i)
  pub goes_on : (i j : ℕ) → i ≤ j → j ≤ x.published more → IsPrefixOf (x.repo i).changesets (x.repo j).changesets
  pub holds : (i : ℕ) → i ≤ x.published more → HoldsChangesets (x.store i) (x.repo i).changesets
  pub ordered : IsOrdered x more
  pub rises : Rises x log more
  pub shows : Shows (tree_after x more) (x.repo (x.marked more)) (x.repo (x.worked more)) (x.repo (x.published more))
  pub stays : (i : ℕ) → i ≤ x.published more → KeepsFronts (x.store i) (tree_after x more) (x.repo i).changesets

-- the files that are shown whole: all but the manifest, the filelogs and the chunks of the changelog
abbrev pub whole_files : List (List ℕ)
whole_files = requires_path ∷ changelog_index ∷ roots_path ∷ bookmarks_path ∷ dirstate_path ∷ []

-- the numbers are the same
pub record AreSame (x : Course) (log more : List Op) : Type 0 where
  pub marked : x.marked more ≡ x.marked log
  pub worked : x.worked more ≡ x.worked log
  pub published : x.published more ≡ x.published log
