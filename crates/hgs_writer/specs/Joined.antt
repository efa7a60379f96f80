-- What commits write that are planned one after another, joined into the parts of one transaction.
use Rattle.std.specs.Prelude.{ℕ, List, [], ◌∷◌, ◌++◌, Bool, false, length, map, flat_map, Option}
use Rattle.std.specs.List.{list_any}
use Rattle.hgs_bytes.specs.Bytes.{same}
use Rattle.hgs_bytes.specs.Text.{line}
use Rattle.hgs_commit.specs.Appended.{append_some}
use Rattle.hgs_files.specs.declared.op.Op.{Op}
use Rattle.hgs_files.specs.declared.op.Op.TheVariants as ops
use Rattle.hgs_files.specs.Tree.{Tree, after_all, bytes_at}
use Rattle.hgs_journal.specs.Names.{place}
use Rattle.hgs_model.specs.History.{in_order}
use Rattle.hgs_model.specs.Valid.{new_paths}
use Rattle.hgs_model.specs.declared.command.NewChange.{NewChange}
use Rattle.hgs_ops.specs.Growth.{appended}
use Rattle.hgs_ops.specs.Laid.{put_whole}
pub use Rattle.hgs_ops.specs.Laid.{names_of_new, names_with}
use Rattle.hgs_ops.specs.Replaced.{only_if}
use Rattle.hgs_path.specs.declared.name.Ext.TheVariants.{I, D}
use Rattle.hgs_path.specs.StoreName.{store_name}
use Rattle.hgs_stands.specs.Places.{changelog_data, changelog_index, fncache_path, manifest_data, manifest_index}
use Rattle.hgs_steps.specs.declared.loaded.Standing.{Standing}
use Rattle.hgs_steps.specs.declared.step.Step.{Step}
use Rattle.hgs_transaction.specs.Parts.{all_changes, file_name, is_plain, replacement_of}
use Rattle.hgs_transaction.specs.declared.parts.Change.{Change}
use Rattle.hgs_transaction.specs.declared.parts.Change.TheVariants.{Append, MakeIndex, RenameIndex, Replace}
use Rattle.hgs_transaction.specs.declared.parts.Parts.{Parts}
use Rattle.hgs_transaction.specs.declared.parts.ReplacedFile.{ReplacedFile}
use Rattle.hgs_transaction.specs.declared.parts.ReplacedFile.TheVariants.{PhaseRoots, Dirstate, Bookmarks}
use Rattle.hgs_transaction.specs.declared.parts.Replacing.{Replacing}

-- ---- what they leave

-- What a change leaves in the tree, without a new text beside the file. No commit makes a new index.
abbrev pub laying : Change → List Op
laying (Append a) = ops.Append a.path a.bytes ∷ []
laying (Replace x) = put_whole (replacement_of x) ∷ []
laying (MakeIndex bytes) = []
laying (RenameIndex before) = []

abbrev pub lays : Parts → List Op
lays p = flat_map laying (all_changes p)

abbrev pub all_laid : List Step → List Op
all_laid steps = flat_map (λ (s : Step). lays s.parts) steps

-- ---- appends, of these bytes to each file

-- one append of all of them, if there are any
abbrev pub joined_append : Tree → (List ℕ → List ℕ) → List ℕ → List Change
joined_append t bytes path = append_some path (length (bytes_at t path)) (bytes path)

-- to the two files of a path's filelog
abbrev pub joined_filelog : Tree → (List ℕ → List ℕ) → List ℕ → List Change
joined_filelog t bytes path = joined_append t bytes (store_name path D) ++ joined_append t bytes (store_name path I)

-- the names of its files where it is new
abbrev pub joined_names : Tree → (List ℕ → List ℕ) → List ℕ → List (List ℕ)
joined_names t bytes path = names_with path (bytes_at t (store_name path I)) (bytes (store_name path I)) (bytes (store_name path D))

-- the lines of the filelogs that are new, in the order of the paths
abbrev pub joined_lines : Tree → (List ℕ → List ℕ) → List (List ℕ) → List ℕ
joined_lines t bytes paths = flat_map line (flat_map (joined_names t bytes) paths)

-- all appends but that to the changelog's index
abbrev pub joined_appends : Tree → (List ℕ → List ℕ) → List (List ℕ) → List Change
joined_appends t bytes paths =
    flat_map (joined_filelog t bytes) paths
    ++ append_some fncache_path (length (bytes_at t fncache_path)) (joined_lines t bytes paths)
    ++ (joined_append t bytes manifest_data ++ joined_append t bytes manifest_index)
    ++ joined_append t bytes changelog_data

-- the paths of all records, in path order
abbrev pub joined_paths : List NewChange → List (List ℕ)
joined_paths changes = in_order (flat_map (λ (n : NewChange). new_paths n.files) changes)

-- ---- replaced files

abbrev pub replaced_path : ReplacedFile → List ℕ
replaced_path file = place (is_plain file) (file_name file)

-- whether a file is put whole by one of these operations
abbrev pub puts : List ℕ → Op → Bool
puts path (ops.Create other bytes) = same other path
puts path op = false

abbrev pub are_put : List ℕ → List Op → Bool
are_put path laid = list_any (puts path) laid

abbrev pub standing_in : Standing → ReplacedFile → Option (List ℕ)
standing_in s PhaseRoots = s.roots
standing_in s Dirstate = s.dirstate
standing_in s Bookmarks = s.bookmarks

-- by its last text, where one is put
abbrev pub joined_replaced : Tree → Standing → List Op → ReplacedFile → List Replacing
joined_replaced t s laid file = only_if (are_put (replaced_path file) laid) (record { file = file; text = bytes_at (after_all laid t) (replaced_path file); standing = standing_in s file })

-- ---- the whole

-- The parts of one transaction over a tree that leaves what these operations leave: the appends, a new index of the changelog, the phase roots; the
-- rename of the index; the dirstate and the bookmarks.
abbrev pub joined_parts : Tree → Standing → List (List ℕ) → List Op → Parts
joined_parts t s paths laid = record {
  before =
      joined_appends t (λ path. appended path laid) paths
      ++ MakeIndex (bytes_at t changelog_index ++ appended changelog_index laid)
      ∷ map (λ (x : Replacing). Replace x) (joined_replaced t s laid PhaseRoots);
  publishing = RenameIndex (length (bytes_at t changelog_index));
  after = joined_replaced t s laid Dirstate ++ joined_replaced t s laid Bookmarks;
}
