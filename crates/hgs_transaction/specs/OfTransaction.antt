-- The parts of a transaction of a tree.
use Rattle.std.specs.Prelude.{◌≡◌, length, map}
use Rattle.std.specs.List.{AllByRecursion}
use Rattle.hgs_files.specs.Tree.{Tree, bytes_at}
use Rattle.hgs_model.specs.Repo.{Repo}
use Rattle.hgs_model.specs.declared.command.Command.{Command}
use Rattle.hgs_ops.specs.Operations.{changes_before, publishing, renames_after}
use Rattle.hgs_ops.specs.Replaced.{new_rename, replacements, standing_file}
use Rattle.hgs_stands.specs.Places.{changelog_index}
use Rattle.hgs_transaction.specs.declared.parts.Change.{Change}
use Rattle.hgs_transaction.specs.declared.parts.Change.TheVariants.{Append, Replace, MakeIndex, RenameIndex}
use Rattle.hgs_transaction.specs.declared.parts.Parts.{Parts}
use Rattle.hgs_transaction.specs.Parts.{all_changes, change_op, replacement_of, replacings_of}

-- what a change says of its file before is what stands in the tree: its length, 0 where it is absent, or its bytes
abbrev pub IsOfTree : Tree → Change → Type 0
IsOfTree t (Append a) = a.before ≡ length (bytes_at t a.path)
IsOfTree t (Replace x) = x.standing ≡ standing_file t (replacement_of x)
IsOfTree t (MakeIndex bytes) = Unit {0}
IsOfTree t (RenameIndex before) = before ≡ length (bytes_at t changelog_index)

-- The parts of the transaction that takes a tree from a repository to the next one by a command: its appends and renames,
-- its replaced files with their new texts, and what stands in the tree.
pub record ArePartsOf (t : Tree) (r : Repo) (command : Command) (next : Repo) (p : Parts) : Type 0 where
  pub before : map change_op p.before ≡ changes_before t r command next
  pub publish : change_op p.publishing ≡ publishing t r command next
  pub after : map (λ x. new_rename (replacement_of x)) p.after ≡ renames_after command next
  pub replaced : map replacement_of (replacings_of (all_changes p)) ≡ replacements r command next
  pub standing : AllByRecursion (IsOfTree t) (all_changes p)
