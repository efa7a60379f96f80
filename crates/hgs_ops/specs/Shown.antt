-- How far a published transaction has come with the files that are renamed behind its publishing operation.
use Rattle.std.specs.Prelude.{ℕ, List, Bool, false, ◌||◌}
use Rattle.std.specs.List.{list_any}
use Rattle.hgs_bytes.specs.Bytes.{same}
use Rattle.hgs_files.specs.declared.op.Op.{Op}
use Rattle.hgs_files.specs.declared.op.Op.TheVariants.{Rename}
use Rattle.hgs_stands.specs.Places.{bookmarks_path, dirstate_path}

abbrev pub is_rename_to : List ℕ → Op → Bool
is_rename_to path (Rename from to) = same to path
is_rename_to path _ = false

-- the dirstate's rename is still to do; the bookmarks' or the dirstate's is
abbrev pub lacks_dirstate : List Op → Bool
lacks_dirstate left = list_any (is_rename_to dirstate_path) left

abbrev pub lacks_bookmarks : List Op → Bool
lacks_bookmarks left = lacks_dirstate left || list_any (is_rename_to bookmarks_path) left
