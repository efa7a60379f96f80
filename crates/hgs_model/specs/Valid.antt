-- Which commands are valid.
use Rattle.std.specs.Prelude.{◌≡◌, ℕ, ◌≤◌, List, [], ◌∷◌, ◌++◌, Bool, true, false, not, ◌&&◌, ◌||◌, ◌==◌, length, map, IfSome, codes, unsigned_abs, IsUtf8}
use Rattle.std.specs.List.{AllByRecursion, list_any, list_all}
use Rattle.hgs_bytes.specs.Bytes.{begins_with, same}
use Rattle.hgs_bytes.specs.Text.{Lacks, ascends}
use Rattle.hgs_index.specs.ChangeText.{most_seconds, most_offset}
use Rattle.hgs_index.specs.MarkName.{is_mark_name}
use Rattle.hgs_index.specs.TrackedPath.{is_tracked}
use Rattle.hgs_model.specs.declared.command.NewChange.{NewChange}
use Rattle.hgs_model.specs.declared.files.NewFile.{NewFile}
use Rattle.hgs_model.specs.declared.command.Command.{Command}
use Rattle.hgs_model.specs.declared.command.Command.TheVariants.{Commit, Import, Move, Mark, Unmark}

-- no path is a directory of another
abbrev pub has_directory : List (List ℕ) → Bool
has_directory paths = list_any (λ p. list_any (λ q. begins_with q (p ++ codes "/")) paths) paths

abbrev pub new_paths : List NewFile → List (List ℕ)
new_paths files = map (λ (f : NewFile). f.path) files

-- whether this is the last byte
abbrev pub ends_in : ℕ → List ℕ → Bool
ends_in byte [] = false
ends_in byte (b ∷ []) = b == byte
ends_in byte (b ∷ c ∷ bytes) = ends_in byte (c ∷ bytes)

-- a branch's name is one that a bookmark can have, without a backslash; `default` is the branch of a changeset that names none
abbrev pub is_branch_name : List ℕ → Bool
is_branch_name name = is_mark_name name && not (list_any (λ b. b == 92) name) && not (same name (codes "default"))

-- the path of a file that is copied can stand before the LF in a metadata block
abbrev pub is_source : List ℕ → Bool
is_source path = is_tracked path && not (ends_in 1 path)

-- a changeset that a record can hold
pub record IsNewChange (c : NewChange) : Type 0 where
  pub parents : length c.parents ≤ 2
  pub names : AllByRecursion (Lacks 10) c.parents
  pub user_utf8 : IsUtf8 c.user
  pub user_least : 1 ≤ length c.user
  pub user_most : length c.user ≤ 1024
  pub user_line : list_any (λ b. b == 0 || b == 10) c.user ≡ false
  pub seconds : unsigned_abs c.seconds ≤ most_seconds
  pub offset : unsigned_abs c.offset ≤ most_offset
  pub bookmark : IfSome c.bookmark (λ name. is_mark_name name ≡ true)
  pub branch : IfSome c.branch (λ name. is_branch_name name ≡ true)
  pub description : IsUtf8 c.description
  pub description_most : length c.description ≤ 65536
  pub count : length c.files ≤ 20000
  pub paths : list_all is_tracked (new_paths c.files) ≡ true
  pub ordered : ascends (new_paths c.files) ≡ true
  pub apart : has_directory (new_paths c.files) ≡ false
  pub sources : AllByRecursion (λ (f : NewFile). IfSome f.from (λ path. is_source path ≡ true)) c.files
  pub bodies : AllByRecursion (λ (f : NewFile). length f.body ≤ 16777216) c.files

-- the changesets that an import can hold
pub record AreNewChanges (changes : List NewChange) : Type 0 where
  pub least : 1 ≤ length changes
  pub most : length changes ≤ 10000
  pub each : AllByRecursion IsNewChange changes

-- each changeset of a command is one that a record can hold, and each name that it sets is a bookmark's
abbrev pub IsValid : Command → Type 0
IsValid (Commit c) = IsNewChange c
IsValid (Import changes) = AreNewChanges changes
IsValid (Move rev phase force) = Unit {0}
IsValid (Mark name rev) = is_mark_name name ≡ true
IsValid (Unmark name) = Unit {0}
