-- What files in memory keep of a disk whose power may fail, as the disk that it stands for.
use Rattle.std.specs.Prelude.{◌≡◌, ℕ, zero, suc, ◌≤◌, List, [], ◌∷◌, length, take, drop, Option, Some, None, unwrap_or, Bool, true, is_some, nat_lt}
use Rattle.std.specs.BTreeMap.{BTreeMap, IsOrdered, get}
use Rattle.std.specs.Cmp.Lexicographic.{slice_cmp}
use Rattle.std.specs.List.{list_all, slice_get}
use Rattle.std.specs.Option.{option_map}
use Rattle.std.specs.Ordering.{nat_cmp}
use Rattle.hgs_files.specs.declared.op.Op.{Op}
use Rattle.hgs_files.specs.declared.op.Op.TheVariants.{Append, Cut, Rename, Remove, Create, Sync, Settle}
use Rattle.hgs_files.specs.Tree.{Tree, bytes_at, renamed, with_file}
use Rattle.hgs_power.specs.Disk.{Disk, File, Names, appended, cut_to, firm, made_as, stood, synced, written}
use Rattle.hgs_power_loss.specs.declared.names.Mark.{Mark}
use Rattle.hgs_power_loss.specs.declared.names.Mark.TheVariants.{Stood, Made}
use Rattle.hgs_power_loss.specs.declared.names.NameChange.{NameChange}
use Rattle.hgs_power_loss.specs.declared.names.NameChange.TheVariants.{Stands, Moves, Goes}

-- ---- files

-- what an operation on a file makes of it; a change of names, nothing
abbrev pub file_after : Op → File → File
file_after (Append path bytes) f = appended bytes f
file_after (Cut path len) f = cut_to len f
file_after (Create path bytes) f = written bytes f
file_after (Sync path) f = synced f
file_after (Rename from to) f = f
file_after (Remove path) f = f
file_after Settle f = f

-- files by their paths, those that stood at the start
abbrev pub stood_file : BTreeMap (List ℕ) File → List ℕ → Option File
stood_file files path = get (slice_cmp nat_cmp) files path

-- The file of each mark: of those that stood at the start some are kept, and the others are as they were; those that were made
-- are kept in the order of their numbers.
abbrev pub file_of : Tree → BTreeMap (List ℕ) File → List File → List ℕ → File
file_of start kept made [] = firm []
file_of start kept made (zero ∷ path) = unwrap_or (stood_file kept path) (firm (bytes_at start path))
file_of start kept made (suc zero ∷ n ∷ []) = unwrap_or (slice_get made n) (firm (bytes_at start (n ∷ [])))
file_of start kept made (n ∷ path) = firm (bytes_at start path)

-- ---- names

abbrev pub mark_of : Mark → List ℕ
mark_of (Stood path) = stood path
mark_of (Made number) = made_as number

-- the names at the start
abbrev pub first_names : Tree → Names
first_names start path = option_map (λ bytes. stood path) (start path)

abbrev pub name_after : NameChange → Names → Names
name_after (Stands path number) names = with_file names path (Some (made_as number))
name_after (Moves from to) names = renamed names from to (names from)
name_after (Goes path) names = with_file names path None

-- the names after these changes
abbrev pub names_after_all : List NameChange → Names → Names
names_after_all [] names = names
names_after_all (change ∷ changes) names = names_after_all changes (name_after change names)

-- the names before each of these changes, the latest first, and then those before them
abbrev pub names_before : List NameChange → Names → List Names → List Names
names_before [] names since = since
names_before (change ∷ changes) names since = names_before changes (name_after change names) (names ∷ since)

-- ---- the disk

-- The disk that began with this tree, after these changes of names, of which the first so many are settled, with these files.
abbrev pub disk_of : Tree → List NameChange → ℕ → BTreeMap (List ℕ) File → List File → Disk
disk_of start changes settled kept made = record {
  now = names_after_all changes (first_names start);
  since = names_before (drop settled changes) (names_after_all (take settled changes) (first_names start)) [];
  files = file_of start kept made;
  made = length made;
}

-- ---- what is kept fits together

-- what stands at a path, where the table says it, else what stood there at the start
abbrev pub found_or : Option (Option Mark) → Option (List ℕ) → Option (List ℕ)
found_or None first = first
found_or (Some mark) first = option_map mark_of mark

abbrev pub noted : BTreeMap (List ℕ) (Option Mark) → List ℕ → Option (Option Mark)
noted table path = get (slice_cmp nat_cmp) table path

abbrev pub table_over : BTreeMap (List ℕ) (Option Mark) → Names → Names
table_over table names path = found_or (noted table path) (names path)

-- whether a file stood at the start, or was made
abbrev pub is_mark : Tree → ℕ → Mark → Bool
is_mark start made (Stood path) = is_some (start path)
is_mark start made (Made number) = nat_lt number made

-- whether a change that makes a name makes it for a file that was made
abbrev pub is_change : ℕ → NameChange → Bool
is_change made (Stands path number) = nat_lt number made
is_change made (Moves from to) = true
is_change made (Goes path) = true

-- A table of names and the files kept fit the start tree, the changes and the files made.
pub record Fits (start : Tree) (table : BTreeMap (List ℕ) (Option Mark)) (changes : List NameChange) (settled : ℕ) (kept : BTreeMap (List ℕ) File) (made : ℕ) : Type 0 where
  pub table_now : table_over table (first_names start) ≡ names_after_all changes (first_names start)
  pub marks : (path : List ℕ) (mark : Mark) → noted table path ≡ Some (Some mark) → is_mark start made mark ≡ true
  pub made_names : list_all (is_change made) changes ≡ true
  pub some_settled : settled ≤ length changes
  pub stand : (path : List ℕ) (f : File) → stood_file kept path ≡ Some f → is_some (start path) ≡ true
  pub ordered : IsOrdered (slice_cmp nat_cmp) kept
