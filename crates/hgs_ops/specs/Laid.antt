-- What a commit leaves, laid into the tree at once.
use Rattle.std.specs.Prelude.{◌≡◌, ℕ, List, [], ◌∷◌, ◌++◌, Bool, true, false, ◌||◌, map, is_some, Ok}
use Rattle.hgs_files.specs.declared.op.Op.{Op}
use Rattle.hgs_files.specs.declared.op.Op.TheVariants.{Append, Create}
use Rattle.hgs_files.specs.Tree.{Tree, after_all}
use Rattle.hgs_journal.specs.Names.{place}
use Rattle.hgs_model.specs.Repo.{Repo}
use Rattle.hgs_model.specs.declared.command.Command.TheVariants.{Commit}
use Rattle.hgs_model.specs.declared.command.NewChange.{NewChange}
use Rattle.hgs_model.specs.Step.{Answer, step}
use Rattle.hgs_model.specs.Valid.{IsNewChange}
use Rattle.hgs_path.specs.declared.name.Ext.TheVariants.{I, D}
use Rattle.hgs_path.specs.StoreName.{listed_name}
use Rattle.hgs_stands.specs.Places.{changelog_index}
use Rattle.hgs_ops.specs.Growth.{appended, growth, new_changelog_entry}
use Rattle.hgs_ops.specs.Operations.{appending}
use Rattle.hgs_ops.specs.Replaced.{Replacement, new_bookmarks, new_dirstate, new_roots, only_if, roots_change}
use Rattle.hgs_ops.specs.Unhindered.{IsReady}

-- a replaced file is put whole
abbrev pub put_whole : Replacement → Op
put_whole x = Create (place x.plain x.file) x.text

-- the appends, and the replaced files, without locks, backups and a journal
abbrev pub laid : Tree → Repo → NewChange → Repo → List Op
laid t r n next =
    growth t r next ++ (map put_whole (only_if (roots_change r next) (new_roots next)) ++ (Append changelog_index (new_changelog_entry t r next) ∷ map put_whole (new_dirstate next ∷ only_if (is_some n.bookmark) (new_bookmarks next))))

-- ---- records, one after another

-- a record, and the repository that its commit gives
abbrev pub Record : Type 0
Record = NewChange × Repo

abbrev pub changes_of : List Record → List NewChange
changes_of records = map (λ (x : Record). x.0) records

-- the repository behind them
abbrev pub repo_behind : Repo → List Record → Repo
repo_behind r [] = r
repo_behind r (x ∷ records) = repo_behind x.1 records

-- the tree with what they leave laid into it
abbrev pub tree_behind : Tree → Repo → List Record → Tree
tree_behind t r [] = t
tree_behind t r (x ∷ records) = tree_behind (after_all (laid t r x.0 x.1) t) x.1 records

-- Each is accepted by the repository that those before it give, and nothing hinders its commit in the tree into which these are laid.
abbrev pub AreLaid : Tree → Repo → List Record → Type 0
AreLaid t r [] = Unit {0}
AreLaid t r (x ∷ records) =
    IsNewChange x.0 × ((answer : Answer) × (step r (Commit x.0) ≡ Ok (x.1, answer))) × IsReady t r (Commit x.0) x.1 × AreLaid (after_all (laid t r x.0 x.1) t) x.1 records

-- what they append to a file, joined
abbrev pub appended_by : List ℕ → Tree → Repo → List Record → List ℕ
appended_by path t r [] = []
appended_by path t r (x ∷ records) = appended path (appending t r x.1) ++ appended_by path (after_all (laid t r x.0 x.1) t) x.1 records

-- whether one of them changes the phase roots
abbrev pub changes_roots : Repo → List Record → Bool
changes_roots r [] = false
changes_roots r (x ∷ records) = roots_change r x.1 || changes_roots x.1 records

-- ---- the list of filelogs

-- the names of the files of a new filelog, with a data file or without one
abbrev pub names_of_new : List ℕ → Bool → List (List ℕ)
names_of_new path false = listed_name path I ∷ []
names_of_new path true = listed_name path I ∷ listed_name path D ∷ []

-- It is new where its index had no bytes and gets some; its data file may get some.
abbrev pub names_with : List ℕ → List ℕ → List ℕ → List ℕ → List (List ℕ)
names_with path (b ∷ standing) index data_bytes = []
names_with path [] [] data_bytes = []
names_with path [] (b ∷ index) [] = names_of_new path false
names_with path [] (b ∷ index) (c ∷ data_bytes) = names_of_new path true
