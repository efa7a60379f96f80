-- The names of a transaction's files. Own form of this project, after the names in Mercurial's module `transaction`.
use Rattle.std.specs.Prelude.{ℕ, List, [], ◌∷◌, ◌++◌, Bool, true, false, ◌||◌, codes}
use Rattle.hgs_bytes.specs.Bytes.{same}

-- the path of a name in the store
abbrev pub in_store : List ℕ → List ℕ
in_store name = codes "store/" ++ name

-- the path of a name, which is plain or in the store
abbrev pub place : Bool → List ℕ → List ℕ
place true name = name
place false name = in_store name

abbrev pub journal_path : List ℕ
journal_path = codes "store/journal"

-- the journal before it gets its name
abbrev pub new_journal_path : List ℕ
new_journal_path = codes "store/journal.new.journal"

abbrev pub backups_path : List ℕ
backups_path = codes "store/journal.backupfiles"

-- the two locks
abbrev pub locks : List (List ℕ)
locks = codes "wlock" ∷ codes "store/lock" ∷ []

-- the backup of a file, and its new text before that is renamed to it; both are where the file is
abbrev pub backup_name : List ℕ → List ℕ
backup_name file = codes "journal.backup." ++ file

abbrev pub new_name : List ℕ → List ℕ
new_name file = codes "journal.new." ++ file

-- the files that a transaction replaces whole
abbrev pub is_replaced : Bool → List ℕ → Bool
is_replaced true file = same file (codes "dirstate") || same file (codes "bookmarks")
is_replaced false file = same file (codes "phaseroots")
