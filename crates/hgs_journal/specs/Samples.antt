-- A store with one changeset, and a second commit on it: its journal, its list of backups and what it does.
use Rattle.std.specs.Prelude.{ℕ, zero, suc, List, [], ◌∷◌, ◌++◌, true, None, Some, codes, if◌then◌else◌}
use Rattle.hgs_bytes.specs.Bytes.{same}
use Rattle.hgs_files.specs.declared.op.Op.{Op}
use Rattle.hgs_files.specs.declared.op.Op.TheVariants.{Append, Create, Rename}
use Rattle.hgs_files.specs.Tree.{Tree, after_all}
use Rattle.hgs_journal.specs.declared.journal.JournalLine.{JournalLine}
use Rattle.hgs_journal.specs.declared.backups.BackupLine.{BackupLine}
use Rattle.hgs_journal.specs.Covers.{own_strays}
use Rattle.hgs_journal.specs.Names.{backup_name, backups_path, in_store, new_journal_path}
use Rattle.hgs_journal.specs.Texts.{backups_text, journal_text}

-- as many bytes 0
abbrev pub zeros : ℕ → List ℕ
zeros zero = []
zeros (suc n) = 0 ∷ zeros n

abbrev pub listed_once : List ℕ
listed_once = codes "data/a.i" ++ 10 ∷ codes "data/a.d" ++ 10 ∷ []

-- The files that a first commit of a file `a` leaves, with the lengths that they have: the entries and chunks are stood for
-- by bytes 0.
abbrev pub one_changeset : Tree
one_changeset path =
    if same path (in_store (codes "data/a.d")) then Some (zeros 2)
    else (if same path (in_store (codes "data/a.i")) then Some (zeros 64)
    else (if same path (in_store (codes "fncache")) then Some listed_once
    else (if same path (in_store (codes "00manifest.d")) then Some (zeros 44)
    else (if same path (in_store (codes "00manifest.i")) then Some (zeros 64)
    else (if same path (in_store (codes "00changelog.d")) then Some (zeros 55)
    else (if same path (in_store (codes "00changelog.i")) then Some (zeros 64)
    else (if same path (codes "dirstate") then Some (zeros 58)
    else None)))))))

abbrev pub line_at : List ℕ → ℕ → JournalLine
line_at name offset = record { name = name; offset = offset }

-- a second commit, which adds a file `b`: the files of its filelog are new
abbrev pub second_journal : List JournalLine
second_journal =
    line_at (codes "data/b.d") 0 ∷ line_at (codes "data/b.i") 0 ∷ line_at (codes "fncache") 18 ∷ line_at (codes "00manifest.d") 44
    ∷ line_at (codes "00manifest.i") 64 ∷ line_at (codes "00changelog.d") 55 ∷ line_at (codes "00changelog.i") 64 ∷ []

-- the dirstate, which stands, and the bookmarks, of which there are none
abbrev pub second_backups : List BackupLine
second_backups =
    record { plain = true; file = codes "dirstate"; backup = backup_name (codes "dirstate") }
    ∷ record { plain = true; file = codes "bookmarks"; backup = [] } ∷ []

-- what it puts before its journal
abbrev pub second_puts : List Op
second_puts =
    Create (codes "journal.backup.dirstate") (zeros 58) ∷ Create (codes "journal.new.dirstate") (zeros 76) ∷ Create (codes "journal.new.bookmarks") (zeros 44)
    ∷ Create backups_path (backups_text second_backups) ∷ Create new_journal_path (journal_text second_journal) ∷ []

abbrev pub second_prepared : Tree
second_prepared = after_all second_puts one_changeset

-- the strays: those of undoing, and the journal before it gets its name
abbrev pub second_strays : List (List ℕ)
second_strays = own_strays ++ new_journal_path ∷ []

-- what it does behind its journal
abbrev pub second_changes : List Op
second_changes =
    Append (codes "store/data/b.d") (zeros 2) ∷ Append (codes "store/data/b.i") (zeros 64) ∷ Append (codes "store/fncache") (zeros 18)
    ∷ Append (codes "store/00manifest.d") (zeros 87) ∷ Append (codes "store/00manifest.i") (zeros 64) ∷ Append (codes "store/00changelog.d") (zeros 55)
    ∷ Append (codes "store/00changelog.i") (zeros 64) ∷ Rename (codes "journal.new.dirstate") (codes "dirstate") ∷ Rename (codes "journal.new.bookmarks") (codes "bookmarks") ∷ []
