-- Small lists and files that the definitions are tried on.
use Rattle.std.specs.Prelude.{ℕ, zero, suc, ◌+◌, List, [], ◌∷◌, ◌++◌, false, Option, Some, None, length, take, drop, map, replicate, codes, if◌then◌else◌}
use Rattle.std.specs.List.{concat}
use Rattle.hgs_bytes.specs.Bytes.{same}
use Rattle.hgs_bytes.specs.Text.{lines}
use Rattle.hgs_index.specs.Revlog.{Stored, chunk_of, items, index_bytes}
use Rattle.hgs_stands.specs.Places.{changelog_index, changelog_data, manifest_index, manifest_data}
use Rattle.hgs_files.specs.Tree.{Tree, with_file, bytes_at}
use Rattle.hgs_index.specs.Revision.{Parents, Revision}
use Rattle.hgs_model.specs.History.{History, history}
use Rattle.hgs_model.specs.Samples.{merged}
use Rattle.hgs_stands.specs.Samples.{two_drafts_files}
use Rattle.hgs_findings.specs.Findings.{Finding}
use Rattle.hgs_findings.specs.Namings.{keeps, makes, Naming}
use Rattle.hgs_findings.specs.Sight.{Sight}

abbrev pub made : ℕ → Parents → Option Naming
made rev parents = Some (record { rev = rev; rule = makes parents })

abbrev pub kept_as : ℕ → ℕ → Option Naming
kept_as rev kept = Some (record { rev = rev; rule = keeps kept })

-- a first revision, a second on it, nothing, the first kept, and a third of both, which another changeset names with its parents the other way round
abbrev pub five_namings : List (Option Naming)
five_namings = made 0 (None, None) ∷ made 1 (Some 0, None) ∷ None ∷ kept_as 0 0 ∷ made 2 (Some 0, Some 1) ∷ made 2 (Some 1, Some 0) ∷ []

-- revisions that these changesets build one after another
abbrev pub three_revisions : List Revision
three_revisions = record { text = []; parents = (None, None); link = 0 } ∷ record { text = []; parents = (Some 0, None); link = 1 } ∷ record { text = []; parents = (Some 0, Some 1); link = 4 } ∷ []

abbrev pub finding : List ℕ → Option ℕ → ℕ → Finding
finding path rev kind = record { path = path; rev = rev; kind = kind }

-- what is read of the lists of a history
abbrev pub sight_in : History → Sight
sight_in h = record { changelog = h.changelog; manifest = h.manifest; filelog = h.filelog }

-- four changesets, the last of which merges
abbrev pub merged_sight : Sight
merged_sight = sight_in (history merged.changesets)

-- the sample of two drafts with these bytes at a path
abbrev pub drafts_with : List ℕ → List ℕ → Tree
drafts_with path bytes = with_file two_drafts_files path (Some bytes)

-- and with these bytes behind those of a path
abbrev pub drafts_behind : List ℕ → List ℕ → Tree
drafts_behind path bytes = drafts_with path (bytes_at two_drafts_files path ++ bytes)

-- and with these bytes in the place of those that stand at a place of a path
abbrev pub drafts_at : List ℕ → ℕ → List ℕ → Tree
drafts_at path at bytes = drafts_with path (take at (bytes_at two_drafts_files path) ++ bytes ++ drop (at + length bytes) (bytes_at two_drafts_files path))

-- the filelog of `a` inline, as Mercurial keeps it by default, and so the changelog, whose first chunk has 55 bytes
abbrev pub inline_a : List ℕ
inline_a = 0 ∷ 1 ∷ drop 2 (bytes_at two_drafts_files (codes "store/data/a.i")) ++ bytes_at two_drafts_files (codes "store/data/a.d")

abbrev pub inline_changelog : List ℕ
inline_changelog =
    0 ∷ 1 ∷ drop 2 (take 64 (bytes_at two_drafts_files changelog_index)) ++ take 55 (bytes_at two_drafts_files changelog_data)
    ++ drop 64 (bytes_at two_drafts_files changelog_index) ++ drop 55 (bytes_at two_drafts_files changelog_data)

-- the sample with both inline; the data file of `a` is left beside its index, and that of the changelog is not there
abbrev pub inline_drafts : Tree
inline_drafts = with_file (with_file (drafts_with (codes "store/data/a.i") inline_a) changelog_index (Some inline_changelog)) changelog_data None

-- a node that no changeset has, and its digits
abbrev pub strange_node : List ℕ
strange_node = replicate 20 170

abbrev pub strange_digits : List ℕ
strange_digits = replicate 40 97

-- ---- lists that are printed

abbrev pub stored_of : List Revision → List Stored
stored_of revisions = map (λ r. record { revision = r; chunk = chunk_of r.text }) revisions

abbrev pub index_of : List Revision → List ℕ
index_of revisions = index_bytes (record { inline = false; generaldelta = false }) (items (stored_of revisions))

abbrev pub data_of : List Revision → List ℕ
data_of revisions = concat (map (λ s. s.chunk) (stored_of revisions))

-- the files of lists, with the filelogs of `f` and `g`
abbrev pub printed : Sight → Tree
printed s path =
    if same path changelog_index then Some (index_of s.changelog) else if same path changelog_data then Some (data_of s.changelog)
    else if same path manifest_index then Some (index_of s.manifest) else if same path manifest_data then Some (data_of s.manifest)
    else if same path (codes "store/data/f.i") then Some (index_of (s.filelog (codes "f"))) else if same path (codes "store/data/f.d") then Some (data_of (s.filelog (codes "f")))
    else if same path (codes "store/data/g.i") then Some (index_of (s.filelog (codes "g"))) else if same path (codes "store/data/g.d") then Some (data_of (s.filelog (codes "g")))
    else None

-- the list with another revision in this place
abbrev pub with_at : ℕ → Revision → List Revision → List Revision
with_at n r [] = []
with_at zero r (x ∷ xs) = r ∷ xs
with_at (suc n) r (x ∷ xs) = x ∷ with_at n r xs

abbrev pub with_filelogs : Sight → (List Revision → List Revision) → Sight
with_filelogs s f = record { changelog = s.changelog; manifest = s.manifest; filelog = λ path. f (s.filelog path) }

-- the second revision of `f`, with its parents the other way round: the node is the same
abbrev pub turned : Revision
turned = record { text = 50 ∷ 10 ∷ []; parents = (None, Some 0); link = 1 }

abbrev pub turned_files : Tree
turned_files = printed (with_filelogs merged_sight (with_at 1 turned))

-- a revision behind the last of `f` and of `g`
abbrev pub needless : Revision
needless = record { text = 120 ∷ 120 ∷ []; parents = (Some 0, None); link = 3 }

abbrev pub needless_files : Tree
needless_files = printed (with_filelogs merged_sight (λ log. log ++ needless ∷ []))

-- no filelog at all
abbrev pub lost_files : Tree
lost_files = printed (with_filelogs merged_sight (λ log. []))

-- the two changesets of the drafts, the second with these files in its list of changed ones
abbrev pub drafts_listing : List (List ℕ) → List Revision
drafts_listing files =
    record { text = codes "a0c8bcbbb45c63b90b70ad007bf38961f64f2af0\ntest\n0 0\na\n\na"; parents = (None, None); link = 0 }
    ∷ record { text = codes "a539ce0c1a22b0ecf34498f9f5ce8ea56df9ecb7\ntest\n60 0\n" ++ lines files ++ codes "\nb"; parents = (Some 0, None); link = 1 }
    ∷ []

abbrev pub listing_files : List (List ℕ) → Tree
listing_files files = with_file (with_file two_drafts_files changelog_index (Some (index_of (drafts_listing files)))) changelog_data (Some (data_of (drafts_listing files)))
