-- A small repository and its files, as Mercurial 6.3.2 wrote them with each text stored whole, uncompressed and in
-- separate files (as in tests/make_odd.py). What it wrote beside them, as caches and undo files, is left out.
use Rattle.std.specs.Prelude.{ℕ, ◌+◌, ◌-◌, ◌*◌, List, [], ◌∷◌, ◌++◌, nat_lt, pos, Some, None, if◌then◌else◌, codes, replicate, slice_index_or}
use Rattle.hgs_bytes.specs.Bytes.{same}
use Rattle.hgs_files.specs.Tree.{Tree}
use Rattle.hgs_index.specs.declared.kinds.Flag.TheVariants.{Plain}
use Rattle.hgs_index.specs.Node.{null_node}
use Rattle.hgs_marks.specs.Dirstate.{dirstate_text}
use Rattle.hgs_model.specs.History.{changeset_nodes}
use Rattle.hgs_model.specs.Repo.{TreeFile, Changeset, Repo}
use Rattle.hgs_stands.specs.Places.{dirstate_path}

-- a file of one line
abbrev one_line : List ℕ → List ℕ → TreeFile
one_line path text = record { path = path; flag = Plain; prefix = []; body = text ++ 10 ∷ [] }

-- a file `a`, and on it a second changeset with a file `b`
abbrev pub first_draft : Changeset
first_draft = record { parents = (None, None); tree = one_line (codes "a") (codes "a") ∷ []; user = codes "test"; seconds = pos 0; offset = pos 0; extras = []; description = codes "a" }

abbrev pub second_draft : Changeset
second_draft = record { parents = (Some 0, None); tree = one_line (codes "a") (codes "a") ∷ one_line (codes "b") (codes "b") ∷ []; user = codes "test"; seconds = pos 60; offset = pos 0; extras = []; description = codes "b" }

-- both are drafts, `main` is at the first, and the second is the working parent
abbrev pub two_drafts : Repo
two_drafts = record { changesets = first_draft ∷ second_draft ∷ []; phases = 1 ∷ 1 ∷ []; bookmarks = record { name = codes "main"; rev = 0 } ∷ []; working = (Some 1, None) }

-- the bytes of two hex digits each
abbrev digit : ℕ → ℕ
digit d = if nat_lt d 58 then d - 48 else d - 87

abbrev bytes : List ℕ → List ℕ
bytes [] = []
bytes (a ∷ []) = []
bytes (a ∷ b ∷ digits) = (digit a * 16 + digit b) ∷ bytes digits

abbrev pub File : Type 0
File = List ℕ × List ℕ

abbrev pub file : List ℕ → List ℕ → File
file path digits = (path, bytes digits)

abbrev tree_of : List File → Tree
tree_of [] path = None
tree_of (f ∷ files) path = if same f.0 path then Some f.1 else tree_of files path

-- the files that Mercurial wrote of it
abbrev pub two_drafts_files : Tree
two_drafts_files = tree_of (
    file (codes "requires") (codes "646f74656e636f64650a666e63616368650a7265766c6f6776310a73746f72650a")
    ∷ file (codes "bookmarks") (codes "63623961396633313462386230376261373130313266636462633534346235613464383266663562206d61696e0a")
    ∷ file (codes "dirstate") (codes "37bdf19219c0e69b87d6371fabfaf5c3a63794d900000000000000000000000000000000000000006e000081a400000002ffffffff00000001616e00000000ffffffffffffffff0000000162")
    ∷ file (codes "store/phaseroots") (codes "3120636239613966333134623862303762613731303132666364626335343462356134643832666635620a")
    ∷ file (codes "store/fncache") (codes "646174612f612e690a646174612f612e640a646174612f622e690a646174612f622e640a")
    ∷ file (codes "store/00changelog.i") (codes "000000010000000000000037000000360000000000000000ffffffffffffffffcb9a9f314b8b07ba71012fcdbc544b5a4d82ff5b00000000000000000000000000000000003700000000003800000037000000010000000100000000ffffffff37bdf19219c0e69b87d6371fabfaf5c3a63794d9000000000000000000000000")
    ∷ file (codes "store/00changelog.d") (codes "75613063386263626262343563363362393062373061643030376266333839363166363466326166300a746573740a3020300a610a0a6175613533396365306331613232623065636633343439386639663563653865613536646639656362370a746573740a363020300a620a0a62")
    ∷ file (codes "store/00manifest.i") (codes "00000001000000000000002c0000002b0000000000000000ffffffffffffffffa0c8bcbbb45c63b90b70ad007bf38961f64f2af000000000000000000000000000000000002c00000000005700000056000000010000000100000000ffffffffa539ce0c1a22b0ecf34498f9f5ce8ea56df9ecb7000000000000000000000000")
    ∷ file (codes "store/00manifest.d") (codes "756100623738396664643936646332663362643232396331646438656564663066633630653262363865330a756100623738396664643936646332663362643232396331646438656564663066633630653262363865330a6200316538383638356635646465633537346133346337306166343932663935623664656263383734310a")
    ∷ file (codes "store/data/a.i") (codes "000000010000000000000003000000020000000000000000ffffffffffffffffb789fdd96dc2f3bd229c1dd8eedf0fc60e2b68e3000000000000000000000000")
    ∷ file (codes "store/data/a.d") (codes "75610a")
    ∷ file (codes "store/data/b.i") (codes "000000010000000000000003000000020000000000000001ffffffffffffffff1e88685f5ddec574a34c70af492f95b6debc8741000000000000000000000000")
    ∷ file (codes "store/data/b.d") (codes "75620a")
    ∷ []
    )

-- ---- other files beside them

-- the tree with these files in the place of what stands there
abbrev pub over : Tree → List File → Tree
over t [] path = t path
over t (f ∷ files) path = if same f.0 path then Some f.1 else over t files path

abbrev pub with_bytes : Tree → List ℕ → List ℕ → Tree
with_bytes t path text = over t ((path, text) ∷ [])

-- What a third commit, of another text in `b`, had written of its files when it stopped 40 bytes into its entry of the
-- changelog's index. The bytes were made by a program of its own from the formats.
abbrev pub third_begun : List File
third_begun =
    file (codes "store/journal") (codes "646174612f622e6400330a646174612f622e690036340a30306d616e69666573742e64003133310a30306d616e69666573742e69003132380a30306368616e67656c6f672e64003131310a30306368616e67656c6f672e69003132380a")
    ∷ file (codes "store/journal.backupfiles") (codes "320a706c61696e006469727374617465006a6f75726e616c2e6261636b75702e646972737461746500300a")
    ∷ file (codes "journal.backup.dirstate") (codes "37bdf19219c0e69b87d6371fabfaf5c3a63794d900000000000000000000000000000000000000006e000081a400000002ffffffff00000001616e00000000ffffffffffffffff0000000162")
    ∷ file (codes "journal.new.dirstate") (codes "f8004f2670f3d0af87014afd32042f1b8082c09b00000000000000000000000000000000000000006e00000000ffffffffffffffff00000001616e00000000ffffffffffffffff0000000162")
    ∷ file (codes "store/data/b.d") (codes "75620a7562620a")
    ∷ file (codes "store/data/b.i") (codes "000000010000000000000003000000020000000000000001ffffffffffffffff1e88685f5ddec574a34c70af492f95b6debc874100000000000000000000000000000000000300000000000400000003000000010000000200000000ffffffff0143747360c3ab3e6212c3194d6208c99cb6f5b5000000000000000000000000")
    ∷ file (codes "store/00manifest.d") (codes "756100623738396664643936646332663362643232396331646438656564663066633630653262363865330a756100623738396664643936646332663362643232396331646438656564663066633630653262363865330a6200316538383638356635646465633537346133346337306166343932663935623664656263383734310a756100623738396664643936646332663362643232396331646438656564663066633630653262363865330a6200303134333734373336306333616233653632313263333139346436323038633939636236663562350a")
    ∷ file (codes "store/00manifest.i") (codes "00000001000000000000002c0000002b0000000000000000ffffffffffffffffa0c8bcbbb45c63b90b70ad007bf38961f64f2af000000000000000000000000000000000002c00000000005700000056000000010000000100000000ffffffffa539ce0c1a22b0ecf34498f9f5ce8ea56df9ecb700000000000000000000000000000000008300000000005700000056000000020000000200000001ffffffff3ab4e277f66e40d9e51f137485ed50312d32f9ab000000000000000000000000")
    ∷ file (codes "store/00changelog.d") (codes "75613063386263626262343563363362393062373061643030376266333839363166363466326166300a746573740a3020300a610a0a6175613533396365306331613232623065636633343439386639663563653865613536646639656362370a746573740a363020300a620a0a6275336162346532373766363665343064396535316631333734383565643530333132643332663961620a746573740a31323020300a620a0a63")
    ∷ file (codes "store/00changelog.i") (codes "000000010000000000000037000000360000000000000000ffffffffffffffffcb9a9f314b8b07ba71012fcdbc544b5a4d82ff5b00000000000000000000000000000000003700000000003800000037000000010000000100000000ffffffff37bdf19219c0e69b87d6371fabfaf5c3a63794d900000000000000000000000000000000006f00000000003900000038000000020000000200000001fffffffff8004f2670f3d0af")
    ∷ file (codes "wlock") (codes "777269746572")
    ∷ file (codes "store/lock") (codes "777269746572")
    ∷ []

abbrev pub third_begun_files : Tree
third_begun_files = over two_drafts_files third_begun

-- the names that the list has
abbrev pub sample_names : List (List ℕ)
sample_names = codes "data/a.i" ∷ codes "data/a.d" ∷ codes "data/b.i" ∷ codes "data/b.d" ∷ []

-- the words of `requires`
abbrev pub sample_words : List (List ℕ)
sample_words = codes "dotencode" ∷ codes "fncache" ∷ codes "revlogv1" ∷ codes "store" ∷ []

-- a node that no revision of the repository has
abbrev pub other_node : List ℕ
other_node = replicate 20 17

-- the node of one of the two changesets
abbrev pub sample_node : ℕ → List ℕ
sample_node rev = slice_index_or (changeset_nodes two_drafts.changesets) rev null_node

-- the files, with another dirstate
abbrev pub tracking : List (List ℕ) → Tree
tracking paths = with_bytes two_drafts_files dirstate_path (dirstate_text (record { p1 = sample_node 1; p2 = null_node; paths = paths }))
