-- The files of a changeset, and the body of one.
use Rattle.std.specs.Prelude.{ℕ, List, [], ◌∷◌, ◌++◌, length, nat_lt, flat_map, codes, Option, Some, None, Result, Ok, Err, if◌then◌else◌}
use Rattle.hgs_bytes.specs.Bytes.{same}
use Rattle.hgs_index.specs.FileText.{body_of}
use Rattle.hgs_index.specs.Hex.{hex}
use Rattle.hgs_index.specs.Manifest.{Row, read_manifest}
use Rattle.hgs_index.specs.Node.{null_node}
use Rattle.hgs_index.specs.declared.kinds.Flag.{Flag}
use Rattle.hgs_index.specs.declared.kinds.Flag.TheVariants.{Plain, Exec, Link}
use Rattle.hgs_index.specs.declared.kinds.Which.TheVariants.{FileText, Tree}
use Rattle.hgs_index.specs.declared.texts.ManifestFault.{ManifestFault}
use Rattle.hgs_index.specs.declared.texts.ManifestFault.TheVariants as manifest_faults
use Rattle.hgs_manifest.specs.Held.{found_in}
use Rattle.hgs_path.specs.Check.{checked}
use Rattle.hgs_path.specs.StoreName.{store_name}
use Rattle.hgs_path.specs.declared.check.PathFault.{PathFault}
use Rattle.hgs_path.specs.declared.name.Ext.TheVariants.{I, D}
use Rattle.hgs_plan.specs.declared.damage.Part.TheVariants as parts
use Rattle.hgs_load.specs.declared.answer.ReadAnswer.{ReadAnswer}
use Rattle.hgs_load.specs.declared.answer.ReadAnswer.TheVariants.{Limit, UnknownPath, Memory}
use Rattle.hgs_load.specs.Asks.{Asks, answer, then_asks}
use Rattle.hgs_reader.specs.Find.{text_asks}
use Rattle.hgs_reader.specs.Line.{change_asks}
use Rattle.hgs_load.specs.View.{View, damaged}

abbrev pub manifest_index : List ℕ
manifest_index = codes "store/00manifest.i"

abbrev pub manifest_data : List ℕ
manifest_data = codes "store/00manifest.d"

-- the numbers above which a tree and a file are refused: files, and bytes
abbrev pub most_files : ℕ
most_files = 20000

abbrev pub most_file_text : ℕ
most_file_text = 16777216

-- ---- the files of a manifest

abbrev pub manifest_refusal : ManifestFault → ReadAnswer
manifest_refusal (manifest_faults.Line n) = damaged manifest_index parts.Manifest 1 n
manifest_refusal (manifest_faults.Order n) = damaged manifest_index parts.Manifest 2 n
manifest_refusal manifest_faults.Memory = Memory

abbrev pub rows_answer : Result (List Row) ManifestFault → Result (List Row) ReadAnswer
rows_answer (Err f) = Err (manifest_refusal f)
rows_answer (Ok rows) = if nat_lt most_files (length rows) then Err (Limit Tree) else Ok rows

-- the files of the manifest with this node; the null node is that of the empty tree
abbrev pub rows_asks : List ℕ → Asks (Result (List Row) ReadAnswer)
rows_asks node =
    if same node null_node then answer (Ok [])
    else then_asks (text_asks manifest_index manifest_data node) (λ text. answer (rows_answer (read_manifest text)))

-- the files of a changeset
abbrev pub tree_asks : View → ℕ → Asks (Result (List Row) ReadAnswer)
tree_asks view rev = then_asks (change_asks view rev) (λ c. rows_asks c.manifest)

-- ---- the text of `files`

abbrev pub flag_word : Flag → List ℕ
flag_word Plain = codes "-"
flag_word Exec = codes "x"
flag_word Link = codes "l"

-- node, flag and path, with spaces between
abbrev pub file_line : Row → List ℕ
file_line r = hex r.node ++ 32 ∷ [] ++ flag_word r.flag ++ 32 ∷ [] ++ r.path ++ 10 ∷ []

abbrev pub files_text : List Row → List ℕ
files_text rows = flat_map file_line rows

-- a line for each file of a changeset, in the order of their paths
abbrev pub files_asks : View → ℕ → Asks (Result (List ℕ) ReadAnswer)
files_asks view rev = then_asks (tree_asks view rev) (λ rows. answer (Ok (files_text rows)))

-- ---- the body of a file

abbrev pub node_answer : Option (List ℕ × Flag) → Result (List ℕ) ReadAnswer
node_answer None = Err UnknownPath
node_answer (Some file) = Ok file.0

-- no changeset has a path that is not tracked
abbrev pub tracked_node : Result Unit PathFault → Option (List ℕ × Flag) → Result (List ℕ) ReadAnswer
tracked_node (Err f) file = Err UnknownPath
tracked_node (Ok x) file = node_answer file

-- the node of a file of a tree
abbrev pub file_node : List ℕ → List Row → Result (List ℕ) ReadAnswer
file_node path rows = tracked_node (checked path) (found_in path rows)

-- what stands behind the metadata of a file's text
abbrev pub body_answer : List ℕ → Result (List ℕ) ReadAnswer
body_answer text = if nat_lt most_file_text (length (body_of text)) then Err (Limit FileText) else Ok (body_of text)

-- the body of a path's file with this node
abbrev pub body_asks : List ℕ → List ℕ → Asks (Result (List ℕ) ReadAnswer)
body_asks path node = then_asks (text_asks (store_name path I) (store_name path D) node) (λ text. answer (body_answer text))

-- the body of a file of a changeset
abbrev pub cat_asks : View → ℕ → List ℕ → Asks (Result (List ℕ) ReadAnswer)
cat_asks view rev path =
    then_asks (tree_asks view rev) (λ rows.
    then_asks (answer (file_node path rows)) (λ node.
    body_asks path node))
