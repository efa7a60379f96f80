-- What a session that keeps texts asks of the files, and what it keeps then.
use Rattle.std.specs.Prelude.{◌≡◌, ◌⊎◌, ℕ, List, [], Option, Some, None, Result, Ok, Err, if◌then◌else◌}
use Rattle.hgs_bytes.specs.Bytes.{same}
use Rattle.hgs_files.specs.declared.op.Op.{Op}
use Rattle.hgs_files.specs.Tree.{Tree}
use Rattle.hgs_index.specs.Manifest.{Row, read_manifest}
use Rattle.hgs_index.specs.Node.{null_node}
use Rattle.hgs_load.specs.declared.answer.ReadAnswer.{ReadAnswer}
use Rattle.hgs_load.specs.Asks.{Asks, answer, then_asks, MayAnswerWhereTold}
use Rattle.hgs_load.specs.Load.{asks_unless}
use Rattle.hgs_load.specs.View.{View}
use Rattle.hgs_reader.specs.Contents.{manifest_index, manifest_data, rows_answer, files_text, file_node, body_asks}
use Rattle.hgs_reader.specs.Find.{text_asks}
use Rattle.hgs_reader.specs.Line.{change_asks}
use Rattle.hgs_recent.specs.Texts.{Texts, text_under, used, MayKeep}

-- what was loaded, and the texts of manifests that are kept beside it
pub record Recent : Type 0 where
  pub view : View
  pub texts : Texts

-- ---- questions, where these texts are kept

-- the text of the manifest with this node, which is asked for where it is not kept
abbrev pub manifest_asks : Texts → List ℕ → Asks (Result (List ℕ) ReadAnswer)
manifest_asks texts node = asks_unless (text_under node texts) (text_asks manifest_index manifest_data node)

-- the files of the manifest with this node; the null node is that of the empty tree, which has no text
abbrev pub rows_asks : Texts → List ℕ → Asks (Result (List Row) ReadAnswer)
rows_asks texts node =
    if same node null_node then answer (Ok [])
    else then_asks (manifest_asks texts node) (λ text. answer (rows_answer (read_manifest text)))

-- the files of a changeset
abbrev pub tree_asks : Texts → View → ℕ → Asks (Result (List Row) ReadAnswer)
tree_asks texts view rev = then_asks (change_asks view rev) (λ c. rows_asks texts c.manifest)

-- a line for each
abbrev pub files_asks : Texts → View → ℕ → Asks (Result (List ℕ) ReadAnswer)
files_asks texts view rev = then_asks (tree_asks texts view rev) (λ rows. answer (Ok (files_text rows)))

-- the body of one
abbrev pub cat_asks : Texts → View → ℕ → List ℕ → Asks (Result (List ℕ) ReadAnswer)
cat_asks texts view rev path =
    then_asks (tree_asks texts view rev) (λ rows.
    then_asks (answer (file_node path rows)) (λ node.
    body_asks path node))

-- ---- what they use of the texts

-- a manifest's node and its text, or none where the tree is empty
abbrev pub Use : Type 0
Use = Option (List ℕ × List ℕ)

-- what is used of the manifest with this node
abbrev pub use_asks : Texts → List ℕ → Asks (Result Use ReadAnswer)
use_asks texts node =
    if same node null_node then answer (Ok None)
    else then_asks (manifest_asks texts node) (λ text. answer (Ok (Some (node, text))))

-- what is used for the files of a changeset
abbrev pub changeset_use_asks : Texts → View → ℕ → Asks (Result Use ReadAnswer)
changeset_use_asks texts view rev = then_asks (change_asks view rev) (λ c. use_asks texts c.manifest)

-- a text that was kept comes first; one that was read is kept first, or not, where there was no memory
abbrev pub UsesText : List ℕ → List ℕ → Option (List ℕ) → Texts → Texts → Type 0
UsesText node text None old new = MayKeep node text old new
UsesText node text (Some kept) old new = new ≡ used node text old

abbrev pub Uses : Use → Texts → Texts → Type 0
Uses None old new = new ≡ old
Uses (Some u) old new = UsesText u.0 u.1 (text_under u.0 old) old new

-- what a call keeps that read the text with this node: the text, or nothing where it was refused
abbrev pub KeepsRead : {X : Type 0} → Option (List Op) → Tree → Option (List Op) → List ℕ → Texts → Texts → Result X ReadAnswer → Type 0
KeepsRead before start after node old new (Ok x) = (text : List ℕ) × MayAnswerWhereTold before start after (text_asks manifest_index manifest_data node) (Ok text) × MayKeep node text old new
KeepsRead before start after node old new (Err e) = new ≡ old

-- The question was answered so, and this was used.
abbrev pub WasUsed : Option (List Op) → Tree → Option (List Op) → Asks (Result Use ReadAnswer) → Texts → Texts → Type 0
WasUsed before start after question old new = (u : Use) × MayAnswerWhereTold before start after question (Ok u) × Uses u old new

-- What a call keeps: what it used comes first. A refused call used it, or changed nothing.
abbrev pub Keeps : {X : Type 0} → Option (List Op) → Tree → Option (List Op) → Asks (Result Use ReadAnswer) → Texts → Texts → Result X ReadAnswer → Type 0
Keeps before start after question old new (Ok x) = WasUsed before start after question old new
Keeps before start after question old new (Err e) = (new ≡ old) ⊎ WasUsed before start after question old new
