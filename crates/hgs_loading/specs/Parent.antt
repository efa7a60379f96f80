-- The manifest of a changeset.
use Rattle.std.specs.Prelude.{ℕ, List, [], Option, Some, None, Result, Ok, Err, if◌then◌else◌}
use Rattle.hgs_bytes.specs.Bytes.{same}
use Rattle.hgs_files.specs.Tree.{Tree}
use Rattle.hgs_index.specs.ChangeText.{Change, read_change}
use Rattle.hgs_index.specs.Manifest.{Row, read_manifest}
use Rattle.hgs_index.specs.Node.{null_node}
use Rattle.hgs_revlog.specs.declared.fault.RevFault.TheVariants as faults
use Rattle.hgs_revlog.specs.Log.{Log, place_of}
use Rattle.hgs_load.specs.declared.answer.ReadAnswer.{ReadAnswer}
use Rattle.hgs_reader.specs.Contents.{manifest_index, rows_answer}
use Rattle.hgs_reader.specs.Line.{change_of_text}
use Rattle.hgs_load.specs.View.{changelog_index, revlog_refusal}
use Rattle.hgs_loading.specs.declared.parent.ParentManifest.{ParentManifest}
use Rattle.hgs_loading.specs.Found.{and_then}
use Rattle.hgs_loading.specs.Logs.{text_in_form}

-- the changeset of a revision of a changelog, whose chunks stand in this file where it is separate
abbrev pub change_in : List ℕ → Log → ℕ → Tree → Result Change ReadAnswer
change_in chunks changelog rev t = and_then (text_in_form changelog_index chunks changelog rev t) (λ text. change_of_text rev (read_change text))

-- a revision of the manifest's revlog, none for no files, and the files
abbrev pub Files : Type 0
Files = Option ℕ × List Row

abbrev pub rows_of_text : ℕ → List ℕ → Result Files ReadAnswer
rows_of_text rev text = and_then (rows_answer (read_manifest text)) (λ rows. Ok (Some rev, rows))

abbrev pub rows_at : List ℕ → Log → Tree → Option ℕ → Result Files ReadAnswer
rows_at chunks manifest t None = Err (revlog_refusal manifest_index faults.Missing)
rows_at chunks manifest t (Some rev) = and_then (text_in_form manifest_index chunks manifest rev t) (rows_of_text rev)

-- the files of the manifest with this node; the null node is that of the empty tree
abbrev pub rows_in : List ℕ → Log → List ℕ → Tree → Result Files ReadAnswer
rows_in chunks manifest node t = if same node null_node then Ok (None, []) else rows_at chunks manifest t (place_of manifest.entries node)

-- the files of a changeset: the chunks and the log of the changelog, then those of the manifest
abbrev pub parent_in : List ℕ → Log → List ℕ → Log → ℕ → Tree → Result Files ReadAnswer
parent_in change_chunks changelog chunks manifest rev t = and_then (change_in change_chunks changelog rev t) (λ c. rows_in chunks manifest c.manifest t)

abbrev pub view_parent : ParentManifest → Files
view_parent p = (p.rev, p.rows)
