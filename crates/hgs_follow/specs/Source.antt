-- What a file revision was copied from. (Mercurial, utils/storageutil.py, `parsemeta` and `filerevisioncopied`.)
use Rattle.std.specs.Prelude.{ℕ, ◌-◌, List, [], ◌∷◌, codes, drop, take, length, Option, Some, None, if◌then◌else◌}
use Rattle.std.specs.Option.{option_map}
use Rattle.hgs_bytes.specs.Bytes.{begins_with}
use Rattle.hgs_bytes.specs.Text.{Line, lines_of}
use Rattle.hgs_index.specs.FileText.{prefix_of}
use Rattle.hgs_index.specs.Hex.{node_at}
use Rattle.hgs_follow.specs.declared.source.Source.{Source}

-- the path of a file, and the node of its revision
pub record CopySource : Type 0 where
  pub path : List ℕ
  pub node : List ℕ

-- the same of the code's value
abbrev pub view_source : Source → CopySource
view_source s = record { path = s.path.now; node = s.node.0 }

-- what stands between the two markers of a block
abbrev pub between_markers : List ℕ → List ℕ
between_markers block = drop 2 (take (length block - 2) block)

-- the lines of a text's metadata
abbrev pub metadata_lines : List ℕ → List Line
metadata_lines text = lines_of (between_markers (prefix_of text))

-- the value of the first line that begins with a key
abbrev pub value_in : List ℕ → List Line → Option (List ℕ)
value_in key [] = None
value_in key (l ∷ ls) = if begins_with l.0 key then Some (drop (length key) l.0) else value_in key ls

abbrev pub copy_key : List ℕ
copy_key = codes "copy: "

abbrev pub copyrev_key : List ℕ
copyrev_key = codes "copyrev: "

-- a path and the 40 digits of a node, where both are there
abbrev pub source_with : Option (List ℕ) → Option (List ℕ) → Option CopySource
source_with None digits = None
source_with (Some path) None = None
source_with (Some path) (Some digits) = option_map (λ node. record { path = path; node = node }) (node_at digits)

-- what the metadata of a file's text say that it was copied from
abbrev pub source_in : List Line → Option CopySource
source_in metadata = source_with (value_in copy_key metadata) (value_in copyrev_key metadata)

abbrev pub copied_from : List ℕ → Option CopySource
copied_from text = source_in (metadata_lines text)
