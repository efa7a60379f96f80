-- Texts of files with metadata, and lines of followed histories.
use Rattle.std.specs.Prelude.{ℕ, List, [], ◌∷◌, ◌++◌, codes, Option, unwrap_or}
use Rattle.std.specs.Option.{option_map}
use Rattle.hgs_index.specs.FileText.{marker}
use Rattle.hgs_index.specs.Hex.{hex, node_at}
use Rattle.hgs_follow.specs.Source.{copied_from}
use Rattle.hgs_follow.specs.declared.line.Line.{Line}

-- the source that a text with these lines of metadata says, and the digits of its node
abbrev pub told_by : List ℕ → List ℕ → Option (List ℕ × List ℕ)
told_by metadata body = option_map (λ s. (s.path, hex s.node)) (copied_from (marker ++ metadata ++ marker ++ body))

-- the metadata of a copy of a file with the text `a`, as Mercurial writes it
abbrev pub copy_of_a : List ℕ
copy_of_a = codes "copy: a\ncopyrev: b789fdd96dc2f3bd229c1dd8eedf0fc60e2b68e3\n"

-- and those of a copy of that copy
abbrev pub copy_of_b : List ℕ
copy_of_b = codes "copy: b\ncopyrev: 37d9b5d994eab34eda9c16b195ace52c7b129980\n"

-- a line of a file revision with these digits of its node
abbrev pub line_of : ℕ → List ℕ → List ℕ → ℕ → Line
line_of link digits path rev = record { link = record { 0 = link }; path = path; rev = rev; node = record { 0 = unwrap_or (node_at digits) [] } }

-- a merge of two changes to `b`, which is a copy of `a`
abbrev pub merged_b : List Line
merged_b =
    line_of 4 (codes "c52322f7d12539b507c607e28e8091a2805a8388") (codes "b") 3
    ∷ line_of 3 (codes "c1983bc20aefab86b7b2973fa1208fcd36e829bf") (codes "b") 2
    ∷ line_of 2 (codes "8813777d13c1fe24066ed28099aec948fb05f350") (codes "b") 1
    ∷ line_of 1 (codes "37d9b5d994eab34eda9c16b195ace52c7b129980") (codes "b") 0
    ∷ line_of 0 (codes "b789fdd96dc2f3bd229c1dd8eedf0fc60e2b68e3") (codes "a") 0
    ∷ []
