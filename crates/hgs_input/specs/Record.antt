-- The record of a new changeset: the text that a commit reads.
use Rattle.std.specs.Prelude.{◌≡◌, ◌≤◌, ℕ, Bool, false, List, [], ◌∷◌, ◌++◌, length, Option, Some, None, codes, decimal, flat_map, if◌then◌else◌}
use Rattle.hgs_bytes.specs.Text.{line}
use Rattle.hgs_index.specs.declared.kinds.Flag.{Flag}
use Rattle.hgs_index.specs.declared.kinds.Flag.TheVariants.{Plain, Exec, Link}
use Rattle.hgs_index.specs.ChangeText.{date_text}
use Rattle.hgs_model.specs.declared.command.NewChange.{NewChange}
use Rattle.hgs_model.specs.declared.files.NewFile.{NewFile}
use Rattle.hgs_model.specs.declared.phase.Phase.{Phase}
use Rattle.hgs_model.specs.declared.phase.Phase.TheVariants.{Draft}
use Rattle.hgs_model.specs.Phase.{phase_name}
use Rattle.hgs_model.specs.Valid.{IsNewChange}

-- the most bytes of an input
abbrev pub most_input : ℕ
most_input = 268435456

abbrev pub parent_text : List ℕ → List ℕ
parent_text name = line (codes "parent " ++ name)

-- the line of a phase; a draft's may be left out
abbrev pub phase_text : Bool → Phase → List ℕ
phase_text false Draft = []
phase_text _ phase = line (codes "phase " ++ phase_name phase)

abbrev pub bookmark_text : Option (List ℕ) → List ℕ
bookmark_text None = []
bookmark_text (Some name) = line (codes "bookmark " ++ name)

-- the line of a branch; that of `default` may be left out
abbrev pub branch_text : Bool → Option (List ℕ) → List ℕ
branch_text says None = if says then line (codes "branch default") else []
branch_text says (Some name) = line (codes "branch " ++ name)

-- the length in a line, and as many bytes with an LF behind them
abbrev pub description_text : List ℕ → List ℕ
description_text text = line (codes "desc " ++ decimal (length text)) ++ line text

-- `-` for a plain file, `x` for an executable one, `l` for a link
abbrev pub flag_sign : Flag → List ℕ
flag_sign Plain = codes "-"
flag_sign Exec = codes "x"
flag_sign Link = codes "l"

-- the line of the file that a file is a copy of
abbrev pub copyfrom_text : Option (List ℕ) → List ℕ
copyfrom_text None = []
copyfrom_text (Some path) = line (codes "copyfrom " ++ path)

-- the line of its source, where it has one; flag, length and path in a line, and as many bytes with an LF behind them
abbrev pub file_text : NewFile → List ℕ
file_text f = copyfrom_text f.from ++ (line (codes "file " ++ (flag_sign f.flag ++ 32 ∷ (decimal (length f.body) ++ 32 ∷ f.path))) ++ line f.body)

-- which lines a record has that may be left out: that of a draft's phase, and that of the branch `default`
pub record Wording : Type 0 where
  pub draft : Bool
  pub default : Bool

-- the record of a changeset
abbrev pub record_text : Wording → NewChange → List ℕ
record_text says c =
    line (codes "commit") ++ (flat_map parent_text c.parents ++ (line (codes "user " ++ c.user) ++ (line (codes "date " ++ date_text c.seconds c.offset [])
    ++ (phase_text says.draft c.phase ++ (bookmark_text c.bookmark ++ (branch_text says.default c.branch ++ (description_text c.description ++ (flat_map file_text c.files ++ line (codes "end")))))))))

-- the bytes are a record of this changeset, and no more than an input may have
pub record IsRecord (bytes : List ℕ) (c : NewChange) : Type 0 where
  pub says : Wording
  pub text : bytes ≡ record_text says c
  pub valid : IsNewChange c
  pub size : length bytes ≤ most_input
