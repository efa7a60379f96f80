-- What `verify` writes.
use Rattle.std.specs.Prelude.{ℕ, List, [], ◌∷◌, ◌++◌, Option, Some, None, codes, decimal, flat_map, length}
use Rattle.hgs_findings.specs.Findings.{Finding}
use Rattle.hgs_index.specs.Hex.{hex}
use Rattle.hgs_index.specs.declared.node.Node.{Node}

-- the number of a revision or of a line, where there is one
abbrev pub rev_text : Option ℕ → List ℕ
rev_text None = codes "-"
rev_text (Some rev) = decimal rev

-- a finding's file, its revision, and its kind
abbrev pub finding_line : Finding → List ℕ
finding_line f = f.path ++ 32 ∷ rev_text f.rev ++ 32 ∷ decimal f.kind ++ 10 ∷ []

abbrev pub finding_lines : List Finding → List ℕ
finding_lines findings = flat_map finding_line findings

-- what was looked at, and how much was found
abbrev pub counts_line : ℕ → ℕ → ℕ → List ℕ
counts_line changesets filelogs count = codes "checked " ++ decimal changesets ++ codes " changesets, " ++ decimal filelogs ++ codes " filelogs, " ++ decimal count ++ codes " findings" ++ 10 ∷ []

-- a line for each finding, and the counts behind them
abbrev pub report_text : List Finding → ℕ → ℕ → List ℕ
report_text findings changesets filelogs = finding_lines findings ++ counts_line changesets filelogs (length findings)

-- what a generated repository came to: how many changesets and files were checked, the last node, and how much was found
abbrev pub summary_text : List Finding → ℕ → ℕ → Node → List ℕ
summary_text findings changesets filelogs tip = codes "changesets " ++ decimal changesets ++ 10 ∷ (codes "files " ++ decimal filelogs ++ 10 ∷ (codes "tip " ++ hex tip.0 ++ 10 ∷ (codes "findings " ++ decimal (length findings) ++ 10 ∷ [])))

abbrev pub report_status : List Finding → ℕ
report_status [] = 0
report_status (f ∷ findings) = 29
