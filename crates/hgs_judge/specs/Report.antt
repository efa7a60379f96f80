-- Findings in their order.
use Rattle.std.specs.Prelude.{ℕ, suc, List, [], ◌∷◌, ◌++◌, Bool, true, false, Some, map}
use Rattle.hgs_findings.specs.Findings as findings
use Rattle.hgs_judge.specs.declared.kinds.Kinds.{Kinds}
use Rattle.hgs_judge.specs.declared.path.PathFindings.{PathFindings}
use Rattle.hgs_judge.specs.declared.report.Finding.{Finding}

-- the finding that the value is
abbrev pub finding_in : Finding → findings.Finding
finding_in f = record { path = f.path; rev = f.rev; kind = f.kind }

abbrev pub findings_in : List Finding → List findings.Finding
findings_in list = map finding_in list

-- ---- the findings of a path

abbrev pub one_if : Bool → List ℕ → ℕ → ℕ → List findings.Finding
one_if false path rev kind = []
one_if true path rev kind = record { path = path; rev = Some rev; kind = kind } ∷ []

-- those of each element of a list, of which the first has this number
abbrev pub each_from : {A : Type 0} → (ℕ → A → List findings.Finding) → ℕ → List A → List findings.Finding
each_from f rev [] = []
each_from f rev (x ∷ xs) = f rev x ++ each_from f (suc rev) xs

abbrev pub of_lacking : List ℕ → ℕ → Bool → List findings.Finding
of_lacking path rev lacks = one_if lacks path rev 5

abbrev pub of_kinds : List ℕ → ℕ → Kinds → List findings.Finding
of_kinds path rev k = one_if k.is_unneeded path rev 6 ++ (one_if k.is_misplaced path rev 7 ++ one_if k.is_wrongly_made path rev 8)

-- all that is found of a path but the lists of changed files
abbrev pub of_path : List ℕ → List ℕ → PathFindings → List findings.Finding
of_path index_file data_file f =
    one_if f.broken index_file f.count 3
    ++ (each_from (of_lacking index_file) 0 f.lacking.items
    ++ (each_from (of_kinds index_file) 0 f.kinds.items
    ++ (one_if f.index_rest index_file f.count 17 ++ one_if f.data_rest data_file f.count 17)))
