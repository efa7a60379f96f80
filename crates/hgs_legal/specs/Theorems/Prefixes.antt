-- Fronts of legal logs.
use Rattle.std.proofs.Common.{List, [], ◌++◌, refl}
use Rattle.hgs_files.specs.declared.op.Op.{Op}
use Rattle.hgs_files.specs.Tree.{Tree}
use Rattle.hgs_legal.specs.LegalLog.{start_of, Goes, IsLegal}
use Rattle.hgs_legal.specs.Theorems.Runs.{run-split}

-- a prefix of a legal log is legal
pub prefix-legal : (t : Tree) (log more : List Op) → IsLegal t (log ++ more) → IsLegal t log
prefix-legal t log more legal r clean =
    let run = legal r clean in
    let parts = run-split Goes (start_of t r) log more run.0 run.1 in
    (parts.0, parts.1)

-- nothing is legal
pub empty-legal : (t : Tree) → IsLegal t []
empty-legal t r clean = (start_of t r, refl)
