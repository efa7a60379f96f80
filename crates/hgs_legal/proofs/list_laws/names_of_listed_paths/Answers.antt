use Rattle.hgs_bytes.specs.Text.{lines_of}
use Rattle.hgs_legal.specs.ListsPaths.{IsKeptName}
use Rattle.hgs_legal.proofs.ListLines.{names-whole, whole-names}
use Rattle.hgs_legal.proofs.ListOps.{list_of}
use Rattle.hgs_legal.proofs.list_laws.names_of_listed_paths.Goals as goal

pub returns : goal.returns
returns c = record {
  names = λ t r names read lists. whole-names (IsKeptName r.changesets) 1 (lines_of (list_of t)) names read lists.lines;
  lists = λ t r names read all. record { lines = names-whole (IsKeptName r.changesets) 1 (lines_of (list_of t)) names read all };
}
