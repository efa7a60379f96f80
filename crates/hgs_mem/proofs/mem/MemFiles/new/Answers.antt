use Rattle.std.proofs.Common.{◌∙◌, ap, List, ℕ}
use Rattle.hgs_files.specs.Tree.{Tree}
use Rattle.hgs_mem.proofs.mem.MemFiles.new.Goals as goal

pub returns-clause-start : goal.returns-clause-start
returns-clause-start c = λ (path : List ℕ). ap (λ (t : Tree). t path) (c.from_map.ensures.start ∙ c.new.ensures)
