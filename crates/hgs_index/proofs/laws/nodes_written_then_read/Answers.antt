use Rattle.hgs_index.specs.Theorems.HexText.{node_back, node_found}
use Rattle.hgs_index.proofs.laws.nodes_written_then_read.Goals as goal

pub returns-clause-back : goal.returns-clause-back
returns-clause-back c node is = node_back node is.size is.bytes

pub returns-clause-found : goal.returns-clause-found
returns-clause-found c digits node e = let d = node_found digits node e in (d.text, record { size = d.len; bytes = d.bytes })
