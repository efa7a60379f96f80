use Rattle.hgs_reader.specs.Theorems.EntryLemmas.{node-last}
use Rattle.hgs_reader.specs.Theorems.HeldLemmas.{more_nodes, nodes_behind, nodes_in_front}
use Rattle.hgs_reader.proofs.laws.nodes_among_entries.Goals as goal

pub returns : goal.returns
returns c = record { behind = nodes_behind; front = nodes_in_front; more = more_nodes; last = node-last }
