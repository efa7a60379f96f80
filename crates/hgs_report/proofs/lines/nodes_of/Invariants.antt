use Rattle.std.proofs.Common.{◌≡◌, take}
use Rattle.hgs_marks.specs.Lines.{node_values}
use Rattle.hgs_report.specs.Lines.{root_values}
use Rattle.hgs_report.proofs.lines.nodes_of.Given as goal

abbrev pub invariant-loop-root : goal.invariant-loop-root
invariant-loop-root l = node_values l.nodes.items ≡ root_values (take l.root-index l.roots)
