use Rattle.std.proofs.Common.{◌≡◌, ◌+◌, ◌≤◌, length}
use Rattle.hgs_marks.specs.Bookmarks.{mark_lines}
use Rattle.hgs_marks.specs.Lines.{line_nodes, node_values}
use Rattle.hgs_marks.proofs.LineLemmas.{nodes_of}
use Rattle.hgs_marks.proofs.lines.mark_nodes.Given as goal

abbrev pub invariant-loop-rest : goal.invariant-loop-rest
invariant-loop-rest l = record {
  read : nodes_of (node_values l.nodes.items) l.number l.rest ≡ line_nodes (mark_lines l.text);
  room : l.number + length l.rest ≤ length l.text;
}

abbrev pub decreases-loop-rest : goal.decreases-loop-rest
decreases-loop-rest l = length l.rest
