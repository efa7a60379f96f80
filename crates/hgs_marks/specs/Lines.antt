-- The nodes of the lines of a text of bookmarks.
use Rattle.std.specs.Prelude.{ℕ, List, Result, Ok, Err, map}
use Rattle.hgs_index.specs.declared.node.Node.{Node}
use Rattle.hgs_marks.specs.Bookmarks.{Mark}
use Rattle.hgs_marks.specs.declared.fault.MarkFault.{MarkFault}

abbrev pub node_values : List Node → List (List ℕ)
node_values nodes = map (λ (n : Node). n.0) nodes

abbrev pub mark_values : List Mark → List (List ℕ)
mark_values marks = map (λ (m : Mark). m.node) marks

-- the node of each line, or the first fault
abbrev pub line_nodes : Result (List Mark) MarkFault → Result (List (List ℕ)) MarkFault
line_nodes (Ok marks) = Ok (mark_values marks)
line_nodes (Err fault) = Err fault
