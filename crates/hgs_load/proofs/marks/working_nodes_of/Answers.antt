use Rattle.std.proofs.Common.{List, ℕ, subst}
use Rattle.hgs_bytes.specs.Answer.{Gives}
use Rattle.hgs_marks.specs.Dirstate.{read_dirstate}
use Rattle.hgs_load.specs.Answer.{is_of_outside}
use Rattle.hgs_load.specs.Marks.{nodes_of, nodes_answer}
use Rattle.hgs_load.proofs.marks.working_nodes_of.Goals as goal

pub returns-clause-nodes : goal.returns-clause-nodes
returns-clause-nodes c =
    let P : List ℕ → Type 0 = λ text. Gives is_of_outside nodes_of c.nodes_from.result (nodes_answer (read_dirstate text)) in
    subst P c.piece_of.ensures c.nodes_from.ensures.nodes
