use Rattle.std.proofs.Common.{◌≡◌, map, length}
use Rattle.hgs_model.specs.History.{in_order}
use Rattle.hgs_commit.proofs.OrderLemmas.{onto}
use Rattle.hgs_commit.proofs.tree.set_of.Given as goal

abbrev pub invariant-loop-path : goal.invariant-loop-path
invariant-loop-path l = onto l.rest.items (map (λ p. p.items) l.ordered.keys) ≡ in_order l.fn.paths.items

abbrev pub decreases-loop-path : goal.decreases-loop-path
decreases-loop-path l = length l.rest.items
