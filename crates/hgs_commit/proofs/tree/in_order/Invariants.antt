use Rattle.std.proofs.Common.{◌≡◌, ◌++◌, map}
use Rattle.hgs_model.specs.History.{in_order}
use Rattle.hgs_commit.proofs.tree.in_order.Given as goal

abbrev pub invariant-loop-path : goal.invariant-loop-path
invariant-loop-path l = l.names ++ map (λ p. p.items) l.path-iterator ≡ in_order l.fn.paths.items
