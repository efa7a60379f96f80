use Rattle.std.proofs.Common.{◌++◌, map, ◌∙◌, ap}
use Rattle.hgs_commit.proofs.tree.in_order.Goals as goal

pub loop-path-init : goal.loop-path-init
loop-path-init c =
    ap (λ names. names ++ map (λ p. p.items) c.into_iter-path-iterator.result) c.new-names.ensures
    ∙ ap (map (λ p. p.items)) c.into_iter-path-iterator.ensures.into_iter_gives.0
    ∙ c.in_ok-ordered.ensures
