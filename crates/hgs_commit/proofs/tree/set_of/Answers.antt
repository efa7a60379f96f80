use Rattle.std.proofs.Common.{map, sym, ◌∙◌, ap}
use Rattle.hgs_commit.proofs.OrderLemmas.{none-popped, onto, onto-empty, onto-last, onto-none}
use Rattle.hgs_commit.proofs.tree.set_of.Goals as goal

pub loop-path-init : goal.loop-path-init
loop-path-init c = ap (λ keys. onto c.args.paths.items (map (λ p. p.items) keys)) c.new-ordered.ensures.empty ∙ onto-none c.args.paths.items

pub loop-path-preserved : goal.loop-path-preserved
loop-path-preserved c =
    ap (onto c.pop.new.self.items) c.in_ok-insert_path.ensures
    ∙ sym (onto-last c.pop.new.self.items c.in-Some.path (map (λ p. p.items) c.loop-path.ordered.keys))
    ∙ ap (λ l. onto l (map (λ p. p.items) c.loop-path.ordered.keys)) (sym c.in-Some.ensures.items)
    ∙ c.loop-path.invariant

pub returns : goal.returns
returns c =
    let empty = (none-popped c.pop.result _ _ c.in_default.is c.pop.ensures.cases).0 in
    sym (onto-empty c.loop-path.rest.items (map (λ p. p.items) c.loop-path.ordered.keys) (sym c.loop-path.rest.ok.0 ∙ empty)) ∙ c.loop-path.invariant
