use Rattle.std.proofs.Common.{◌≡◌, ◌∷◌, length, sym, ap, ◌∙◌, arith}
use Rattle.std.specs.Vec.Iter.{into_iter_items}
use Rattle.hgs_transaction.proofs.OwnedLoops.{ended, moved, nothing-left}
use Rattle.hgs_transaction.proofs.puts.extend.Goals as goal

pub loop-op-preserved : goal.loop-op-preserved
loop-op-preserved c =
    let at = c.loop-op in
    let steps : into_iter_items at.op-iterator ≡ c.in-Some.op ∷ into_iter_items c.next.new.self = c.in-Some.ensures.steps.0 in record {
      left = moved at.ops.items c.push.new.self.items (into_iter_items c.next.new.self) (into_iter_items at.op-iterator) _ c.in-Some.op steps c.in_ok-push.ensures.items at.invariant.left;
      count =
          let was = at.invariant.count in
          let gone = c.in-Some.ensures.steps.1 in
          let short = ap (λ l. length l) steps in
          omega arith;
    }

pub returns : goal.returns
returns c =
    let at = c.loop-op in
    let none = c.in-None.ensures.steps in
    ended c.args.ops.now.items at.ops.items (into_iter_items at.op-iterator) _ c.args.more.items (nothing-left _ (sym at.invariant.count ∙ none.0)) at.invariant.left c.into_iter-op-iterator.ensures.into_iter_gives.0
