use Rattle.std.proofs.Common.{List, [], ◌∷◌, rules, subst}
use Rattle.hgs_files.specs.declared.op.Op.{Op}
use Rattle.hgs_files.specs.declared.op.Op.TheVariants.{Append}
use Rattle.hgs_files.specs.Log.{IsDone}
use Rattle.hgs_mem.proofs.PieceLemmas.{done-next, none-to-do, some-to-do, small-next}
use Rattle.hgs_mem.proofs.pieces.appends.Goals as goal

pub returns-then-is_empty-clause-done : goal.returns-then-is_empty-clause-done
returns-then-is_empty-clause-done c =
    let ops : List Op = Append c.args.path.now c.args.bytes.now ∷ [] in
    subst (λ (l : List Op). IsDone ops c.push.new.self.items l) (none-to-do c.args.path.now c.past-rest.result.now (search rules))
    (done-next _ _ c.loop-ops.rest.now c.args.most c.loop-ops.ops.items _ _ _ _ c.loop-ops.invariant.done c.in_ok-push.ensures.items c.in_ok-copy.ensures (search rules) c.past-rest.ensures)

pub returns-then-is_empty-clause-small : goal.returns-then-is_empty-clause-small
returns-then-is_empty-clause-small c = small-next c.args.most c.loop-ops.ops.items _ _ _ c.loop-ops.rest.now c.loop-ops.invariant.small c.in_ok-push.ensures.items (search rules)

pub loop-ops-preserved : goal.loop-ops-preserved
loop-ops-preserved c =
    let ops : List Op = Append c.args.path.now c.args.bytes.now ∷ [] in
    record {
      done = subst (λ (l : List Op). IsDone ops c.push.new.self.items l) (some-to-do c.args.path.now c.past-rest.result.now (search rules))
          (done-next _ _ c.loop-ops.rest.now c.args.most c.loop-ops.ops.items _ _ _ _ c.loop-ops.invariant.done c.in_ok-push.ensures.items c.in_ok-copy.ensures (search rules) c.past-rest.ensures);
      small = small-next c.args.most c.loop-ops.ops.items _ _ _ c.loop-ops.rest.now c.loop-ops.invariant.small c.in_ok-push.ensures.items (search rules);
    }
