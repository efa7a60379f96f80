use Rattle.hgs_mem.specs.Mem.{tree_of}
use Rattle.hgs_power_loss.proofs.LeftLemmas.{still-done}
use Rattle.hgs_power_loss.proofs.left.Left.apply.Goals as goal

pub invariant_of-self : goal.invariant_of-self
invariant_of-self c =
    let s = c.args.self.now in
    record { done = still-done c.args.op c.do_one.result (tree_of s.files) (tree_of c.do_one.new.map) (tree_of s.first.value) s.ops.items c.do_one.new.log.items c.do_one.ensures.ok c.do_one.ensures.tree c.do_one.ensures.err s.done }
