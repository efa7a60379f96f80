use Rattle.hgs_machine.specs.Asked.{asked}
use Rattle.hgs_machine.specs.declared.machine.Reply.TheVariants.{Failed}
use Rattle.hgs_mem.specs.Steady.{steady_log, steady_start, steady_tree}
use Rattle.hgs_world.proofs.PartLemmas.{part_leaves}
use Rattle.hgs_world.proofs.WorkLemmas.{goes_on, is_doing, still, tree_after}
use Rattle.hgs_world.proofs.working.Working.fail_next.Goals as goal

pub returns-clause-at_work : goal.returns-clause-at_work
returns-clause-at_work c =
    let d = c.in_ok-do_part-in-Do.ensures.done in
    still (steady_tree c.args.files.now) (steady_tree c.do_part.new.files) c.args.self.now (record c.args.self.now { machine = c.feed.new.self; part = 0 })
    (λ a. goes_on (steady_tree c.args.files.now) (steady_tree c.do_part.new.files) c.args.self.now c.feed.new.self c.in-Do.op.now Failed d.0 (is_doing (asked c.args.self.now.machine) _ c.in-Do.op c.in-Do.ensures.question) a
    (λ begun has. part_leaves c.in-Do.op.now c.args.self.now.part c.args.count begun d.0 has d.2) c.feed.ensures.steps (tree_after (steady_log c.args.files.now) (steady_log c.do_part.new.files) d.0 (steady_start c.args.files.now) (steady_start c.do_part.new.files) d.1 c.do_part.ensures.same_start))
    c.requires.at_work
