use Rattle.hgs_mem.specs.Steady.{steady_log, steady_start, steady_tree}
use Rattle.hgs_world.proofs.WorkLemmas.{both_ok, come_on, same_tree}
use Rattle.hgs_world.proofs.working.Working.come.Goals as goal

pub returns-clause-at_work : goal.returns-clause-at_work
returns-clause-at_work c =
    both_ok c.come_to_next.result _ _ _
    (λ n k. come_on (steady_tree c.args.files.now) (steady_tree c.come_to_next.new.files) c.args.self.now c.come_to_next.new.machine
    (same_tree (steady_log c.args.files.now) (steady_log c.come_to_next.new.files) (steady_start c.args.files.now) (steady_start c.come_to_next.new.files) c.come_to_next.ensures.log c.come_to_next.ensures.same_start) c.requires.at_work n k)
    c.come_to_next.ensures.next c.come_to_next.ensures.so_far
