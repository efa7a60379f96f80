use Rattle.hgs_machine.specs.Asked.{asked}
use Rattle.hgs_mem.specs.Steady.{steady_log, steady_start, steady_tree}
use Rattle.hgs_world.proofs.WorkLemmas.{is_sizing, same_tree, sized}
use Rattle.hgs_world.proofs.working.answer_size.Goals as goal

pub returns-in-Ok-clause-so_far : goal.returns-in-Ok-clause-so_far
returns-in-Ok-clause-so_far c =
    sized (steady_tree c.args.files.now) (steady_tree c.size-size.new.self) c.args.machine.now c.feed.new.self c.in-Size.path.now c.in-Ok.size
    (is_sizing (asked c.args.machine.now) _ c.in-Size.path c.in-Size.ensures.question)
    (same_tree (steady_log c.args.files.now) (steady_log c.size-size.new.self) (steady_start c.args.files.now) (steady_start c.size-size.new.self) c.size-size.ensures.still c.size-size.ensures.same_start)
    c.in-Ok.ensures.answer c.feed.ensures.steps
