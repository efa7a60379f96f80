use Rattle.hgs_machine.specs.Asked.{asked}
use Rattle.hgs_machine.specs.declared.machine.Reply.TheVariants.{Done}
use Rattle.hgs_mem.specs.Steady.{steady_log, steady_start, steady_tree}
use Rattle.hgs_world.proofs.PartLemmas.{rest_leaves}
use Rattle.hgs_world.proofs.WorkLemmas.{does_rest, goes_on, is_doing, source_of, still, tree_after}
use Rattle.hgs_world.proofs.working.Working.finish_next.Goals as goal

pub do_rest-requires : goal.do_rest-requires
do_rest-requires c = source_of (steady_tree c.args.files.now) c.args.self.now c.in-Do.op.now c.sources_stand.ensures (is_doing (asked c.args.self.now.machine) _ c.in-Do.op c.in-Do.ensures.question) c.requires.at_work

pub returns-clause-does : goal.returns-clause-does
returns-clause-does c =
    let d = c.in_ok-do_rest-in-Do.ensures.done in
    (d.0, d.1, does_rest (asked c.args.self.now.machine) c.in-Do.op.now c.args.self.now d.0 c.feed.new.self (is_doing (asked c.args.self.now.machine) _ c.in-Do.op c.in-Do.ensures.question) d.2 c.feed.ensures.exact)

pub returns-clause-at_work : goal.returns-clause-at_work
returns-clause-at_work c =
    let d = c.in_ok-do_rest-in-Do.ensures.done in
    still (steady_tree c.args.files.now) (steady_tree c.do_rest.new.files) c.args.self.now (record c.args.self.now { machine = c.feed.new.self; part = 0 })
    (λ a. goes_on (steady_tree c.args.files.now) (steady_tree c.do_rest.new.files) c.args.self.now c.feed.new.self c.in-Do.op.now Done d.0 (is_doing (asked c.args.self.now.machine) _ c.in-Do.op c.in-Do.ensures.question) a
    (λ begun has. rest_leaves c.in-Do.op.now c.args.self.now.part begun d.0 has d.2) c.feed.ensures.steps (tree_after (steady_log c.args.files.now) (steady_log c.do_rest.new.files) d.0 (steady_start c.args.files.now) (steady_start c.do_rest.new.files) d.1 c.do_rest.ensures.same_start))
    c.requires.at_work
