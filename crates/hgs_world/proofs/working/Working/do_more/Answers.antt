use Rattle.std.proofs.Common.{◌+◌, sym, ◌∙◌, ◌≡◌, [], Some, true, false}
use Rattle.hgs_files.specs.Files.{GoesOn}
use Rattle.hgs_machine.specs.Asked.{asked}
use Rattle.hgs_mem.specs.Steady.{steady_log, steady_start, steady_tree}
use Rattle.hgs_world.specs.Working.{Does, OfOperation}
use Rattle.hgs_world.specs.declared.working.Deed.TheVariants.{All, Part}
use Rattle.hgs_world.proofs.PartLemmas.{part_further}
use Rattle.hgs_world.proofs.WorkLemmas.{goes_by, goes_further, is_doing, less_than, on_ok, rest_for_part, still, tree_after}
use Rattle.hgs_world.proofs.working.Working.do_more.Goals as goal

pub returns-then-not-has_part-clause-does : goal.returns-then-not-has_part-clause-does
returns-then-not-has_part-clause-does c =
    let w = c.args.self.now in
    let a = c.finish_next.new.self in
    let P = λ (done : Rattle.std.proofs.Common.List Rattle.hgs_files.specs.declared.op.Op.Op). OfOperation (asked w.machine) (λ op. Does All op w done a) ((done ≡ []) × (a ≡ w)) in
    let Q = λ (done : Rattle.std.proofs.Common.List Rattle.hgs_files.specs.declared.op.Op.Op). OfOperation (asked w.machine) (λ op. Does (Part c.args.count) op w done a) ((done ≡ []) × (a ≡ w)) in
    let X : Type 0 = GoesOn (Some (steady_log c.args.files.now)) (Some (steady_log c.finish_next.new.files)) P in
    let Y : Type 0 = GoesOn (Some (steady_log c.args.files.now)) (Some (steady_log c.finish_next.new.files)) Q in
    on_ok c.finish_next.result X Y
    (goes_by (Some (steady_log c.args.files.now)) (Some (steady_log c.finish_next.new.files)) P Q (λ done h. rest_for_part (asked w.machine) w a c.args.count done (sym c.has_part.ensures.part ∙ c.if-not-has_part.true) h))
    c.finish_next.ensures.does

pub returns-clause-at_work : goal.returns-clause-at_work
returns-clause-at_work c =
    let d = c.in_ok-do_part-in-Do.ensures.done in
    still (steady_tree c.args.files.now) (steady_tree c.do_part.new.files) c.args.self.now (record c.args.self.now { part = c.args.self.now.part + c.args.count })
    (λ a. goes_further (steady_tree c.args.files.now) (steady_tree c.do_part.new.files) c.args.self.now (c.args.self.now.part + c.args.count) c.in-Do.op.now d.0 (is_doing (asked c.args.self.now.machine) _ c.in-Do.op c.in-Do.ensures.question) a
    (λ begun has. part_further c.in-Do.op.now c.args.self.now.part c.args.count begun d.0 c.requires.some (less_than (asked c.args.self.now.machine) c.in-Do.op.now c.args.self.now.part c.args.count (is_doing (asked c.args.self.now.machine) _ c.in-Do.op c.in-Do.ensures.question) (sym c.has_part.ensures.part ∙ c.if-not-has_part.false)) has d.2)
    (tree_after (steady_log c.args.files.now) (steady_log c.do_part.new.files) d.0 (steady_start c.args.files.now) (steady_start c.do_part.new.files) d.1 c.do_part.ensures.same_start))
    c.requires.at_work
