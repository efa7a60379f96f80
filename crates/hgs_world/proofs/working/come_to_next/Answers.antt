use Rattle.std.proofs.Common.{Ok, refl, ap, ◌∙◌, arith}
use Rattle.hgs_mem.specs.Steady.{steady_log, steady_start, steady_tree}
use Rattle.hgs_world.specs.Working.{no_more}
use Rattle.hgs_world.proofs.WorkLemmas.{keeps_on, next_at, same_tree, sizes_on}
use Rattle.hgs_world.proofs.working.come_to_next.Goals as goal

pub sizes-init : goal.sizes-init
sizes-init c = record { sizes = no_more; so_far = λ from log is h. h; fewer = omega arith; log = refl; same_start = refl }

pub sizes-preserved : goal.sizes-preserved
sizes-preserved c =
    let i = c.sizes.invariant in
    let e = c.in-Ok-true.ensures in
    let t = steady_tree c.args.files.now in
    let u = steady_tree c.sizes.files in
    let is = same_tree (steady_log c.args.files.now) (steady_log c.sizes.files) (steady_start c.args.files.now) (steady_start c.sizes.files) i.log i.same_start in
    let less = e.fewer (ap (λ b. Ok b) c.in-Ok-true.field-0-test) in
    record {
      sizes = sizes_on t u c.args.machine.now c.sizes.machine c.answer_size.new.machine c.in-Ok-true.field-0 c.in-Ok-true.field-0-test is i.sizes e.answers;
      so_far = keeps_on t u c.args.machine.now c.sizes.machine c.answer_size.new.machine is i.so_far e.so_far;
      fewer = omega (arith, less, i.fewer);
      log = e.log ∙ i.log;
      same_start = e.same_start ∙ i.same_start;
    }

pub returns-in-Ok-false-clause-next : goal.returns-in-Ok-false-clause-next
returns-in-Ok-false-clause-next c =
    let i = c.sizes.invariant in
    next_at (steady_tree c.args.files.now) (steady_tree c.sizes.files) c.args.machine.now c.sizes.machine c.answer_size.new.machine c.in-Ok-false.field-0 c.in-Ok-false.field-0-test i.sizes c.in-Ok-false.ensures.answers

pub returns-in-Ok-false-clause-so_far : goal.returns-in-Ok-false-clause-so_far
returns-in-Ok-false-clause-so_far c =
    let i = c.sizes.invariant in
    let is = same_tree (steady_log c.args.files.now) (steady_log c.sizes.files) (steady_start c.args.files.now) (steady_start c.sizes.files) i.log i.same_start in
    keeps_on (steady_tree c.args.files.now) (steady_tree c.sizes.files) c.args.machine.now c.sizes.machine c.answer_size.new.machine is i.so_far c.in-Ok-false.ensures.so_far
