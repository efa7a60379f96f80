use Rattle.std.proofs.Common.{◌∙◌, refl}
use Rattle.hgs_machine.specs.Carry.{tree_now}
use Rattle.hgs_machine.specs.Fed.{new_machine}
use Rattle.hgs_machine.proofs.Allowed.{may-ask}
use Rattle.hgs_machine.proofs.Behind.{left-behind}
use Rattle.hgs_machine.proofs.Counting.{carried-refused}
use Rattle.hgs_machine.proofs.Carrying.{ends-carried, goes-on-step, is-under-way}
use Rattle.hgs_machine.proofs.Running.{begins, runs-on, runs-out}
use Rattle.hgs_machine.proofs.carry.carry_out.Goals as goal

pub step-requires-clause-under_way : goal.step-requires-clause-under_way
step-requires-clause-under_way g c = λ log told.
    is-under-way (g.F.Files.log c.args.files.now) (g.F.Files.log c.loop.files) (g.F.Reads.start c.args.files.now) (g.F.Reads.start c.loop.files) c.loop.machine log c.loop.invariant.same_start told c.loop.invariant.log

pub step-requires-clause-allowed : goal.step-requires-clause-allowed
step-requires-clause-allowed g c =
    let i = c.loop.invariant in
    may-ask g.F.Files.allows (g.F.Files.log c.args.files.now) (g.F.Files.log c.loop.files) (g.F.Reads.start c.args.files.now) (g.F.Reads.start c.loop.files) c.loop.machine c.args.plan i.plan i.same_start c.requires.allowed i.log

pub loop-init : goal.loop-init
loop-init g c =
    let old = c.args.files.now in
    let new = c.new-machine.ensures in
    let b = begins (g.F.Files.log old) (g.F.Reads.start old) c.args.plan c.new-machine.result (g.F.Reads.faults old) (g.F.Reads.denied old) new.begins c.requires.planned new.exact in
    record { log = b.0; same_start = refl; plan = new.plan; causes = b.1; ran = b.2; calls = b.3 }

pub loop-preserved : goal.loop-preserved
loop-preserved g c =
    let i = c.loop.invariant in
    record {
      log = goes-on-step (g.F.Files.log c.args.files.now) (g.F.Files.log c.loop.files) (g.F.Files.log c.step.new.files) (g.F.Reads.start c.args.files.now) (g.F.Reads.start c.loop.files) c.loop.machine c.step.new.machine i.same_start i.log c.step.ensures.log;
      same_start = c.step.ensures.same_start ∙ i.same_start;
      plan = c.step.ensures.plan ∙ i.plan;
      causes = c.step.ensures.causes (g.F.Reads.faults c.args.files.now) (g.F.Reads.denied c.args.files.now) i.causes;
      ran =
          runs-on (g.F.Files.log c.args.files.now) (g.F.Files.log c.loop.files) (g.F.Files.log c.step.new.files) (g.F.Reads.start c.args.files.now) (g.F.Reads.start c.loop.files) (new_machine c.args.plan) c.loop.machine c.step.new.machine
          (g.F.Reads.faults c.args.files.now) (g.F.Reads.faults c.loop.files) (g.F.Reads.faults c.step.new.files) (g.F.Reads.denied c.args.files.now) (g.F.Reads.denied c.loop.files) (g.F.Reads.denied c.step.new.files) i.same_start i.ran c.step.ensures.ran;
      calls = c.step.ensures.calls (g.F.Reads.faults c.args.files.now) (g.F.Reads.denied c.args.files.now) i.calls;
    }

pub returns-clause-log : goal.returns-clause-log
returns-clause-log g c =
    let i = c.loop.invariant in
    ends-carried (g.F.Files.log c.args.files.now) (g.F.Files.log c.step.new.files) (tree_now (g.F.Files.log c.args.files.now) (g.F.Reads.start c.args.files.now)) c.step.new.machine c.args.plan c.ended.result
    (c.step.ensures.plan ∙ i.plan) c.ended.ensures (c.step.ensures.ended c.loop-test.false)
    (goes-on-step (g.F.Files.log c.args.files.now) (g.F.Files.log c.loop.files) (g.F.Files.log c.step.new.files) (g.F.Reads.start c.args.files.now) (g.F.Reads.start c.loop.files) c.loop.machine c.step.new.machine i.same_start i.log c.step.ensures.log)

pub returns-clause-calls : goal.returns-clause-calls
returns-clause-calls g c =
    let before = c.args.files.now in
    let after = c.step.new.files in
    carried-refused (g.F.Reads.faults before) (g.F.Reads.faults after) (g.F.Reads.denied before) (g.F.Reads.denied after) c.step.new.machine c.ended.result c.ended.ensures
    (c.step.ensures.calls (g.F.Reads.faults before) (g.F.Reads.denied before) c.loop.invariant.calls)

pub returns-clause-ran : goal.returns-clause-ran
returns-clause-ran g c =
    let i = c.loop.invariant in
    let old = c.args.files.now in
    let new = c.step.new.files in
    runs-out (g.F.Files.log old) (g.F.Files.log new) (tree_now (g.F.Files.log old) (g.F.Reads.start old)) c.args.plan c.step.new.machine c.ended.result (g.F.Reads.faults old) (g.F.Reads.faults new) (g.F.Reads.denied old) (g.F.Reads.denied new)
    c.ended.ensures (c.step.ensures.ended c.loop-test.false)
    (runs-on (g.F.Files.log c.args.files.now) (g.F.Files.log c.loop.files) (g.F.Files.log c.step.new.files) (g.F.Reads.start c.args.files.now) (g.F.Reads.start c.loop.files) (new_machine c.args.plan) c.loop.machine c.step.new.machine
    (g.F.Reads.faults c.args.files.now) (g.F.Reads.faults c.loop.files) (g.F.Reads.faults c.step.new.files) (g.F.Reads.denied c.args.files.now) (g.F.Reads.denied c.loop.files) (g.F.Reads.denied c.step.new.files) i.same_start i.ran c.step.ensures.ran)

pub returns-clause-left : goal.returns-clause-left
returns-clause-left g c =
    let old = c.args.files.now in
    let new = c.step.new.files in
    left-behind (g.F.Files.log old) (g.F.Files.log new) (g.F.Reads.start old) c.args.plan c.ended.result (g.F.Reads.faults old) (g.F.Reads.faults new) (g.F.Reads.denied old) (g.F.Reads.denied new) c.requires.planned (returns-clause-ran g c)
