use Rattle.hgs_machine.specs.Carry.{tree_now}
use Rattle.hgs_machine.proofs.Counting.{fed-refused}
use Rattle.hgs_machine.proofs.Carrying.{steps-on}
use Rattle.hgs_machine.proofs.Running.{replies-on, rests}
use Rattle.hgs_machine.proofs.carry.step.Goals as goal

pub returns-in-Some-clause-log : goal.returns-in-Some-clause-log
returns-in-Some-clause-log g c =
    steps-on (g.F.Files.log c.args.files.now) (g.F.Files.log c.call.new.files) (tree_now (g.F.Files.log c.args.files.now) (g.F.Reads.start c.args.files.now)) c.args.machine.now c.feed.new.self c.in-Some.reply c.feed.ensures.steps c.in-Some.ensures.log

pub returns-in-Some-clause-calls : goal.returns-in-Some-clause-calls
returns-in-Some-clause-calls g c = λ faults denied before.
    let old = c.args.files.now in
    let new = c.call.new.files in
    fed-refused faults (g.F.Reads.faults old) (g.F.Reads.faults new) denied (g.F.Reads.denied old) (g.F.Reads.denied new) c.args.machine.now c.feed.new.self c.in-Some.reply c.feed.ensures.exact c.in-Some.ensures.counts before

pub returns-in-Some-clause-ran : goal.returns-in-Some-clause-ran
returns-in-Some-clause-ran g c =
    let old = c.args.files.now in
    let new = c.call.new.files in
    replies-on (g.F.Files.log old) (g.F.Files.log new) (tree_now (g.F.Files.log old) (g.F.Reads.start old)) c.args.machine.now c.feed.new.self c.in-Some.reply (g.F.Reads.faults old) (g.F.Reads.faults new) (g.F.Reads.denied old) (g.F.Reads.denied new)
    c.feed.ensures.exact c.in-Some.ensures.counts c.in-Some.ensures.log

pub returns-in-None-clause-ran : goal.returns-in-None-clause-ran
returns-in-None-clause-ran g c =
    let old = c.args.files.now in
    let new = c.call.new.files in
    rests (g.F.Files.log old) (g.F.Files.log new) (tree_now (g.F.Files.log old) (g.F.Reads.start old)) c.args.machine.now (g.F.Reads.faults old) (g.F.Reads.faults new) (g.F.Reads.denied old) (g.F.Reads.denied new) c.in-None.ensures.counts c.in-None.ensures.log
