use Rattle.hgs_top.proofs.EndedLemmas.{says_fault, says_unfinished, says_no_input, says_status}
use Rattle.hgs_top.proofs.ReadLemmas.{read_said}
use Rattle.hgs_top.specs.Orders.{ended_status}
use Rattle.hgs_top.specs.Words.{job_of}
use Rattle.hgs_top.proofs.told.run_order.Goals as goal

pub returns-clause-does : goal.returns-clause-does
returns-clause-does g c = (c.do_order-ended.result, c.do_order-ended.ensures.comes, c.do_order-ended.ensures.left, c.say_in.ensures.line)

pub returns-clause-whole : goal.returns-clause-whole
returns-clause-whole g c = read_said (job_of c.args.order) c.say_in.result (ended_status c.do_order-ended.result) (g.S.Source.left c.do_order-ended.new.input) c.say_in.ensures.statuses c.do_order-ended.ensures.whole

pub returns-clause-statuses : goal.returns-clause-statuses
returns-clause-statuses g c = says_status c.say_in.result c.do_order-ended.result c.say_in.ensures.statuses

pub returns-clause-fault : goal.returns-clause-fault
returns-clause-fault g c =
    says_fault c.say_in.result c.do_order-ended.result c.say_in.ensures.statuses (g.F.Reads.faults c.args.files.now) (g.F.Reads.faults c.do_order-ended.new.files) (g.F.Reads.denied c.args.files.now) (g.F.Reads.denied c.do_order-ended.new.files)
    (g.S.Source.faults c.args.input.now) (g.S.Source.faults c.do_order-ended.new.input) c.do_order-ended.ensures.cause

pub returns-clause-unfinished : goal.returns-clause-unfinished
returns-clause-unfinished g c =
    says_unfinished c.say_in.result c.do_order-ended.result c.say_in.ensures.statuses (g.F.Reads.faults c.args.files.now) (g.F.Reads.faults c.do_order-ended.new.files) (g.F.Reads.denied c.args.files.now)
    (g.F.Reads.denied c.do_order-ended.new.files) (g.S.Source.faults c.args.input.now) (g.S.Source.faults c.do_order-ended.new.input) c.do_order-ended.ensures.cause

pub returns-clause-failed : goal.returns-clause-failed
returns-clause-failed g c =
    says_no_input c.say_in.result c.do_order-ended.result c.say_in.ensures.statuses (g.F.Reads.faults c.args.files.now) (g.F.Reads.faults c.do_order-ended.new.files) (g.F.Reads.denied c.args.files.now)
    (g.F.Reads.denied c.do_order-ended.new.files) (g.S.Source.faults c.args.input.now) (g.S.Source.faults c.do_order-ended.new.input) c.do_order-ended.ensures.cause
