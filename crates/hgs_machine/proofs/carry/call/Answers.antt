use Rattle.std.proofs.Common.{sym, ◌∙◌}
use Rattle.hgs_machine.specs.Asked.{asked}
use Rattle.hgs_machine.specs.Carry.{tree_now}
use Rattle.hgs_machine.proofs.Allowed.{may-do}
use Rattle.hgs_machine.proofs.Carrying.{asked-do, asked-size, fits-reply, op-replied, size-replied, source-stands}
use Rattle.hgs_machine.proofs.carry.call.Goals as goal

pub do_op-requires-clause-allowed : goal.do_op-requires-clause-allowed
do_op-requires-clause-allowed g c =
    may-do (g.F.Files.log c.args.files.now) (g.F.Files.allows (g.F.Reads.start c.args.files.now)) (asked c.args.machine.now) c.in-Do.op.now (asked-do (asked c.args.machine.now) _ c.in-Do.op c.in-Do.ensures.question) c.requires.allowed

pub do_op-requires-clause-source : goal.do_op-requires-clause-source
do_op-requires-clause-source g c = λ log told. source-stands _ c.args.machine.now c.in-Do.op.now (asked-do (asked c.args.machine.now) _ c.in-Do.op c.in-Do.ensures.question) (c.requires.under_way log told)

pub returns-in-Do-clause-fits : goal.returns-in-Do-clause-fits
returns-in-Do-clause-fits g c =
    fits-reply (asked c.args.machine.now) c.in-Do.op.now c.do_op.result c.reply_of.result (asked-do (asked c.args.machine.now) _ c.in-Do.op c.in-Do.ensures.question) c.reply_of.ensures

pub returns-in-Do-clause-log : goal.returns-in-Do-clause-log
returns-in-Do-clause-log g c =
    op-replied (g.F.Files.log c.args.files.now) (g.F.Files.log c.do_op.new.files) (tree_now (g.F.Files.log c.args.files.now) (g.F.Reads.start c.args.files.now)) (asked c.args.machine.now) c.in-Do.op.now c.do_op.result c.reply_of.result
    (asked-do (asked c.args.machine.now) _ c.in-Do.op c.in-Do.ensures.question) c.reply_of.ensures c.do_op.ensures.done

pub returns-in-Size-clause-log : goal.returns-in-Size-clause-log
returns-in-Size-clause-log g c =
    let old = c.args.files.now in
    let new = c.size.new.self in
    let latest = g.met.F.Files.latest in
    let seen = c.size.ensures.still g.met.F.Files.only_writer ∙ latest old in
    size-replied (g.F.Files.log old) (g.F.Files.log new) (g.F.Reads.seen new) (g.F.Reads.start old) (g.F.Reads.start new) (asked c.args.machine.now) c.in-Size.path.now c.size.result c.size_reply_of.result
    (asked-size (asked c.args.machine.now) _ c.in-Size.path c.in-Size.ensures.question) c.size_reply_of.ensures (sym (latest new) ∙ seen) seen c.size.ensures.same_start c.size.ensures.answer
