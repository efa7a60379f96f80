use Rattle.std.proofs.Common.{refl, sym, subst}
use Rattle.hgs_machine.specs.Refusals.{WereRefused}
use Rattle.hgs_model.specs.declared.command.Command.TheVariants as commands
use Rattle.hgs_top.specs.Orders.{ComesTo}
use Rattle.hgs_top.specs.Words.{do_mark, do_move, do_unmark, job_of}
use Rattle.hgs_top.specs.declared.ended.Ended.TheVariants.{Recovered}
use Rattle.hgs_top.specs.declared.orders.Order.{Order}
use Rattle.hgs_top.proofs.LeftLemmas.{left_none, recovered_refused}
use Rattle.hgs_top.proofs.obey.do_order.Goals as goal

pub returns-in-Init-clause-comes : goal.returns-in-Init-clause-comes
returns-in-Init-clause-comes g c =
    let left = g.S.Source.left c.args.input.now in
    let P : Order → Type 0 = λ o. ComesTo (job_of o) left (g.F.Files.log c.args.files.now) (g.F.Files.log c.init.new.files) (g.F.Reads.start c.args.files.now) c.init.result in
    subst P (sym c.in-Init.is) (c.init.ensures.comes left)

pub returns-in-Init-clause-cause : goal.returns-in-Init-clause-cause
returns-in-Init-clause-cause g c =
    let faults = g.S.Source.faults c.args.input.now in
    c.init.ensures.cause (g.F.Reads.denied c.args.files.now) (g.F.Reads.denied c.init.new.files) faults faults

pub returns-in-Init-clause-left : goal.returns-in-Init-clause-left
returns-in-Init-clause-left g c =
    left_none (λ n. WereRefused n (g.F.Reads.faults c.args.files.now) (g.F.Reads.faults c.init.new.files) (g.F.Reads.denied c.args.files.now) (g.F.Reads.denied c.init.new.files)) (g.F.Files.log c.args.files.now) (g.F.Files.log c.init.new.files) (g.F.Reads.start c.args.files.now) c.init.result c.init.ensures.left

pub returns-in-Move-clause-comes : goal.returns-in-Move-clause-comes
returns-in-Move-clause-comes g c =
    let left = g.S.Source.left c.args.input.now in
    let P : Order → Type 0 = λ o. ComesTo (job_of o) left (g.F.Files.log c.args.files.now) (g.F.Files.log c.obey_named.new.files) (g.F.Reads.start c.args.files.now) c.obey_named.result in
    subst P (sym c.in-Move.is) (c.obey_named.ensures.comes (do_move c.in-Move.rev.now c.in-Move.phase c.in-Move.force) (λ some. (commands.Move c.in-Move.rev.now c.in-Move.phase c.in-Move.force, refl)) c.move_of.ensures.command left)

pub returns-in-Move-clause-cause : goal.returns-in-Move-clause-cause
returns-in-Move-clause-cause g c = let faults = g.S.Source.faults c.args.input.now in c.obey_named.ensures.cause faults faults

pub returns-in-Mark-clause-comes : goal.returns-in-Mark-clause-comes
returns-in-Mark-clause-comes g c =
    let left = g.S.Source.left c.args.input.now in
    let P : Order → Type 0 = λ o. ComesTo (job_of o) left (g.F.Files.log c.args.files.now) (g.F.Files.log c.obey_named-in-Mark.new.files) (g.F.Reads.start c.args.files.now) c.obey_named-in-Mark.result in
    subst P (sym c.in-Mark.is) (c.obey_named-in-Mark.ensures.comes (do_mark c.in-Mark.name.now c.in-Mark.rev.now) (λ some. (commands.Mark c.in-Mark.name.now c.in-Mark.rev.now, refl)) c.mark_of.ensures.command left)

pub returns-in-Mark-clause-cause : goal.returns-in-Mark-clause-cause
returns-in-Mark-clause-cause g c = let faults = g.S.Source.faults c.args.input.now in c.obey_named-in-Mark.ensures.cause faults faults

pub returns-in-Unmark-clause-comes : goal.returns-in-Unmark-clause-comes
returns-in-Unmark-clause-comes g c =
    let left = g.S.Source.left c.args.input.now in
    let P : Order → Type 0 = λ o. ComesTo (job_of o) left (g.F.Files.log c.args.files.now) (g.F.Files.log c.obey_named-in-Unmark.new.files) (g.F.Reads.start c.args.files.now) c.obey_named-in-Unmark.result in
    subst P (sym c.in-Unmark.is) (c.obey_named-in-Unmark.ensures.comes (do_unmark c.in-Unmark.name.now) (λ some. (commands.Unmark c.in-Unmark.name.now, refl)) c.unmark_of.ensures.command left)

pub returns-in-Unmark-clause-cause : goal.returns-in-Unmark-clause-cause
returns-in-Unmark-clause-cause g c = let faults = g.S.Source.faults c.args.input.now in c.obey_named-in-Unmark.ensures.cause faults faults

pub returns-in-Recover-clause-comes : goal.returns-in-Recover-clause-comes
returns-in-Recover-clause-comes g c =
    let left = g.S.Source.left c.args.input.now in
    let P : Order → Type 0 = λ o. ComesTo (job_of o) left (g.F.Files.log c.args.files.now) (g.F.Files.log c.recover.new.files) (g.F.Reads.start c.args.files.now) (Recovered c.recover.result) in
    subst P (sym c.in-Recover.is) (refl, c.recover.ensures.answer, c.recover.ensures.log)

pub returns-in-Recover-clause-cause : goal.returns-in-Recover-clause-cause
returns-in-Recover-clause-cause g c = record { fault = c.recover.ensures.fault; unfinished = c.recover.ensures.unfinished }

pub returns-in-Recover-clause-left : goal.returns-in-Recover-clause-left
returns-in-Recover-clause-left g c = (
  recovered_refused (g.F.Reads.faults c.args.files.now) (g.F.Reads.faults c.recover.new.files) (g.F.Reads.denied c.args.files.now) (g.F.Reads.denied c.recover.new.files) c.recover.result.outcome c.recover.result.swept
      c.recover.ensures.counts.faults c.recover.ensures.counts.denied c.recover.ensures.fault c.recover.ensures.unfinished c.recover.ensures.swept,
  c.recover.ensures.left,
)
