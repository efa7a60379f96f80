use Rattle.std.proofs.Common.{arith}
use Rattle.std.proofs.lemmas.Option.{slice_get_within}
use Rattle.hgs_machine.specs.declared.machine.Reply.TheVariants.{SizeFailed}
use Rattle.hgs_machine.specs.declared.machine.Stage.TheVariants.{Asking, Sweeping}
use Rattle.hgs_machine.proofs.Feeding.{passes-over}
use Rattle.hgs_machine.proofs.Publishing.{unsized}
use Rattle.hgs_machine.proofs.Replied.{fewer-at, fits-at, is-gone, is-here}
use Rattle.hgs_machine.proofs.Sized.{is-sweeping, of-no-size, passed-blames, size-does-nothing}
use Rattle.hgs_machine.proofs.machine.Machine.feed_no_size.Goals as goal

pub returns-in-Asking-clause-steps : goal.returns-in-Asking-clause-steps
returns-in-Asking-clause-steps c = λ reply i t log more h r. unsized t c.args.self.now c.sweep.new.self reply log more c.in-Asking.is c.sweep.ensures h i r

pub returns-in-Asking-clause-fewer : goal.returns-in-Asking-clause-fewer
returns-in-Asking-clause-fewer c =
    let at = fits-at c.args.self.now Asking SizeFailed c.in-Asking.is c.requires in
    let within = slice_get_within c.args.self.now.plan.ops.items c.args.self.now.done at.0 at.1 in
    fewer-at c.args.self.now c.sweep.new.self _ Asking c.in-Asking.is c.sweep.ensures (omega arith)

pub returns-in_default-clause-steps : goal.returns-in_default-clause-steps
returns-in_default-clause-steps c = λ reply i t log more h r.
    let e = is-sweeping c.args.self.now SizeFailed tt c.requires c.in_default.not-Asking in
    let at = fits-at c.args.self.now Sweeping SizeFailed e c.requires in
    passes-over t c.args.self.now c.pass.new.self at.0 log more h.planned (is-here t c.args.self.now Sweeping log e h) (is-gone t c.args.self.now Sweeping log e h) at.1 (size-does-nothing _ c.args.self.now reply more (of-no-size reply i) r) c.pass.ensures

pub returns-in_default-clause-fewer : goal.returns-in_default-clause-fewer
returns-in_default-clause-fewer c =
    let e = is-sweeping c.args.self.now SizeFailed tt c.requires c.in_default.not-Asking in
    let at = fits-at c.args.self.now Sweeping SizeFailed e c.requires in
    let within = slice_get_within c.args.self.now.plan.ops.items c.args.self.now.place at.0 at.1 in
    fewer-at c.args.self.now c.pass.new.self _ Sweeping e c.pass.ensures (omega arith)

pub returns-in_default-clause-blames : goal.returns-in_default-clause-blames
returns-in_default-clause-blames c = λ reply i. passed-blames c.args.self.now c.pass.new.self _ reply i c.pass.ensures
