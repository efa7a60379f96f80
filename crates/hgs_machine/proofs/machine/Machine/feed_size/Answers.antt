use Rattle.std.proofs.lemmas.Option.{slice_get_within}
use Rattle.hgs_machine.specs.declared.machine.Reply.TheVariants.{Size}
use Rattle.hgs_machine.specs.declared.machine.Stage.TheVariants.{Sweeping}
use Rattle.hgs_machine.proofs.Publishing.{sized}
use Rattle.hgs_machine.proofs.Replied.{fits-at}
use Rattle.hgs_machine.proofs.Sized.{is-sweeping, stray-blames, stray-fewer, stray-sized}
use Rattle.hgs_machine.proofs.machine.Machine.feed_size.Goals as goal

pub returns-in-Asking-clause-steps : goal.returns-in-Asking-clause-steps
returns-in-Asking-clause-steps c = λ t log more h r.
    sized t c.args.self.now c.published_size.new.self c.args.size log more c.in-Asking.is c.published_size.ensures.short c.published_size.ensures.whole h r

pub returns-in_default-clause-steps : goal.returns-in_default-clause-steps
returns-in_default-clause-steps c = λ t log more h r.
    let e = is-sweeping c.args.self.now (Size c.args.size) tt c.requires c.in_default.not-Asking in
    let at = fits-at c.args.self.now Sweeping (Size c.args.size) e c.requires in
    stray-sized t c.args.self.now c.stray_size.new.self c.args.size at.0 log more e at.1 c.stray_size.ensures.stands c.stray_size.ensures.absent h r

pub returns-in_default-clause-fewer : goal.returns-in_default-clause-fewer
returns-in_default-clause-fewer c =
    let e = is-sweeping c.args.self.now (Size c.args.size) tt c.requires c.in_default.not-Asking in
    let at = fits-at c.args.self.now Sweeping (Size c.args.size) e c.requires in
    stray-fewer c.args.self.now c.stray_size.new.self c.args.size e (slice_get_within c.args.self.now.plan.ops.items c.args.self.now.place at.0 at.1) c.stray_size.ensures.stands c.stray_size.ensures.absent

pub returns-in_default-clause-blames : goal.returns-in_default-clause-blames
returns-in_default-clause-blames c = stray-blames c.args.self.now c.stray_size.new.self c.args.size (Size c.args.size) c.stray_size.ensures.stands c.stray_size.ensures.absent
