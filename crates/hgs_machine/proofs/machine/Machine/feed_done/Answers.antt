use Rattle.std.proofs.Common.{◌+◌, ◌∙◌, ap, arith, refl}
use Rattle.std.proofs.lemmas.Option.{slice_get_within}
use Rattle.hgs_machine.specs.declared.machine.Reply.TheVariants.{Done}
use Rattle.hgs_machine.specs.declared.machine.Stage.TheVariants.{Preparing, Beginning, Working, Publishing, Asking, Finishing, Undoing, Sweeping, Removing}
use Rattle.hgs_machine.proofs.Feeding.{asking-not, before-or-at, begins, finishes, passes-done, prepares, publishes, undoes-on, works}
use Rattle.hgs_machine.proofs.Replied.{at-stage, either, fewer-at, fewer-doing, fewer-undone, left-preparing, left-working, fits-at, is-gone, is-here}
use Rattle.hgs_machine.proofs.machine.Machine.feed_done.Goals as goal

pub returns-in-Preparing-clause-steps : goal.returns-in-Preparing-clause-steps
returns-in-Preparing-clause-steps c = λ t log more h r.
    prepares t c.args.self.now c.advance.new.self c.after_preparing-stage.result log more c.in-Preparing.is c.after_preparing-stage.ensures c.advance.ensures h (at-stage _ c.args.self.now Preparing Done more c.in-Preparing.is tt r)

pub returns-in-Preparing-clause-fewer : goal.returns-in-Preparing-clause-fewer
returns-in-Preparing-clause-fewer c =
    let at = fits-at c.args.self.now Preparing Done c.in-Preparing.is c.requires in
    fewer-doing c.args.self.now c.advance.new.self Preparing _ c.in-Preparing.is (c.advance.ensures ∙ ap (λ s. record c.args.self.now { stage = s; done = c.args.self.now.done + 1 }) c.after_preparing-stage.ensures) (left-preparing c.args.self.now _ (c.args.self.now.done + 1)) refl (slice_get_within c.args.self.now.plan.ops.items c.args.self.now.done at.0 at.1)

pub returns-in-Beginning-clause-steps : goal.returns-in-Beginning-clause-steps
returns-in-Beginning-clause-steps c = λ t log more h r.
    either c.in-Beginning.is (λ e. begins t c.args.self.now c.advance-in-Beginning.new.self c.after_working-stage.result log more e c.after_working-stage.ensures c.advance-in-Beginning.ensures h (at-stage _ c.args.self.now Beginning Done more e tt r)) (λ e. works t c.args.self.now c.advance-in-Beginning.new.self c.after_working-stage.result log more e c.after_working-stage.ensures c.advance-in-Beginning.ensures h (at-stage _ c.args.self.now Working Done more e tt r))

pub returns-in-Beginning-clause-fewer : goal.returns-in-Beginning-clause-fewer
returns-in-Beginning-clause-fewer c =
    let n = c.advance-in-Beginning.ensures ∙ ap (λ s. record c.args.self.now { stage = s; done = c.args.self.now.done + 1 }) c.after_working-stage.ensures in
    either c.in-Beginning.is
    (λ e. let at = fits-at c.args.self.now Beginning Done e c.requires in fewer-doing c.args.self.now c.advance-in-Beginning.new.self Beginning _ e n (left-working c.args.self.now _ (c.args.self.now.done + 1)) refl (slice_get_within c.args.self.now.plan.ops.items c.args.self.now.done at.0 at.1))
    (λ e. let at = fits-at c.args.self.now Working Done e c.requires in fewer-doing c.args.self.now c.advance-in-Beginning.new.self Working _ e n (left-working c.args.self.now _ (c.args.self.now.done + 1)) refl (slice_get_within c.args.self.now.plan.ops.items c.args.self.now.done at.0 at.1))

pub returns-in-Publishing-clause-steps : goal.returns-in-Publishing-clause-steps
returns-in-Publishing-clause-steps c = λ t log more h r.
    either c.in-Publishing.is (λ e. publishes t c.args.self.now c.advance-in-Publishing.new.self log more e c.advance-in-Publishing.ensures h (at-stage _ c.args.self.now Publishing Done more e tt r)) (λ e. asking-not _ t c.args.self.now Done log more e h tt r)

pub returns-in-Publishing-clause-fewer : goal.returns-in-Publishing-clause-fewer
returns-in-Publishing-clause-fewer c = either c.in-Publishing.is (λ e. let at = fits-at c.args.self.now Publishing Done e c.requires in let within = slice_get_within c.args.self.now.plan.ops.items c.args.self.now.done at.0 at.1 in fewer-at c.args.self.now c.advance-in-Publishing.new.self _ Publishing e c.advance-in-Publishing.ensures (omega arith)) (λ e. let at = fits-at c.args.self.now Asking Done e c.requires in let within = slice_get_within c.args.self.now.plan.ops.items c.args.self.now.done at.0 at.1 in fewer-at c.args.self.now c.advance-in-Publishing.new.self _ Asking e c.advance-in-Publishing.ensures (omega arith))

pub returns-in-Finishing-clause-steps : goal.returns-in-Finishing-clause-steps
returns-in-Finishing-clause-steps c = λ t log more h r.
    finishes t c.args.self.now c.finished.new.self log more c.in-Finishing.is c.finished.ensures.more c.finished.ensures.last h (at-stage _ c.args.self.now Finishing Done more c.in-Finishing.is tt r)

pub returns-in-Finishing-clause-fewer : goal.returns-in-Finishing-clause-fewer
returns-in-Finishing-clause-fewer c = let at = fits-at c.args.self.now Finishing Done c.in-Finishing.is c.requires in let within = slice_get_within c.args.self.now.plan.ops.items c.args.self.now.done at.0 at.1 in either (before-or-at c.args.self.now.done c.args.self.now.plan.commit) (λ less. fewer-at c.args.self.now c.finished.new.self _ Finishing c.in-Finishing.is (c.finished.ensures.more less) (omega arith)) (λ most. fewer-at c.args.self.now c.finished.new.self _ Finishing c.in-Finishing.is (c.finished.ensures.last most) (omega arith))

pub returns-in-Undoing-clause-steps : goal.returns-in-Undoing-clause-steps
returns-in-Undoing-clause-steps c = λ t log more h r.
    undoes-on t c.args.self.now c.undone.new.self log more c.in-Undoing.is c.undone.ensures.more c.undone.ensures.last h (at-stage _ c.args.self.now Undoing Done more c.in-Undoing.is tt r)

pub returns-in-Undoing-clause-fewer : goal.returns-in-Undoing-clause-fewer
returns-in-Undoing-clause-fewer c =
    let at = fits-at c.args.self.now Undoing Done c.in-Undoing.is c.requires in
    fewer-undone c.args.self.now c.undone.new.self _ c.in-Undoing.is (slice_get_within c.args.self.now.plan.undo.items c.args.self.now.place at.0 at.1) c.undone.ensures.more c.undone.ensures.last (before-or-at (c.args.self.now.place + 1) _)

pub returns-in-Sweeping-clause-steps : goal.returns-in-Sweeping-clause-steps
returns-in-Sweeping-clause-steps c = λ t log more h r.
    either c.in-Sweeping.is (λ e. let at = at-stage _ c.args.self.now Sweeping Done more e tt r in passes-done t c.args.self.now c.pass.new.self at.op log more h.planned (is-here t c.args.self.now Sweeping log e h) (is-gone t c.args.self.now Sweeping log e h) at.there at.leaves c.pass.ensures) (λ e. let at = at-stage _ c.args.self.now Removing Done more e tt r in passes-done t c.args.self.now c.pass.new.self at.op log more h.planned (is-here t c.args.self.now Removing log e h) (is-gone t c.args.self.now Removing log e h) at.there at.leaves c.pass.ensures)

pub returns-in-Sweeping-clause-fewer : goal.returns-in-Sweeping-clause-fewer
returns-in-Sweeping-clause-fewer c = either c.in-Sweeping.is (λ e. let at = fits-at c.args.self.now Sweeping Done e c.requires in let within = slice_get_within c.args.self.now.plan.ops.items c.args.self.now.place at.0 at.1 in fewer-at c.args.self.now c.pass.new.self _ Sweeping e c.pass.ensures (omega arith)) (λ e. let at = fits-at c.args.self.now Removing Done e c.requires in let within = slice_get_within c.args.self.now.plan.ops.items c.args.self.now.place at.0 at.1 in fewer-at c.args.self.now c.pass.new.self _ Removing e c.pass.ensures (omega arith))
