use Rattle.std.proofs.Common.{◌++◌, arith}
use Rattle.std.proofs.lemmas.Option.{slice_get_within}
use Rattle.hgs_machine.specs.declared.ended.Short.TheVariants.{Memory as OutOfMemory}
use Rattle.hgs_machine.specs.declared.machine.Reply.TheVariants.{Memory}
use Rattle.hgs_machine.specs.declared.machine.Stage.TheVariants.{Preparing, Beginning, Working, Publishing, Asking, Finishing, Undoing, Sweeping, Removing}
use Rattle.hgs_machine.proofs.Feeding.{as-failed, asking-not, finishes-not, gives-up, gives-up-beginning, nothing-of-it, passes-over, publishes-none, sweeps, undoes-not, works-stopped}
use Rattle.hgs_machine.proofs.Pieces.{none-done}
use Rattle.hgs_machine.proofs.Replied.{at-stage, either, fewer-at, fits-at, is-gone, is-here}
use Rattle.hgs_machine.proofs.machine.Machine.feed_denied.Goals as goal

pub returns-in-Preparing-clause-steps : goal.returns-in-Preparing-clause-steps
returns-in-Preparing-clause-steps c = λ t log more h r.
    either c.in-Preparing.is (λ e. sweeps t c.args.self.now c.sweep.new.self OutOfMemory (log ++ more) c.sweep.ensures h.planned (gives-up t c.args.self.now Memory log more e h (λ op. nothing-of-it op more) (at-stage _ c.args.self.now Preparing Memory more e tt r))) (λ e. let at = at-stage _ c.args.self.now Beginning Memory more e tt r in sweeps t c.args.self.now c.sweep.new.self OutOfMemory (log ++ more) c.sweep.ensures h.planned (gives-up-beginning t c.args.self.now log more e h (none-done at.op more at.leaves)))

pub returns-in-Working-clause-steps : goal.returns-in-Working-clause-steps
returns-in-Working-clause-steps c = λ t log more h r.
    either c.in-Working.is (λ e. works-stopped t c.args.self.now c.undo.new.self OutOfMemory Memory log more e c.undo.ensures tt (λ op. nothing-of-it op more) h (at-stage _ c.args.self.now Working Memory more e tt r)) (λ k. either k (λ e. publishes-none t c.args.self.now c.undo.new.self log more e c.undo.ensures h (at-stage _ c.args.self.now Publishing Memory more e tt r)) (λ e. asking-not _ t c.args.self.now Memory log more e h tt r))

pub returns-in-Working-clause-fewer : goal.returns-in-Working-clause-fewer
returns-in-Working-clause-fewer c = either c.in-Working.is (λ e. let at = fits-at c.args.self.now Working Memory e c.requires in let within = slice_get_within c.args.self.now.plan.ops.items c.args.self.now.done at.0 at.1 in fewer-at c.args.self.now c.undo.new.self _ Working e c.undo.ensures (omega arith)) (λ k. either k (λ e. let at = fits-at c.args.self.now Publishing Memory e c.requires in let within = slice_get_within c.args.self.now.plan.ops.items c.args.self.now.done at.0 at.1 in fewer-at c.args.self.now c.undo.new.self _ Publishing e c.undo.ensures (omega arith)) (λ e. let at = fits-at c.args.self.now Asking Memory e c.requires in let within = slice_get_within c.args.self.now.plan.ops.items c.args.self.now.done at.0 at.1 in fewer-at c.args.self.now c.undo.new.self _ Asking e c.undo.ensures (omega arith)))

pub returns-in-Finishing-clause-steps : goal.returns-in-Finishing-clause-steps
returns-in-Finishing-clause-steps c = λ t log more h r.
    finishes-not t c.args.self.now c.sweep-in-Finishing.new.self log more c.in-Finishing.is c.sweep-in-Finishing.ensures h (as-failed c.args.self.now Finishing more (at-stage _ c.args.self.now Finishing Memory more c.in-Finishing.is tt r))

pub returns-in-Undoing-clause-steps : goal.returns-in-Undoing-clause-steps
returns-in-Undoing-clause-steps c = λ t log more h r.
    undoes-not t c.args.self.now c.sweep-in-Undoing.new.self log more c.in-Undoing.is c.sweep-in-Undoing.ensures h (as-failed c.args.self.now Undoing more (at-stage _ c.args.self.now Undoing Memory more c.in-Undoing.is tt r))

pub returns-in-Undoing-clause-fewer : goal.returns-in-Undoing-clause-fewer
returns-in-Undoing-clause-fewer c = let at = fits-at c.args.self.now Undoing Memory c.in-Undoing.is c.requires in let within = slice_get_within c.args.self.now.plan.undo.items c.args.self.now.place at.0 at.1 in fewer-at c.args.self.now c.sweep-in-Undoing.new.self _ Undoing c.in-Undoing.is c.sweep-in-Undoing.ensures (omega arith)

pub returns-in-Sweeping-clause-steps : goal.returns-in-Sweeping-clause-steps
returns-in-Sweeping-clause-steps c = λ t log more h r.
    either c.in-Sweeping.is (λ e. let at = at-stage _ c.args.self.now Sweeping Memory more e tt r in passes-over t c.args.self.now c.pass.new.self at.op log more h.planned (is-here t c.args.self.now Sweeping log e h) (is-gone t c.args.self.now Sweeping log e h) at.there (none-done at.op more at.leaves) c.pass.ensures) (λ e. let at = at-stage _ c.args.self.now Removing Memory more e tt r in passes-over t c.args.self.now c.pass.new.self at.op log more h.planned (is-here t c.args.self.now Removing log e h) (is-gone t c.args.self.now Removing log e h) at.there (none-done at.op more at.leaves) c.pass.ensures)

pub returns-in-Sweeping-clause-fewer : goal.returns-in-Sweeping-clause-fewer
returns-in-Sweeping-clause-fewer c = either c.in-Sweeping.is (λ e. let at = fits-at c.args.self.now Sweeping Memory e c.requires in let within = slice_get_within c.args.self.now.plan.ops.items c.args.self.now.place at.0 at.1 in fewer-at c.args.self.now c.pass.new.self _ Sweeping e c.pass.ensures (omega arith)) (λ e. let at = fits-at c.args.self.now Removing Memory e c.requires in let within = slice_get_within c.args.self.now.plan.ops.items c.args.self.now.place at.0 at.1 in fewer-at c.args.self.now c.pass.new.self _ Removing e c.pass.ensures (omega arith))
