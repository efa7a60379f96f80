use Rattle.std.proofs.Common.{◌∙◌, sym, ap, length, refl, map}
use Rattle.hgs_phases.specs.Theorems.PhaseLemmas.{history-length}
use Rattle.hgs_model.specs.Phase.{phase_number}
use Rattle.hgs_load.specs.View.{View}
use Rattle.hgs_members.specs.Story.{story_of}
use Rattle.hgs_members.proofs.EvalLemmas.{phase_put}
use Rattle.hgs_members.proofs.eval.put_phase.Goals as goal

pub returns : goal.returns
returns c =
    let view = c.args.session.now in
    let phases = c.phases.result.now in
    let same = c.phases.ensures.value ∙ ap (λ (v : View). v.phases) c.loaded.ensures in
    let counted = c.phases.ensures.all ∙ ap (λ (v : View). length v.changelog.entries) c.loaded.ensures ∙ sym (history-length view.changelog.entries) in
    (refl, phase_put (story_of view) phases c.args.phase c.in_ok-members.members c.args.stack.now.items c.push.new.self.items (ap (map phase_number) (sym same)) counted c.in_ok-members.ensures c.in_ok-push.ensures.items)
