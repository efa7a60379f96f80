use Rattle.std.proofs.Common.{refl, sym, ◌∙◌, ap}
use Rattle.hgs_world.specs.Questions.{of_last, phase_text}
use Rattle.hgs_world.specs.World.{scene_of}
use Rattle.hgs_world.proofs.SceneLemmas.{answers_still, if_ok}
use Rattle.hgs_world.proofs.state.World.phase.Goals as goal

pub returns-in-Some : goal.returns-in-Some
returns-in-Some c =
    let w = c.args.self.now in
    if_ok c.phase_text.result (λ text line. answers_still c.args.reader (λ view. phase_text view c.args.name.now) (scene_of w) w.readers.items c.index.result.now text.items refl c.requires c.index.ensures (line ∙ sym (ap (λ o. of_last o (λ view. phase_text view c.args.name.now)) c.in-Some.is))) c.phase_text.ensures

pub returns-in-None : goal.returns-in-None
returns-in-None c =
    let w = c.args.self.now in
    if_ok c.word_line.result (λ text line. answers_still c.args.reader (λ view. phase_text view c.args.name.now) (scene_of w) w.readers.items c.index.result.now text.items refl c.requires c.index.ensures (line ∙ sym (ap (λ o. of_last o (λ view. phase_text view c.args.name.now)) c.in-None.is))) c.word_line.ensures
