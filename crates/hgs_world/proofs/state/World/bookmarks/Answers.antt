use Rattle.std.proofs.Common.{refl, sym, ◌∙◌, ap}
use Rattle.hgs_reader.specs.Shown.{marks_text}
use Rattle.hgs_world.specs.Questions.{of_last}
use Rattle.hgs_world.specs.World.{scene_of}
use Rattle.hgs_world.proofs.SceneLemmas.{answers_still, if_ok}
use Rattle.hgs_world.proofs.state.World.bookmarks.Goals as goal

pub returns-in-Some : goal.returns-in-Some
returns-in-Some c =
    let w = c.args.self.now in
    if_ok c.bookmarks_text.result (λ text line. answers_still c.args.reader marks_text (scene_of w) w.readers.items c.index.result.now text.items refl c.requires c.index.ensures (line ∙ sym (ap (λ o. of_last o marks_text) c.in-Some.is))) c.bookmarks_text.ensures

pub returns-in-None : goal.returns-in-None
returns-in-None c =
    let w = c.args.self.now in
    if_ok c.word_line.result (λ text line. answers_still c.args.reader marks_text (scene_of w) w.readers.items c.index.result.now text.items refl c.requires c.index.ensures (line ∙ sym (ap (λ o. of_last o marks_text) c.in-None.is))) c.word_line.ensures
