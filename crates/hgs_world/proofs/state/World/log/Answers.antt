use Rattle.std.proofs.Common.{refl, sym, ◌∙◌, ap}
use Rattle.std.specs.Prelude.{Some}
use Rattle.hgs_mem.specs.Steady.{steady_log, steady_start, steady_tree}
use Rattle.hgs_world.specs.Questions.{log_text, of_last}
use Rattle.hgs_world.specs.World.{scene_of}
use Rattle.hgs_world.proofs.SceneLemmas.{answers, if_ok, kept_sight}
use Rattle.hgs_world.proofs.state.World.log.Goals as goal

pub returns-in-Some-clause-does : goal.returns-in-Some-clause-does
returns-in-Some-clause-does c =
    let w = c.args.self.now in
    let x = c.index_mut.result.now in
    let e = c.log_text.ensures in
    if_ok c.log_text.result
    (λ text line. answers c.args.reader (log_text (steady_tree w.files)) (scene_of w) (steady_start c.log_text.new.files) (steady_log c.log_text.new.files) w.readers.items x (record x { session = Some c.log_text.new.session }) text.items e.same_start e.log refl c.requires c.index_mut.ensures.value
    (kept_sight x c.in-Some.session c.log_text.new.session c.in-Some.is e.kept) (line ∙ sym (ap (λ o. of_last o (log_text (steady_tree w.files))) c.in-Some.is)))
    e.text

pub returns-in-None-clause-does : goal.returns-in-None-clause-does
returns-in-None-clause-does c =
    let w = c.args.self.now in
    let x = c.index_mut.result.now in
    if_ok c.word_line.result
    (λ text line. answers c.args.reader (log_text (steady_tree w.files)) (scene_of w) (steady_start w.files) (steady_log w.files) w.readers.items x x text.items refl refl refl c.requires c.index_mut.ensures.value refl (line ∙ sym (ap (λ o. of_last o (log_text (steady_tree w.files))) c.in-None.is)))
    c.word_line.ensures
