use Rattle.std.proofs.Common.{refl, sym, ◌∙◌, ap}
use Rattle.std.specs.Prelude.{Some}
use Rattle.hgs_mem.specs.Steady.{steady_log, steady_start, steady_tree}
use Rattle.hgs_world.specs.Questions.{body_text, of_last}
use Rattle.hgs_world.specs.World.{scene_of}
use Rattle.hgs_world.proofs.SceneLemmas.{answers, if_ok, kept_sight}
use Rattle.hgs_world.proofs.state.World.body.Goals as goal

pub returns-in-Some-clause-does : goal.returns-in-Some-clause-does
returns-in-Some-clause-does c =
    let w = c.args.self.now in
    let x = c.index_mut.result.now in
    let e = c.body_text.ensures in
    if_ok c.body_text.result
    (λ text line. answers c.args.reader (λ view. body_text (steady_tree w.files) view c.args.name.now c.args.path.now) (scene_of w) (steady_start c.body_text.new.files) (steady_log c.body_text.new.files) w.readers.items x (record x { session = Some c.body_text.new.session }) text.items e.same_start e.log refl c.requires c.index_mut.ensures.value
    (kept_sight x c.in-Some.session c.body_text.new.session c.in-Some.is e.kept) (line ∙ sym (ap (λ o. of_last o (λ view. body_text (steady_tree w.files) view c.args.name.now c.args.path.now)) c.in-Some.is)))
    e.text

pub returns-in-None-clause-does : goal.returns-in-None-clause-does
returns-in-None-clause-does c =
    let w = c.args.self.now in
    let x = c.index_mut.result.now in
    if_ok c.word_line.result
    (λ text line. answers c.args.reader (λ view. body_text (steady_tree w.files) view c.args.name.now c.args.path.now) (scene_of w) (steady_start w.files) (steady_log w.files) w.readers.items x x text.items refl refl refl c.requires c.index_mut.ensures.value refl (line ∙ sym (ap (λ o. of_last o (λ view. body_text (steady_tree w.files) view c.args.name.now c.args.path.now)) c.in-None.is)))
    c.word_line.ensures
