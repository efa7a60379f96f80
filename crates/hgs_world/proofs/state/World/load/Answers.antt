use Rattle.std.proofs.Common.{refl}
use Rattle.hgs_mem.specs.Steady.{steady_log, steady_start, steady_tree}
use Rattle.hgs_world.specs.Questions.{load_line, loaded_by}
use Rattle.hgs_world.specs.World.{scene_of}
use Rattle.hgs_world.proofs.SceneLemmas.{if_ok_on, sees}
use Rattle.hgs_world.proofs.state.World.load.Goals as goal

pub returns-clause-does : goal.returns-clause-does
returns-clause-does c =
    let w = c.args.self.now in
    let e = c.load.ensures in
    if_ok_on c.load.result
    (λ sight text line. sees c.args.reader (loaded_by (steady_tree w.files)) (load_line (steady_tree w.files)) (scene_of w) (steady_start c.load.new.files) (steady_log c.load.new.files) w.readers.items c.index_mut.result.now c.load.new.self text.items e.same_start e.log refl c.requires c.index_mut.ensures.value sight line)
    e.sight e.line
