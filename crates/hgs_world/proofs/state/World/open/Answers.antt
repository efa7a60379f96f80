use Rattle.std.proofs.Common.{refl}
use Rattle.hgs_mem.specs.Steady.{steady_log, steady_start}
use Rattle.hgs_world.specs.Questions.{loading_line, opened}
use Rattle.hgs_world.specs.World.{scene_of}
use Rattle.hgs_world.proofs.SceneLemmas.{if_ok, sees}
use Rattle.hgs_world.proofs.state.World.open.Goals as goal

pub returns-clause-does : goal.returns-clause-does
returns-clause-does c =
    let w = c.args.self.now in
    if_ok c.word_line.result
    (λ text line. sees c.args.reader opened (λ s. loading_line) (scene_of w) (steady_start w.files) (steady_log w.files) w.readers.items c.index_mut.result.now c.open.new.self text.items refl refl refl c.requires c.index_mut.ensures.value c.in_ok-open.ensures line)
    c.word_line.ensures
