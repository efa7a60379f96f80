use Rattle.std.proofs.Common.{refl}
use Rattle.hgs_mem.specs.Steady.{steady_log, steady_start, steady_tree}
use Rattle.hgs_world.specs.Questions.{read_by, read_line}
use Rattle.hgs_world.specs.World.{scene_of}
use Rattle.hgs_world.proofs.SceneLemmas.{if_ok_on, sees}
use Rattle.hgs_world.proofs.state.World.read.Goals as goal

pub returns-clause-does : goal.returns-clause-does
returns-clause-does c =
    let w = c.args.self.now in
    let e = c.read.ensures in
    if_ok_on c.read.result
    (λ sight text line. sees c.args.reader (λ s. read_by (steady_tree w.files) s s.load) (λ s. read_line (steady_tree w.files) s.load) (scene_of w) (steady_start c.read.new.files) (steady_log c.read.new.files) w.readers.items c.index_mut.result.now c.read.new.self text.items e.same_start e.log refl c.requires c.index_mut.ensures.value sight line)
    e.sight e.line
