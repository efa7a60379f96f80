use Rattle.std.proofs.Common.{[], refl}
use Rattle.hgs_machine.specs.Asked.{asked}
use Rattle.hgs_world.proofs.WorkLemmas.{unbegun}
use Rattle.hgs_world.proofs.world.writer_of.Goals as goal

pub returns-clause-at_work : goal.returns-clause-at_work
returns-clause-at_work c = λ t h k. k (record { from = t; log = []; so_far = c.new.ensures.begins t h; begun = []; is_begun = unbegun (asked c.new.result) 0 refl; is_now = refl })
