use Rattle.std.proofs.Common.{ap, refl, ◌∙◌}
use Rattle.std.specs.Prelude.{replicate, false}
use Rattle.hgs_follow.proofs.MapLemmas.{is_put}
use Rattle.hgs_follow.proofs.walk.put.Goals as goal

pub returns : goal.returns
returns c = is_put c.args.logs.now c.insert.new.self c.args.path.now c.in_ok-copy.field-0 _ c.args.filelog c.in_ok-copy.ensures refl (c.in_ok-marks.ensures ∙ ap (λ n. replicate n false) c.len.ensures) c.in_ok-insert.ensures.updates
