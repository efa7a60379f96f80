use Rattle.std.proofs.Common.{◌∙◌, ap}
use Rattle.std.specs.Prelude.{is_ok}
use Rattle.hgs_path.specs.Theorems.CheckLemmas.{checked-tracked}
use Rattle.hgs_input.proofs.line.is_tracked.Goals as goal

pub returns : goal.returns
returns c = c.is_ok.ensures.value ∙ ap is_ok c.check.ensures ∙ checked-tracked c.args.path.now
