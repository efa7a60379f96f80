use Rattle.std.proofs.Common.{rules, ◌==◌}
use Rattle.std.proofs.lemmas.Iterator.Search.{any_from_yields_List}
use Rattle.std.proofs.lemmas.Iterator.Splits.{YieldsList-from_slice_split}
use Rattle.hgs_files.specs.Path.{is_dots}
use Rattle.hgs_files.proofs.path.has_dots.Goals as goal

pub returns : goal.returns
returns c =
    any_from_yields_List is_dots _ _ c.any.result c.any.ensures.ran
    (YieldsList-from_slice_split _ (λ b. b == 47) c.args.path.now c.split.ensures.rest c.split.ensures.done c.split.ensures.closure (search rules))
    (search rules)
