use Rattle.std.proofs.Common.{◌∙◌, ap, length, arith}
use Rattle.hgs_path.specs.Theorems.PartLemmas.{listed-long}
use Rattle.hgs_path.proofs.name.store_name.Goals as goal

pub path_of-requires : goal.path_of-requires
path_of-requires c =
    let same = ap length (c.deref.ensures.value ∙ c.in_ok-listed.ensures) in
    let long = listed-long c.args.path.now c.args.ext in
    omega (arith, same, long)
