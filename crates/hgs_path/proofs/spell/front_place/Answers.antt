use Rattle.std.proofs.Common.{◌∙◌, refl, ap, sym, length, arith}
use Rattle.hgs_path.specs.Theorems.PartLemmas.{device-long, stem-short}
use Rattle.hgs_path.proofs.spell.front_place.Goals as goal

pub returns-then-is_device-clause-within : goal.returns-then-is_device-clause-within
returns-then-is_device-clause-within c =
    let long = device-long c.stem.result.now (sym c.is_device.ensures ∙ c.if-is_device.true) in
    let short = stem-short c.args.part.now _ refl in
    omega (arith, long, short, ap length c.stem.ensures)
