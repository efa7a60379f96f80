use Rattle.std.proofs.Common.{sym, arith}
use Rattle.hgs_model.specs.Theorems.StepLemmas.{number-below}
use Rattle.hgs_reader.proofs.names.plain_named.Goals as goal

pub returns-in-Some-clause-below : goal.returns-in-Some-clause-below
returns-in-Some-clause-below c =
    let few = number-below c.len.result c.args.name.now c.in-Some.rev (sym c.in-Some.ensures) in
    let all = c.len.ensures in
    omega (arith, few, all)
