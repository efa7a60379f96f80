use Rattle.std.proofs.Common.{◌-◌, ◌∙◌, sym, arith}
use Rattle.hgs_changelog.proofs.HeaderLemmas.{ascends_end}
use Rattle.hgs_changelog.proofs.header.ascending.Goals as goal

pub returns : goal.returns
returns c =
    let past = c.loop-i-test.false in
    sym (ascends_end c.args.names.now (c.loop-i.i - 1) (omega (arith, past))) ∙ c.loop-i.invariant
