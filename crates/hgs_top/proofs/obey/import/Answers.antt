use Rattle.hgs_machine.specs.Refusals.{WereRefused}
use Rattle.hgs_top.proofs.LeftLemmas.{left_none}
use Rattle.hgs_top.proofs.obey.import.Goals as goal

pub returns-in-Ok-clause-cause : goal.returns-in-Ok-clause-cause
returns-in-Ok-clause-cause g c = c.obey.ensures.cause (g.S.Source.faults c.args.input.now) (g.S.Source.faults c.import_from.new.input)

pub returns-in-Err-clause-comes : goal.returns-in-Err-clause-comes
returns-in-Err-clause-comes g c = c.in-Err.ensures.refused (g.F.Files.log c.args.files.now) (g.F.Reads.start c.args.files.now)

pub returns-in-Err-clause-cause : goal.returns-in-Err-clause-cause
returns-in-Err-clause-cause g c =
    let faults = g.F.Reads.faults c.args.files.now in
    let denied = g.F.Reads.denied c.args.files.now in
    c.in-Err.ensures.cause faults faults denied denied

pub returns-in-Err-clause-left : goal.returns-in-Err-clause-left
returns-in-Err-clause-left g c =
    let faults = g.F.Reads.faults c.args.files.now in
    let denied = g.F.Reads.denied c.args.files.now in
    let log = g.F.Files.log c.args.files.now in
    let start = g.F.Reads.start c.args.files.now in
    left_none (λ n. WereRefused n faults faults denied denied) log log start c.in-Err.ended (c.in-Err.ensures.left log start)
