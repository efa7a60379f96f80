use Rattle.hgs_machine.specs.Carry.{tree_now}
use Rattle.hgs_recover.proofs.Left.{removed}
use Rattle.hgs_recover.proofs.leftovers.remove.Goals as goal

pub returns-clause-log : goal.returns-clause-log
returns-clause-log g c =
    removed (g.F.Files.log c.args.files.now) (g.F.Files.log c.remove.new.self) (tree_now (g.F.Files.log c.args.files.now) (g.F.Reads.start c.args.files.now)) c.args.path.now c.remove.result c.is_ok.result
    (g.F.Reads.faults c.args.files.now) (g.F.Reads.faults c.remove.new.self) (g.F.Reads.denied c.args.files.now) (g.F.Reads.denied c.remove.new.self) c.is_ok.ensures.value c.remove.ensures.counts c.remove.ensures.done
