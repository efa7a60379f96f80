use Rattle.std.specs.Prelude.{is_some}
use Rattle.hgs_machine.specs.Carry.{tree_now}
use Rattle.hgs_machine.proofs.Leaving.{nothing-left}
use Rattle.hgs_machine.proofs.Locking.{nothing-yet}
use Rattle.hgs_machine.proofs.locks.take_locks.Goals as goal

pub returns-in_default-clause-log : goal.returns-in_default-clause-log
returns-in_default-clause-log g c = nothing-yet c.args.who.now (g.F.Files.log c.args.files.now) (tree_now (g.F.Files.log c.args.files.now) (g.F.Reads.start c.args.files.now))

pub returns-in_default-clause-left : goal.returns-in_default-clause-left
returns-in_default-clause-left g c =
    let old = c.args.files.now in
    nothing-left (is_some (g.F.Files.log old)) (g.F.Files.log old) (tree_now (g.F.Files.log old) (g.F.Reads.start old)) (g.F.Reads.faults old) (g.F.Reads.denied old)
