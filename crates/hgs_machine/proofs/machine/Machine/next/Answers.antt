use Rattle.std.proofs.Common.{refl}
use Rattle.hgs_machine.specs.Asked.{asked}
use Rattle.hgs_machine.proofs.Ending.{ends-well}
use Rattle.hgs_machine.proofs.machine.Machine.next.Goals as goal

pub returns-in-None-clause-ends : goal.returns-in-None-clause-ends
returns-in-None-clause-ends c = ends-well c.args.self.now (asked c.args.self.now) refl
