use Rattle.hgs_lasting.proofs.Lasting.{ends-so, stops-so}
use Rattle.hgs_lasting.proofs.laws.processes_go_on.Goals as goal

pub returns : goal.returns
returns c = record { ends = ends-so c.laws_below.ensures; stops = stops-so c.laws_below.ensures }
