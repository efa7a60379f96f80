use Rattle.std.proofs.Common.{sym}
use Rattle.hgs_revlog.specs.Theorems.LoadLemmas.{taken_entry}
use Rattle.hgs_revlog.proofs.revlog.Revlog.take_entry.Goals as goal

pub append-requires-clause-faultless : goal.append-requires-clause-faultless
append-requires-clause-faultless c = (taken_entry c.args.self.now.entries c.args.bytes.now c.in_ok-entry.entry (sym c.in_ok-entry.ensures)).1
