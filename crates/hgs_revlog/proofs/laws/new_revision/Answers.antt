use Rattle.hgs_revlog.specs.Theorems.AddedLemmas.{new-named, new-may-be-pushed, new-taken, new-held}
use Rattle.hgs_revlog.proofs.laws.new_revision.Goals as goal

pub returns-clause-named : goal.returns-clause-named
returns-clause-named c = new-named

pub returns-clause-fits : goal.returns-clause-fits
returns-clause-fits c = new-may-be-pushed

pub returns-clause-taken : goal.returns-clause-taken
returns-clause-taken c = new-taken

pub returns-clause-held : goal.returns-clause-held
returns-clause-held c = new-held
