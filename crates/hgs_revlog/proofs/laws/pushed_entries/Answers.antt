use Rattle.hgs_revlog.proofs.LoadedLemmas.{pushed-entries, pushed-separate, pushed-earlier, pushed-own, pushed-nodes}
use Rattle.hgs_revlog.proofs.laws.pushed_entries.Goals as goal

pub returns-clause-entries : goal.returns-clause-entries
returns-clause-entries c = pushed-entries

pub returns-clause-separate : goal.returns-clause-separate
returns-clause-separate c = pushed-separate

pub returns-clause-earlier : goal.returns-clause-earlier
returns-clause-earlier c = pushed-earlier

pub returns-clause-own : goal.returns-clause-own
returns-clause-own c = pushed-own

pub returns-clause-nodes : goal.returns-clause-nodes
returns-clause-nodes c = pushed-nodes
