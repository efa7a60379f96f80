use Rattle.hgs_judge.proofs.AddedLemmas.{added-are, are-added}
use Rattle.hgs_judge.proofs.laws.added_findings.Goals as goal

pub returns-clause-are : goal.returns-clause-are
returns-clause-are c = added-are

pub returns-clause-all : goal.returns-clause-all
returns-clause-all c = are-added
