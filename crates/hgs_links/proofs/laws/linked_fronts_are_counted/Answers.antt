use Rattle.hgs_links.proofs.Counting.{counted, of-moments}
use Rattle.hgs_links.proofs.laws.linked_fronts_are_counted.Goals as goal

pub returns-clause-counted : goal.returns-clause-counted
returns-clause-counted c = counted

pub returns-clause-moments : goal.returns-clause-moments
returns-clause-moments c = of-moments
