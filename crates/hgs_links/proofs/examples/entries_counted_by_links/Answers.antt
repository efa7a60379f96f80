use Rattle.std.proofs.Common.{refl}
use Rattle.hgs_links.proofs.examples.entries_counted_by_links.Goals as goal

pub returns-clause-links : goal.returns-clause-links
returns-clause-links c = refl

pub returns-clause-counted : goal.returns-clause-counted
returns-clause-counted c = refl
