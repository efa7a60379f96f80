use Rattle.hgs_revlog.proofs.ApartLemmas.{inline-holds, inline-loads, inline-places}
use Rattle.hgs_revlog.proofs.laws.inline_index.Goals as goal

pub returns-clause-holds : goal.returns-clause-holds
returns-clause-holds c = inline-holds c.inline_taken_apart.ensures.back

pub returns-clause-loads : goal.returns-clause-loads
returns-clause-loads c = inline-loads c.inline_taken_apart.ensures.apart

pub returns-clause-places : goal.returns-clause-places
returns-clause-places c = inline-places
