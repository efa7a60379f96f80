use Rattle.hgs_recalled.proofs.AlikeLemmas.{were-kept, were-later}
use Rattle.hgs_recalled.proofs.laws.kept_texts_were_read.Goals as goal

pub returns-clause-later : goal.returns-clause-later
returns-clause-later c = were-later

pub returns-clause-call : goal.returns-clause-call
returns-clause-call c x first began ended from to v view rev change old new r loaded there begins then_read on were keeps = were-kept x first began ended from to v view rev change old new loaded there begins then_read on were r keeps
