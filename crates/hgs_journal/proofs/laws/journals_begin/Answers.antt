use Rattle.hgs_journal.proofs.BegunLemmas.{named-leads}
use Rattle.hgs_journal.proofs.laws.journals_begin.Goals as goal

pub returns : goal.returns
returns c = λ strays journal backups t q own ready. named-leads strays own journal backups t q ready
