use Rattle.hgs_journal.proofs.Steps.{append-kept, done-kept, free-kept, locks-kept, rename-kept}
use Rattle.hgs_journal.proofs.laws.transactions_stay_covered.Goals as goal

pub returns : goal.returns
returns c = record {
  appends = λ strays t q journal backups path bytes own leads named. append-kept strays own q journal backups t path bytes named leads;
  renames = λ strays t q journal backups plain file own leads one placed unnamed. rename-kept strays own q journal backups t plain file one placed unnamed leads;
  parts = λ strays t q journal backups ops done left own leads allowed is_done. done-kept strays own q journal backups ops done left t is_done allowed leads;
  locks = λ strays t u q journal backups leads others. locks-kept strays t u q journal backups others leads;
  free = λ strays t u q journal backups leads still. free-kept strays t u q journal backups still leads;
}
