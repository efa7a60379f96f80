use Rattle.hgs_journal.proofs.FileLemmas.{undo-bytes}
use Rattle.hgs_journal.proofs.LeadLemmas.{lead-parts, lead-stops}
use Rattle.hgs_journal.proofs.laws.undo_may_stop.Goals as goal

pub returns : goal.returns
returns c = record {
  parts = λ strays t q journal backups done left own leads is_done. lead-parts strays own journal backups t q leads done left is_done;
  stops = λ strays t q u journal backups own leads stopped. lead-stops strays own journal backups t q leads u stopped;
  files = λ strays t q journal backups path done left own leads free off is_done. undo-bytes strays own t q path free off journal backups leads done left is_done;
}
