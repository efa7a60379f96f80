use Rattle.hgs_journal.specs.Theorems.BackupText.{written-back as backups-written}
use Rattle.hgs_journal.specs.Theorems.JournalText.{written-back as journal-written}
use Rattle.hgs_journal.proofs.laws.written_then_read.Goals as goal

pub returns : goal.returns
returns c = record { journal = journal-written; backups = backups-written }
