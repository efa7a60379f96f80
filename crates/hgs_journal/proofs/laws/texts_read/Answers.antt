use Rattle.hgs_journal.specs.Theorems.BackupText.{backups-found, backups-back}
use Rattle.hgs_journal.specs.Theorems.JournalText.{journal-found, journal-back}
use Rattle.hgs_journal.proofs.laws.texts_read.Goals as goal

pub returns : goal.returns
returns c = record {
  journal = λ text lines. (journal-found text lines, journal-back text lines);
  backups = λ text lines. (backups-found text lines, backups-back text lines);
}
