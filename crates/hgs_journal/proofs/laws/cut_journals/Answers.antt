use Rattle.hgs_journal.specs.Theorems.JournalText.{first-lines, journal-back}
use Rattle.hgs_journal.proofs.laws.cut_journals.Goals as goal

pub returns : goal.returns
returns c = λ lines front back each cut. let h = first-lines lines front back each cut in (h.0, h.1, h.2, journal-back front h.0 h.3)
