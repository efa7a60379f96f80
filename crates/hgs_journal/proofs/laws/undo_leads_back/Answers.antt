use Rattle.hgs_journal.proofs.BegunLemmas.{undo-same}
use Rattle.hgs_journal.proofs.LeadLemmas.{lead-restores}
use Rattle.hgs_journal.specs.Theorems.UndoStops.{reads-of}
use Rattle.hgs_journal.proofs.laws.undo_leads_back.Goals as goal

pub returns : goal.returns
returns c = record {
  read = λ strays t q covers. (covers.journal, covers.backups, record { covers = covers; reads = reads-of strays t q covers });
  leads = λ strays t q journal backups own leads. lead-restores strays own journal backups t q leads;
  kept = λ strays t q journal backups leads. undo-same strays journal backups t q leads;
}
