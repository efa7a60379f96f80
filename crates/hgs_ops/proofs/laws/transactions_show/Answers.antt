use Rattle.hgs_ops.proofs.Below.{Below}
use Rattle.hgs_ops.proofs.Settling.{settling}
use Rattle.hgs_ops.proofs.TransactionLemmas.{settled-stands}
use Rattle.hgs_ops.proofs.ShowLemmas.{all-still, undo-shows, work-shows}
use Rattle.hgs_ops.proofs.laws.transactions_show.Goals as goal

pub returns : goal.returns
returns c = record {
  working = λ t r next command who answer s valid accepted ready. work-shows below t r next command who s ready (all-still below t r next command who answer s valid accepted ready);
  undone = λ t r next command who answer s valid accepted ready. undo-shows below t r next command who s ready (all-still below t r next command who answer s valid accepted ready);
  settled = λ t r next command who answer s valid accepted ready. settling t r next s command who (settled-stands below t r next command who s ready answer valid accepted);
}
  where
    below : Below
    below = record {
      named = c.journals_begin.ensures;
      changed = c.transactions_stay_covered.ensures.parts;
      free = c.transactions_stay_covered.ensures.free;
      leads = c.undo_leads_back.ensures.leads;
      kept = c.undo_leads_back.ensures.kept;
      parts = c.undo_may_stop.ensures.parts;
      files = c.undo_may_stop.ensures.files;
      loose = c.other_files_do_not_matter.ensures.loose;
      restored = c.open_trees_lead_back.ensures.restored;
    }
