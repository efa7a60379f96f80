use Rattle.hgs_ops.proofs.Below.{Below}
use Rattle.hgs_ops.proofs.TransactionLemmas.{undo-leads, undo-stops}
use Rattle.hgs_ops.proofs.laws.undo_leads_back.Goals as goal

pub returns : goal.returns
returns c = record {
  leads = λ t r next command who s ready. undo-leads below t r next command who s ready;
  stops = λ t r next command who s ready. undo-stops below t r next command who s ready;
}
  where
    below : Below
    below = record {
      named = c.journals_begin.ensures;
      changed = c.transactions_stay_covered.ensures.parts;
      free = c.transactions_stay_covered.ensures.free;
      leads = c.undo_leads_back.ensures.leads;
      kept = c.undo_leads_back.ensures.kept;
      parts = c.undo_may_stop.ensures.parts;
      files = c.undo_may_stop.ensures.files;
      loose = c.other_files_do_not_matter.ensures.loose;
      restored = c.open_trees_lead_back.ensures.restored;
    }
