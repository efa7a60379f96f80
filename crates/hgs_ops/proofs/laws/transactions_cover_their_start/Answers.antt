use Rattle.hgs_ops.proofs.Below.{Below}
use Rattle.hgs_ops.proofs.TransactionLemmas.{kept-covers, undone-covers}
use Rattle.hgs_ops.proofs.laws.transactions_cover_their_start.Goals as goal

pub returns : goal.returns
returns c = record {
  kept = λ t r next command who s ready. kept-covers below t r next command who s ready;
  undone = λ t r next command who s ready. undone-covers below t r next command who s ready;
}
  where
    below : Below
    below = record {
      named = c.journals_begin.ensures;
      changed = c.transactions_stay_covered.ensures.parts;
      free = c.transactions_stay_covered.ensures.free;
      leads = c.undo_leads_back.ensures.leads;
      kept = c.undo_leads_back.ensures.kept;
      parts = c.undo_may_stop.ensures.parts;
      files = c.undo_may_stop.ensures.files;
      loose = c.other_files_do_not_matter.ensures.loose;
      restored = c.open_trees_lead_back.ensures.restored;
    }
