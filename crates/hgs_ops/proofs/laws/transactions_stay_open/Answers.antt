use Rattle.hgs_ops.proofs.Below.{Below}
use Rattle.hgs_ops.proofs.TransactionLemmas.{before, removed, stays-open}
use Rattle.hgs_ops.proofs.laws.transactions_stay_open.Goals as goal

pub returns : goal.returns
returns c = record {
  before = λ t r next command who s ready. before below t r next command who s ready;
  kept = λ t r next command who s ready. stays-open below t r next command who s ready;
  removed = λ t r next command who answer s valid accepted ready. removed below t r next command who s ready answer valid accepted;
}
  where
    below : Below
    below = record {
      named = c.journals_begin.ensures;
      changed = c.transactions_stay_covered.ensures.parts;
      free = c.transactions_stay_covered.ensures.free;
      leads = c.undo_leads_back.ensures.leads;
      kept = c.undo_leads_back.ensures.kept;
      parts = c.undo_may_stop.ensures.parts;
      files = c.undo_may_stop.ensures.files;
      loose = c.other_files_do_not_matter.ensures.loose;
      restored = c.open_trees_lead_back.ensures.restored;
    }
