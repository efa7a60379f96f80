use Rattle.hgs_ops.proofs.Below.{Below}
use Rattle.hgs_ops.proofs.PowerLeads.{calls-safe, command-course, command-leads}
use Rattle.hgs_ops.proofs.PowerShape.{command-transaction}
use Rattle.hgs_ops.proofs.laws.transactions_bear_a_loss_of_power.Goals as goal

pub returns : goal.returns
returns c = record {
  transactions = λ t r next command who ready. command-transaction t r next command who ready;
  leads = λ t r next command who answer s valid accepted ready. command-leads below t r next command who answer s valid accepted ready;
  calls = λ repos start calls s c. calls-safe below repos start calls s c;
  courses = λ repos d a command who answer o quiet good valid accepted ready. command-course below repos d a command who answer o quiet good valid accepted ready;
}
  where
    below : Below
    below = record {
      named = c.journals_begin.ensures;
      changed = c.transactions_stay_covered.ensures.parts;
      free = c.transactions_stay_covered.ensures.free;
      leads = c.undo_leads_back.ensures.leads;
      kept = c.undo_leads_back.ensures.kept;
      parts = c.undo_may_stop.ensures.parts;
      files = c.undo_may_stop.ensures.files;
      loose = c.other_files_do_not_matter.ensures.loose;
      restored = c.open_trees_lead_back.ensures.restored;
    }
