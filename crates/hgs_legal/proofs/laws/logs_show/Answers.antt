use Rattle.hgs_legal.proofs.Below.{Below}
use Rattle.hgs_legal.proofs.RunLemmas.{run-shows}
use Rattle.hgs_legal.proofs.laws.logs_show.Goals as goal

pub returns : goal.returns
returns c = run-shows below
  where
    below : Below
    below = record {
      before = c.transactions_stay_open.ensures.before;
      kept = c.transactions_stay_open.ensures.kept;
      removed = c.transactions_stay_open.ensures.removed;
      stops = c.undo_leads_back.ensures.stops;
      working_shows = c.transactions_show.ensures.working;
      undone_shows = c.transactions_show.ensures.undone;
      settled_shows = c.transactions_show.ensures.settled;
      loose_shows = c.strays_are_apart.ensures.shown;
      locks_kept = c.transactions_stay_covered.ensures.locks;
      read = c.undo_leads_back-2.ensures.read;
      leads = c.undo_leads_back-2.ensures.leads;
      parts = c.undo_may_stop.ensures.parts;
      loose = c.other_files_do_not_matter.ensures.loose;
      restored = c.open_trees_lead_back.ensures.restored;
      shows = c.standing_trees_show.ensures.whole;
    }
