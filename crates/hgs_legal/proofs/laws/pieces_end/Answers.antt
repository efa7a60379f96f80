use Rattle.hgs_legal.proofs.Below.{Below}
use Rattle.hgs_legal.proofs.EndLemmas.{leaves-open, leaves-stops, piece-stands, piece-stops}
use Rattle.hgs_legal.proofs.laws.pieces_end.Goals as goal

pub returns : goal.returns
returns c = record { stands = piece-stands below; left_open = leaves-open below; stops = piece-stops below; left_stops = leaves-stops below }
  where
    below : Below
    below = record {
      before = c.transactions_stay_open.ensures.before;
      kept = c.transactions_stay_open.ensures.kept;
      removed = c.transactions_stay_open.ensures.removed;
      stops = c.undo_leads_back.ensures.stops;
      working_shows = c.transactions_show.ensures.working;
      undone_shows = c.transactions_show.ensures.undone;
      settled_shows = c.transactions_show.ensures.settled;
      loose_shows = c.strays_are_apart.ensures.shown;
      locks_kept = c.transactions_stay_covered.ensures.locks;
      read = c.undo_leads_back-2.ensures.read;
      leads = c.undo_leads_back-2.ensures.leads;
      parts = c.undo_may_stop.ensures.parts;
      loose = c.other_files_do_not_matter.ensures.loose;
      restored = c.open_trees_lead_back.ensures.restored;
      shows = c.standing_trees_show.ensures.whole;
    }
