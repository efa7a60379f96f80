use Rattle.hgs_legal.proofs.Below.{Below}
use Rattle.hgs_legal.proofs.Growing.{Grown, from-publishing, from-start, goes-one, publishing-holds}
use Rattle.hgs_legal.proofs.laws.published_files_stay.Goals as goal

pub returns : goal.returns
returns c = record {
  one = goes-one;
  holds = publishing-holds below grown;
  first = λ t r log s path stands run free off other. from-start below grown t r log s stands run path (record { free = free; off = off; other = other });
  later = λ t r log s op s' more s'' path stands run go lt on free off other. from-publishing below grown t r log s op s' more s'' stands run go lt on path (record { free = free; off = off; other = other });
}
  where
    grown : Grown
    grown = record {
      kept = c.transactions_cover_their_start.ensures.kept;
      undone = c.transactions_cover_their_start.ensures.undone;
      covered = c.files_only_grow.ensures.covered;
      before = c.files_only_grow.ensures.before;
      behind = c.files_only_grow.ensures.behind;
      revlogs = c.other_files_do_not_matter.ensures.revlogs;
      free = c.files_are_not_loose.ensures.filelogs;
      own = c.filelogs_stand_apart.ensures.own;
    }

    below : Below
    below = record {
      before = c.transactions_stay_open.ensures.before;
      kept = c.transactions_stay_open.ensures.kept;
      removed = c.transactions_stay_open.ensures.removed;
      stops = c.undo_leads_back.ensures.stops;
      working_shows = c.transactions_show.ensures.working;
      undone_shows = c.transactions_show.ensures.undone;
      settled_shows = c.transactions_show.ensures.settled;
      loose_shows = c.strays_are_apart.ensures.shown;
      locks_kept = c.transactions_stay_covered.ensures.locks;
      read = c.undo_leads_back-2.ensures.read;
      leads = c.undo_leads_back-2.ensures.leads;
      parts = c.undo_may_stop.ensures.parts;
      loose = c.other_files_do_not_matter.ensures.loose;
      restored = c.open_trees_lead_back.ensures.restored;
      shows = c.standing_trees_show.ensures.whole;
    }
