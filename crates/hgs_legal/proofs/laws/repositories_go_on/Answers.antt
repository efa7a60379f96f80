use Rattle.hgs_legal.proofs.Below.{Below}
use Rattle.hgs_legal.specs.LegalLog.{start_of}
use Rattle.hgs_legal.proofs.ChainLemmas.{run-goes-on}
use Rattle.hgs_legal.proofs.StayLemmas.{run-first}
use Rattle.hgs_legal.proofs.laws.repositories_go_on.Goals as goal

pub returns : goal.returns
returns c = λ t r log s i j stands run le. run-goes-on c.step_keeps_repositories.ensures c.steps_go_on.ensures below t r log s i j stands run (run-first (start_of t r) log s run) le
  where
    below : Below
    below = record {
      before = c.transactions_stay_open.ensures.before;
      kept = c.transactions_stay_open.ensures.kept;
      removed = c.transactions_stay_open.ensures.removed;
      stops = c.undo_leads_back.ensures.stops;
      working_shows = c.transactions_show.ensures.working;
      undone_shows = c.transactions_show.ensures.undone;
      settled_shows = c.transactions_show.ensures.settled;
      loose_shows = c.strays_are_apart.ensures.shown;
      locks_kept = c.transactions_stay_covered.ensures.locks;
      read = c.undo_leads_back-2.ensures.read;
      leads = c.undo_leads_back-2.ensures.leads;
      parts = c.undo_may_stop.ensures.parts;
      loose = c.other_files_do_not_matter.ensures.loose;
      restored = c.open_trees_lead_back.ensures.restored;
      shows = c.standing_trees_show.ensures.whole;
    }
