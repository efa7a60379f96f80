use Rattle.hgs_later.proofs.Under.{Below, stays-under}
use Rattle.hgs_later.proofs.laws.files_stay_under.Goals as goal

pub returns : goal.returns
returns c = stays-under below
  where
    below : Below
    below = record {
      files = c.numbers_rise.ensures.files;
      ends = c.stops_are_safe.ensures.ends;
      goes_on = c.steps_go_on.ensures;
      leads = c.transactions_lead.ensures;
      covers = c.transactions_cover_their_start.ensures.kept;
      covered = c.files_only_grow.ensures.covered;
    }
