use Rattle.hgs_writer.proofs.CleanLemmas.{LockLaws, StrayLaws, not-held, strays-gone, swept-clean}
use Rattle.hgs_writer.proofs.laws.calls_clean_up.Goals as goal

pub returns : goal.returns
returns c = record { swept = swept-clean laws; held = not-held laws; strays = strays-gone stray_laws }
  where
    laws : LockLaws
    laws = record {
      carried = c.swept_calls_leave_no_locks.ensures.carried;
      released = c.swept_calls_leave_no_locks.ensures.released;
      turned_away = c.swept_calls_leave_no_locks.ensures.turned_away;
      held = c.refusals_are_for_files.ensures.held;
    }

    stray_laws : StrayLaws
    stray_laws = record {
      carried = c.swept_calls_leave_no_strays.ensures.carried;
      released = c.swept_calls_leave_no_strays.ensures.released;
      turned_away = c.swept_calls_leave_no_strays.ensures.turned_away;
    }
