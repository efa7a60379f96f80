use Rattle.hgs_writer.proofs.CleanLemmas.{BarLaws, barred, held}
use Rattle.hgs_writer.proofs.laws.locks_and_journals_bar.Goals as goal

pub returns : goal.returns
returns c = record { held = held laws; barred = barred laws }
  where
    laws : BarLaws
    laws = record {
      held = c.refusals_are_for_files.ensures.held;
      abandoned_free = c.refusals_are_for_files.ensures.abandoned_free;
      free = c.refusals_are_for_files.ensures.free;
      no_journal = c.refusals_are_for_files.ensures.no_journal;
    }
