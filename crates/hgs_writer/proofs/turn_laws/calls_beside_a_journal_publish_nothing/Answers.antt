use Rattle.hgs_writer.proofs.Written.{barred}
use Rattle.hgs_writer.proofs.turn_laws.calls_beside_a_journal_publish_nothing.Goals as goal

pub returns : goal.returns
returns c = λ s left command who answer changeset done rested journal w. barred c.refusals_are_for_files.ensures.no_journal s left rested journal command who answer changeset done w
