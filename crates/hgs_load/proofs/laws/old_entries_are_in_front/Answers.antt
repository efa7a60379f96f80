use Rattle.hgs_load.proofs.HistoryLemmas.{front-of-new, none-changed, other-behind}
use Rattle.hgs_load.proofs.laws.old_entries_are_in_front.Goals as goal

pub returns : goal.returns
returns c = record { front = front-of-new; none = none-changed; first = other-behind }
