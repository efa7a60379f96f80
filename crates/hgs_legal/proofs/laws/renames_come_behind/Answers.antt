use Rattle.hgs_legal.proofs.BehindLemmas.{newly-published, turn-behind}
use Rattle.hgs_legal.proofs.laws.renames_come_behind.Goals as goal

pub returns : goal.returns
returns c = record { published = newly-published; left = turn-behind }
