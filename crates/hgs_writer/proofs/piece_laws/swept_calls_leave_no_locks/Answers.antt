use Rattle.hgs_writer.proofs.LockLemmas.{carried-no-locks, released-no-locks, turned-away-no-locks}
use Rattle.hgs_writer.proofs.piece_laws.swept_calls_leave_no_locks.Goals as goal

pub returns : goal.returns
returns c = record { carried = carried-no-locks; released = released-no-locks; turned_away = turned-away-no-locks }
