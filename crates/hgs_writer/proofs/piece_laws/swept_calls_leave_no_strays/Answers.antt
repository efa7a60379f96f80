use Rattle.hgs_writer.proofs.LockLemmas.{carried-no-strays, released-no-strays, turned-away-no-strays}
use Rattle.hgs_writer.proofs.piece_laws.swept_calls_leave_no_strays.Goals as goal

pub returns : goal.returns
returns c = record { carried = carried-no-strays; released = released-no-strays; turned_away = turned-away-no-strays }
