use Rattle.hgs_history.proofs.Entries.{leads-to}
use Rattle.hgs_history.proofs.laws.calls_lead_to_their_logs.Goals as goal

pub returns : goal.returns
returns c = λ x old calls last makes front back call e. leads-to x old calls last makes front back call e
