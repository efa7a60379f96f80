use Rattle.hgs_model.specs.declared.command.Command.TheVariants.{Commit}
use Rattle.hgs_ops.proofs.LaidLemmas.{commit-lays-beside}
use Rattle.hgs_ops.proofs.TransactionLemmas.{transaction-leads}
use Rattle.hgs_ops.proofs.laws.commits_leave_what_they_lay.Goals as goal

pub returns : goal.returns
returns c t u r next n who answer s valid accepted ready aside path free = commit-lays-beside t u r next n who s.no_journal (transaction-leads t r next (Commit n) who answer s valid accepted ready).stands.no_journal aside path free
