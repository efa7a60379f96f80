-- Why no commit is planned.
use Rattle.std.specs.Prelude.{◌≡◌, ℕ, Result, Err}
use Rattle.hgs_files.specs.Reads.{Rose}
use Rattle.hgs_load.specs.declared.answer.ReadAnswer.TheVariants.{Fault}
use Rattle.hgs_commit.specs.declared.fault.CommitFault.{CommitFault}
use Rattle.hgs_commit.specs.declared.fault.CommitFault.TheVariants.{Unread}

-- a fault of the files comes only where their count of faults rose, which never falls
pub record HasCause {T : Type 0} (before now : ℕ) (result : Result T CommitFault) : Type 0 where
  pub rose : result ≡ Err (Unread Fault) → Rose before now
