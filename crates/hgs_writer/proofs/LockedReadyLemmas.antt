-- What hinders a transaction under its locks hinders it without them.
use Rattle.std.proofs.Common.{List, sym}
use Rattle.hgs_files.specs.declared.op.Op.{Op}
use Rattle.hgs_files.specs.Tree.{Tree, after_all}
use Rattle.hgs_machine.specs.Locks.{AreLocked}
use Rattle.hgs_model.specs.Repo.{Repo}
use Rattle.hgs_model.specs.declared.command.Command.{Command}
use Rattle.hgs_ops.specs.Theorems.Beside.{ready-same}
use Rattle.hgs_ops.specs.Unhindered.{IsReady}
use Rattle.hgs_writer.proofs.UnderLemmas.{beside-aside, same-beside}
use Rattle.std.specs.Prelude.{ℕ}

pub ready-unlocked : (who : List ℕ) (t : Tree) (locking : List Op) → AreLocked who t locking → (r : Repo) (command : Command) (next : Repo) → IsReady (after_all locking t) r command next → IsReady t r command next
ready-unlocked who t locking locked = ready-same (after_all locking t) t (λ path free. sym (beside-aside t (after_all locking t) (same-beside who t locking locked) path free))
