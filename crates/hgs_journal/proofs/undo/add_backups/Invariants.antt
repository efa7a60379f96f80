use Rattle.std.proofs.Common.{◌≡◌, ◌++◌, drop}
use Rattle.hgs_journal.specs.Undo.{undo_backups}
use Rattle.hgs_journal.proofs.undo.add_backups.Given as goal

abbrev pub invariant-loop-i : goal.invariant-loop-i
invariant-loop-i l = l.ops.items ++ undo_backups (drop l.i l.lines) (drop l.i l.kept) ≡ l.fn.ops.items ++ undo_backups l.lines l.kept
