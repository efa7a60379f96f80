use Rattle.std.proofs.Common.{◌≡◌, ◌-◌, drop}
use Rattle.hgs_bytes.specs.Text.{ascends}
use Rattle.hgs_changelog.proofs.header.ascending.Given as goal

abbrev pub invariant-loop-i : goal.invariant-loop-i
invariant-loop-i l = ascends (drop (l.i - 1) l.names) ≡ ascends l.names
