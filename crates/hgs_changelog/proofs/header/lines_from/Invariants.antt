use Rattle.std.proofs.Common.{◌≡◌, ℕ, suc, ◌++◌, List, length, Option, Some, None}
use Rattle.std.specs.Prelude.{option_map}
use Rattle.hgs_changelog.specs.Lines.{lines_behind}
use Rattle.hgs_changelog.proofs.header.lines_from.Given as goal

abbrev left_of : Option (List ℕ) → ℕ
left_of None = 0
left_of (Some text) = suc (length text)

abbrev pub invariant-loop-left : goal.invariant-loop-left
invariant-loop-left l = l.names ++ lines_behind (option_map (λ t. t.now) l.left) ≡ lines_behind (option_map (λ t. t.now) l.fn.text)

abbrev pub decreases-loop-left : goal.decreases-loop-left
decreases-loop-left l = left_of (option_map (λ t. t.now) l.left)
