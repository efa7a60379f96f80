use Rattle.std.proofs.Common.{◌≡◌, ℕ, suc, List, length, Option, Some, None}
use Rattle.std.specs.Option.{option_map}
use Rattle.hgs_branch.specs.Extras.{items_behind, items_of, last_value, or_else}
use Rattle.hgs_branch.proofs.extras.branch_of.Given as goal

abbrev left_of : Option (List ℕ) → ℕ
left_of None = 0
left_of (Some text) = suc (length text)

abbrev pub invariant-loop-left : goal.invariant-loop-left
invariant-loop-left l = or_else (last_value (items_behind (option_map (λ t. t.now) l.left))) (option_map (λ v. v.items) l.last) ≡ last_value (items_of l.fn.extras)

abbrev pub decreases-loop-left : goal.decreases-loop-left
decreases-loop-left l = left_of (option_map (λ t. t.now) l.left)
