use Rattle.std.proofs.Common.{◌≡◌, ◌⊎◌, ◌-◌, ◌<◌, ◌≤◌, ℕ, true, length}
use Rattle.hgs_bytes.specs.Text.{ascends}
use Rattle.hgs_findings.specs.Sight.{row_paths}
use Rattle.hgs_judge.proofs.SearchLemmas.{IsNotAt}
use Rattle.hgs_judge.proofs.search.place_by_halves.Given as goal

abbrev pub invariant-loop-low : goal.invariant-loop-low
invariant-loop-low l = record {
  order : l.low ≤ l.high;
  within : l.high ≤ length l.rows;
  others : ascends (row_paths l.rows) ≡ true → (k : ℕ) → k < length l.rows → (k < l.low) ⊎ (l.high ≤ k) → IsNotAt l.rows l.path k;
}

abbrev pub decreases-loop-low : goal.decreases-loop-low
decreases-loop-low l = l.high - l.low
