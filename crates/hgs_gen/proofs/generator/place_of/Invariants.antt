use Rattle.std.proofs.Common.{length, ◌-◌, ◌≡◌, ◌≤◌, ◌++◌, ℕ, List, take, drop}
use Rattle.hgs_gen.specs.Generated.{with_text}
use Rattle.hgs_gen.proofs.generator.place_of.Given as goal

abbrev pub invariant-loop-at : goal.invariant-loop-at
invariant-loop-at l = record {
  fits : l.at ≤ length l.files;
  passed : (text : List ℕ) → with_text l.path text l.files ≡ take l.at l.files ++ with_text l.path text (drop l.at l.files);
}

abbrev pub decreases-loop-at : goal.decreases-loop-at
decreases-loop-at l = length l.files - l.at
