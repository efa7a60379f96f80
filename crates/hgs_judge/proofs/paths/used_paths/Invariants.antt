use Rattle.std.proofs.Common.{◌≡◌, ◌≤◌, [], drop, length, map}
use Rattle.std.specs.Prelude.{flat_map, unwrap_or, option_map}
use Rattle.hgs_findings.specs.Sight.{Sight, row_paths, seen, tracked_rows}
use Rattle.hgs_model.specs.History.{in_order}
use Rattle.hgs_judge.specs.Changesets.{changeset_as}
use Rattle.hgs_judge.specs.Paths.{AreEntered}
use Rattle.hgs_judge.specs.Trees.{rows_read}
use Rattle.hgs_judge.proofs.PathLemmas.{paths_of_seen}
use Rattle.hgs_judge.proofs.paths.used_paths.Given as goal

abbrev pub invariant-loop-left : goal.invariant-loop-left
invariant-loop-left l = record {
  within : l.left ≤ length l.changesets;
  keys : (s : Sight) → l.trees ≡ map rows_read s.manifest → l.changesets ≡ map changeset_as (seen s) → l.paths.keys ≡ in_order (flat_map paths_of_seen (drop l.left (seen s)));
  last : AreEntered (row_paths (tracked_rows (unwrap_or (option_map (λ rows. rows.now) l.last) []))) l.paths.keys;
}

abbrev pub decreases-loop-left : goal.decreases-loop-left
decreases-loop-left l = l.left
