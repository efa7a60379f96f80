use Rattle.std.proofs.Common.{◌≡◌, ◌++◌, ◌<◌, ◌^◌, true, length}
use Rattle.std.specs.List.{All, list_all}
use Rattle.hgs_index.specs.TrackedPath.{is_tracked}
use Rattle.hgs_model.specs.Valid.{new_paths}
use Rattle.hgs_commit.proofs.written.new_paths.Given as goal

abbrev pub invariant-loop-file : goal.invariant-loop-file
invariant-loop-file l = record {
  so_far : l.paths ++ new_paths l.rest ≡ new_paths l.fn.files;
  short : All (λ path. length path < 2 ^ 32) l.paths;
  tracked : list_all is_tracked (new_paths l.rest) ≡ true;
}

abbrev pub decreases-loop-file : goal.decreases-loop-file
decreases-loop-file l = length l.rest
