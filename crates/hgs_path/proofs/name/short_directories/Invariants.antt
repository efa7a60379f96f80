use Rattle.std.proofs.Common.{◌≡◌, ◌≤◌, ◌++◌, ◌∷◌, [], length, map}
use Rattle.std.specs.Prelude.{flat_map}
use Rattle.hgs_bytes.specs.Path.{components}
use Rattle.hgs_path.specs.StoreName.{short_directories, short_directory, directories, fitting}
use Rattle.hgs_path.proofs.name.short_directories.Given as goal

abbrev pub invariant-loop-directory : goal.invariant-loop-directory
invariant-loop-directory l = record {
  left : l.out.items ++ flat_map (λ d. d ++ 47 ∷ []) (fitting (length l.out.items) (map short_directory (directories (components l.rest)))) ≡ short_directories (components l.name);
  small : length l.out.items ≤ 69;
}

abbrev pub decreases-loop-directory : goal.decreases-loop-directory
decreases-loop-directory l = length l.rest
