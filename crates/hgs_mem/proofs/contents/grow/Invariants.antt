use Rattle.std.proofs.Common.{◌≡◌, ◌-◌, length}
use Rattle.hgs_mem.specs.Mem.{tree_of}
use Rattle.hgs_mem.specs.Shard.{files_in, no_files}
use Rattle.hgs_mem.proofs.contents.grow.Given as goal

abbrev pub invariant-loop-map : goal.invariant-loop-map
invariant-loop-map l = (tree_of l.map ≡ tree_of l.initial.map) × (files_in l.empty ≡ no_files)

abbrev pub decreases-loop-map : goal.decreases-loop-map
decreases-loop-map l = l.count - length l.map.shards.items
