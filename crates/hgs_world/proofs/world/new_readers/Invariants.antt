use Rattle.std.proofs.Common.{◌≡◌, map, replicate, length}
use Rattle.hgs_world.specs.Questions.{no_sight, sight_of}
use Rattle.hgs_world.proofs.world.new_readers.Given as goal

abbrev pub invariant-loop-i : goal.invariant-loop-i
invariant-loop-i l = record {
  sights : map sight_of l.readers.items ≡ replicate l.i no_sight;
  count : length l.readers.items ≡ l.i;
}
