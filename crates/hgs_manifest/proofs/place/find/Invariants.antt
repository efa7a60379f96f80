use Rattle.std.proofs.Common.{◌≡◌, drop, map}
use Rattle.hgs_manifest.specs.Held.{row_in, found_in}
use Rattle.hgs_manifest.proofs.place.find.Given as goal

abbrev pub invariant-loop-place : goal.invariant-loop-place
invariant-loop-place l = found_in l.path (map (row_in l.paths) (drop l.place-index l.places)) ≡ found_in l.path (map (row_in l.paths) l.places)
