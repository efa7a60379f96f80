use Rattle.std.proofs.Common.{◌≡◌, take, map}
use Rattle.hgs_findings.specs.Sight as sight
use Rattle.hgs_findings.specs.Sight.{Sight, seen}
use Rattle.hgs_judge.specs.Changesets.{changeset_as}
use Rattle.hgs_judge.specs.Kinds.{namings_in}
use Rattle.hgs_judge.proofs.changesets.manifest_namings.Given as goal

abbrev pub invariant-loop-changeset : goal.invariant-loop-changeset
invariant-loop-changeset l = (s : Sight) → l.changesets ≡ map changeset_as (seen s) → namings_in l.namings.items ≡ map (sight.manifest_naming (seen s)) (take l.changeset-index (seen s))
