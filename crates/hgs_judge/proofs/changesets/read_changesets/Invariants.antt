use Rattle.std.proofs.Common.{◌≡◌, ℕ, List, take, map}
use Rattle.hgs_findings.specs.Sight.{Sight, seen_of}
use Rattle.hgs_judge.specs.Changesets.{changeset_as}
use Rattle.hgs_judge.specs.Read.{AreRead, revisions_in}
use Rattle.hgs_judge.proofs.changesets.read_changesets.Given as goal

abbrev pub invariant-loop-rev : goal.invariant-loop-rev
invariant-loop-rev l = (manifest_bytes : List ℕ) (s : Sight) → AreRead l.manifest.log.entries manifest_bytes → s.changelog ≡ revisions_in l.changelog.log.entries l.data_bytes → s.manifest ≡ revisions_in l.manifest.log.entries manifest_bytes
    → l.all.items ≡ map (λ r. changeset_as (seen_of s r)) (take l.rev s.changelog)
