use Rattle.std.proofs.Common.{◌≡◌, ◌≤◌, ◌-◌, ◌++◌, length, drop, map}
use Rattle.hgs_commit.proofs.walk.Walk.pass_all.Given as goal

abbrev pub invariant-loop-self : goal.invariant-loop-self
invariant-loop-self l = record {
  within : l.self-inside.next ≤ length l.self-inside.manifest.now;
  told : l.passed.items ++ map (λ r. r.path) (drop l.self-inside.next l.self-inside.manifest.now) ≡ l.fn.passed.items ++ map (λ r. r.path) l.fn.self;
}

abbrev pub decreases-loop-self : goal.decreases-loop-self
decreases-loop-self l = length l.self-inside.manifest.now - l.self-inside.next
