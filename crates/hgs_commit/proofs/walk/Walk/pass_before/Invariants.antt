use Rattle.std.proofs.Common.{◌≡◌, ◌≤◌, ◌-◌, ◌++◌, length, drop, map}
use Rattle.hgs_commit.specs.Walk.{before, from_path}
use Rattle.hgs_commit.proofs.walk.Walk.pass_before.Given as goal

abbrev pub invariant-loop-self : goal.invariant-loop-self
invariant-loop-self l = record {
  within : l.self-inside.next ≤ length l.self-inside.manifest.now;
  rest : from_path l.path (drop l.self-inside.next l.self-inside.manifest.now) ≡ from_path l.path l.fn.self;
  told : l.passed.items ++ map (λ r. r.path) (before l.path (drop l.self-inside.next l.self-inside.manifest.now)) ≡ l.fn.passed.items ++ map (λ r. r.path) (before l.path l.fn.self);
}

abbrev pub decreases-loop-self : goal.decreases-loop-self
decreases-loop-self l = length l.self-inside.manifest.now - l.self-inside.next
