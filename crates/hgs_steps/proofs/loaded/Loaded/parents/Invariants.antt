use Rattle.std.proofs.Common.{◌≡◌, drop, length}
use Rattle.hgs_steps.specs.Parents.{AreBelow, named_all, parents_answer, parents_behind}
use Rattle.hgs_steps.proofs.loaded.Loaded.parents.Given as goal

-- what was named so far, with what the names that are left name, is what all name
abbrev pub invariant-loop-name : goal.invariant-loop-name
invariant-loop-name l = record {
  named : parents_behind l.two.first l.two.second (named_all l.self (drop l.name-index l.fn.names)) ≡ parents_answer (named_all l.self l.fn.names);
  below : AreBelow l.two.first l.two.second (length l.self.changelog.entries);
}
