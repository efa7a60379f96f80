use Rattle.std.proofs.Common.{◌≡◌, map, take}
use Rattle.hgs_index.specs.declared.entry.Entry.{Entry}
use Rattle.hgs_members.proofs.eval.history_of.Given as goal

abbrev pub invariant-loop-rev : goal.invariant-loop-rev
invariant-loop-rev l = l.history.items ≡ map (λ (e : Entry). (e.p1, e.p2)) (take l.rev l.known.entries)
