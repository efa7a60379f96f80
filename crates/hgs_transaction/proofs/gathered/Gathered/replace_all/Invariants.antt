use Rattle.std.proofs.Common.{◌≡◌, ◌++◌, length, map}
use Rattle.std.specs.Vec.Iter.{into_iter_items, into_iter_len}
use Rattle.hgs_transaction.specs.Gathered.{Adds}
use Rattle.hgs_transaction.specs.declared.parts.Change.TheVariants.{Replace}
use Rattle.hgs_transaction.proofs.gathered.Gathered.replace_all.Given as goal

abbrev pub invariant-loop-replacing : goal.invariant-loop-replacing
invariant-loop-replacing l = record {
  split : l.yielded ++ into_iter_items l.replacing-iterator ≡ into_iter_items l.initial.replacing-iterator;
  count : into_iter_len l.replacing-iterator ≡ length (into_iter_items l.replacing-iterator);
  adds : Adds l.fn.self l.self (map (λ x. Replace x) l.yielded);
}
