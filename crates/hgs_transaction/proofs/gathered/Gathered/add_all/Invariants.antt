use Rattle.std.proofs.Common.{◌≡◌, ◌++◌, length}
use Rattle.std.specs.List.{All}
use Rattle.std.specs.Vec.Iter.{into_iter_items, into_iter_len}
use Rattle.hgs_journal.specs.Texts.{HasPath}
use Rattle.hgs_transaction.specs.Gathered.{Adds}
use Rattle.hgs_transaction.proofs.gathered.Gathered.add_all.Given as goal

abbrev pub invariant-loop-change : goal.invariant-loop-change
invariant-loop-change l = record {
  split : l.yielded ++ into_iter_items l.change-iterator ≡ into_iter_items l.initial.change-iterator;
  count : into_iter_len l.change-iterator ≡ length (into_iter_items l.change-iterator);
  adds : Adds l.fn.self l.self l.yielded;
  paths : All HasPath l.self.journal.items;
}
