use Rattle.std.proofs.Common.{◌≡◌, ◌++◌, length}
use Rattle.std.specs.Vec.Iter.{into_iter_items, into_iter_len}
use Rattle.hgs_transaction.proofs.puts.extend.Given as goal

abbrev pub invariant-loop-op : goal.invariant-loop-op
invariant-loop-op l = record {
  left : l.ops.items ++ into_iter_items l.op-iterator ≡ l.fn.ops.items ++ into_iter_items l.initial.op-iterator;
  count : into_iter_len l.op-iterator ≡ length (into_iter_items l.op-iterator);
}
