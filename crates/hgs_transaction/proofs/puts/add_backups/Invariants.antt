use Rattle.std.proofs.Common.{◌≡◌, ◌+◌, ◌++◌, drop, length}
use Rattle.std.specs.Vec.Iter.{into_iter_items, into_iter_len}
use Rattle.hgs_transaction.specs.Gathered.{backup_puts}
use Rattle.hgs_transaction.proofs.puts.add_backups.Given as goal

abbrev pub invariant-loop-bytes : goal.invariant-loop-bytes
invariant-loop-bytes l = record {
  left : l.ops.items ++ backup_puts (drop l.place l.lines) (into_iter_items l.bytes-iterator) ≡ l.fn.ops.items ++ backup_puts l.lines (into_iter_items l.initial.bytes-iterator);
  count : into_iter_len l.bytes-iterator ≡ length (into_iter_items l.bytes-iterator);
  same : l.place + length (into_iter_items l.bytes-iterator) ≡ length l.lines;
}
