use Rattle.std.proofs.Common.{◌≡◌, ◌++◌, length}
use Rattle.std.specs.Prelude.{flat_map}
use Rattle.std.specs.Vec.Iter.{into_iter_items, into_iter_len}
use Rattle.hgs_writer.specs.Joined.{laying}
use Rattle.hgs_writer.specs.Layered.{Lays}
use Rattle.hgs_writer.proofs.import.lay_changes.Given as goal

abbrev pub invariant-loop-change : goal.invariant-loop-change
invariant-loop-change g l = record {
  split : l.yielded ++ into_iter_items l.change-iterator ≡ into_iter_items l.initial.change-iterator;
  count : into_iter_len l.change-iterator ≡ length (into_iter_items l.change-iterator);
  lays : Lays l.fn.overlay.layers l.overlay.layers (flat_map laying l.yielded);
  files : l.overlay.files ≡ l.fn.overlay.files;
  denied : l.overlay.denied ≡ l.fn.overlay.denied;
}
