use Rattle.std.proofs.Common.{◌≡◌, ◌++◌, length, map}
use Rattle.std.specs.Prelude.{flat_map}
use Rattle.std.specs.Vec.Iter.{into_iter_items, into_iter_len}
use Rattle.hgs_writer.specs.Joined.{laying}
use Rattle.hgs_writer.specs.Layered.{Lays}
use Rattle.hgs_transaction.specs.declared.parts.Change.TheVariants.{Replace}
use Rattle.hgs_writer.proofs.import.lay_texts.Given as goal

abbrev pub invariant-loop-replacing : goal.invariant-loop-replacing
invariant-loop-replacing g l = record {
  split : l.yielded ++ into_iter_items l.replacing-iterator ≡ into_iter_items l.initial.replacing-iterator;
  count : into_iter_len l.replacing-iterator ≡ length (into_iter_items l.replacing-iterator);
  lays : Lays l.fn.overlay.layers l.overlay.layers (flat_map laying (map (λ x. Replace x) l.yielded));
  files : l.overlay.files ≡ l.fn.overlay.files;
  denied : l.overlay.denied ≡ l.fn.overlay.denied;
}
