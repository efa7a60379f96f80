use Rattle.std.proofs.Common.{◌≡◌, ◌≤◌, length}
use Rattle.std.specs.List.{AllByRecursion}
use Rattle.hgs_schedule.specs.Schedule.{CanCome}
use Rattle.std.specs.Vec.Iter.{into_iter_items, into_iter_len}
use Rattle.hgs_world.specs.World.{scene_of}
use Rattle.hgs_top.proofs.PlayLemmas.{HasPlayed}
use Rattle.hgs_top.proofs.play.play.Given as goal

abbrev pub invariant-loop-event : goal.invariant-loop-event
invariant-loop-event g l = record {
  lens : into_iter_len l.event-iterator ≡ length (into_iter_items l.event-iterator);
  count : length l.repository.readers.items ≡ l.fn.schedule.readers;
  can : AllByRecursion (CanCome l.fn.schedule.readers) (into_iter_items l.event-iterator);
  played : HasPlayed l.fn.schedule (into_iter_items l.event-iterator) (scene_of l.repository) (g.K.Sink.written l.fn.out) (g.K.Sink.written l.out);
  later : g.K.Sink.faults l.fn.out ≤ g.K.Sink.faults l.out;
}
