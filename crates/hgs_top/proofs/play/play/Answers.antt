use Rattle.std.proofs.Common.{rules, ◌≡◌, ◌∷◌, length, sym, ap, subst, ◌∙◌, arith}
use Rattle.std.specs.List.{AllByRecursion}
use Rattle.std.specs.Vec.Iter.{into_iter_items}
use Rattle.hgs_files.specs.Streams.{IsWritten}
use Rattle.hgs_schedule.specs.Schedule.{CanCome}
use Rattle.hgs_top.proofs.PlayLemmas.{HasPlayed, all_played, begun, next, no_memory, no_world, not_taken, nothing-left}
use Rattle.hgs_top.specs.Run.{IsCut}
use Rattle.hgs_world.specs.World.{scene_of}
use Rattle.hgs_top.proofs.play.play.Goals as goal

pub returns-in_default-clause-plays : goal.returns-in_default-clause-plays
returns-in_default-clause-plays g c = no_world c.args.schedule c.end_with.result (g.K.Sink.written c.args.out.now) (g.K.Sink.written c.end_with.new.out) c.end_with.ensures.line

pub loop-event-init : goal.loop-event-init
loop-event-init g c =
    let s = c.args.schedule in
    let out = g.K.Sink.written c.args.out.now in
    let first = scene_of c.in-Ok.repository in
    let gives = c.into_iter-event-iterator.ensures.into_iter_gives in
    let all : into_iter_items c.into_iter-event-iterator.result ≡ s.events = gives.0 ∙ c.into_vec-event-items.ensures in record {
      lens = search rules;
      count = c.in-Ok.ensures.readers;
      can = subst (AllByRecursion (CanCome s.readers)) (sym all) c.requires;
      played = subst (λ l. HasPlayed s l first out out) (sym all) (begun s first out c.in-Ok.ensures.first);
      later = omega arith;
    }

pub returns-in-Err-clause-plays : goal.returns-in-Err-clause-plays
returns-in-Err-clause-plays g c =
    let s = c.args.schedule in
    let at = c.loop-event in
    let old = g.K.Sink.written c.args.out.now in
    let between = g.K.Sink.written at.out in
    let new = g.K.Sink.written c.write_all.new.out in
    let steps : into_iter_items at.event-iterator ≡ c.in-Some.event ∷ into_iter_items c.next.new.self = c.in-Some.ensures.steps.0 in
    not_taken s c.in-Some.event (into_iter_items c.next.new.self) (scene_of at.repository) (scene_of c.step.new.self) old between new c.in-Text.text.items c.in-Err.fault c.status_of_fault.result
    (subst (λ l. HasPlayed s l (scene_of at.repository) old between) steps at.invariant.played) c.in-Text.ensures.seen.1 (subst (λ b. IsCut between new b) c.deref.ensures.value c.in-Err.ensures.err) c.status_of_fault.ensures

pub loop-event-preserved : goal.loop-event-preserved
loop-event-preserved g c =
    let s = c.args.schedule in
    let at = c.loop-event in
    let old = g.K.Sink.written c.args.out.now in
    let between = g.K.Sink.written at.out in
    let new = g.K.Sink.written c.write_all.new.out in
    let steps : into_iter_items at.event-iterator ≡ c.in-Some.event ∷ into_iter_items c.next.new.self = c.in-Some.ensures.steps.0 in record {
      lens =
          let was = at.invariant.lens in
          let gone = c.in-Some.ensures.steps.1 in
          let short = ap (λ l. length l) steps in
          omega arith;
      count = c.step.ensures.readers ∙ at.invariant.count;
      can = (subst (AllByRecursion (CanCome s.readers)) steps at.invariant.can).1;
      played = next s c.in-Some.event (into_iter_items c.next.new.self) (scene_of at.repository) (scene_of c.step.new.self) old between new c.in-Text.text.items
          (subst (λ l. HasPlayed s l (scene_of at.repository) old between) steps at.invariant.played) c.in-Text.ensures.seen.1 (subst (λ b. IsWritten between new b) c.deref.ensures.value c.in-Ok-write_all.ensures.ok);
      later =
          let was = at.invariant.later in
          let more = c.write_all.ensures.later in
          omega arith;
    }

pub returns-in-Memory-clause-plays : goal.returns-in-Memory-clause-plays
returns-in-Memory-clause-plays g c =
    let at = c.loop-event in
    no_memory c.args.schedule (into_iter_items at.event-iterator) (scene_of at.repository) (g.K.Sink.written c.args.out.now) (g.K.Sink.written at.out) (g.K.Sink.written c.end_with-in-Memory.new.out) c.end_with-in-Memory.result at.invariant.played
    c.end_with-in-Memory.ensures.line

pub returns-clause-plays : goal.returns-clause-plays
returns-clause-plays g c =
    let at = c.loop-event in
    let none = c.in-None.ensures.steps in
    all_played c.args.schedule (into_iter_items at.event-iterator) (scene_of at.repository) (g.K.Sink.written c.args.out.now) (g.K.Sink.written at.out) at.invariant.played (nothing-left _ (sym at.invariant.lens ∙ none.0))
