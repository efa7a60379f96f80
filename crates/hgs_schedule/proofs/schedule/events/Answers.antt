use Rattle.std.proofs.Common.{Ok, Some, ◌∙◌, ap, arith, rules, length}
use Rattle.std.proofs.lemmas.List.{length_push}
use Rattle.hgs_schedule.proofs.ReadLemmas.{event_refused, events_end, event_more, event_fewer}
use Rattle.hgs_schedule.proofs.schedule.events.Goals as goal

pub returns-in_err-event : goal.returns-in_err-event
returns-in_err-event c =
    let room = c.loop-events.invariant.room in
    let refused = event_refused c.args.readers _ c.loop-events.events c.loop-events.input c.in_err-event.field-0.0 _ (omega (arith, room)) c.loop-events.invariant.read c.in_err-event.ensures in
    search (rules, refused)

pub loop-events-smaller : goal.loop-events-smaller
loop-events-smaller c =
    let read = c.in_ok-event.ensures ∙ ap (λ o. Ok (o, c.event.new.input)) c.in-Some.is in
    event_fewer c.records_stand_in_front.ensures.is c.imports_stand_in_front.ensures.is c.args.readers c.loop-events.input (Some c.in-Some.event, c.event.new.input) read

pub loop-events-preserved : goal.loop-events-preserved
loop-events-preserved c =
    let read = c.in_ok-event.ensures ∙ ap (λ o. Ok (o, c.event.new.input)) c.in-Some.is in
    let fewer = event_fewer c.records_stand_in_front.ensures.is c.imports_stand_in_front.ensures.is c.args.readers c.loop-events.input (Some c.in-Some.event, c.event.new.input) read in
    let room = c.loop-events.invariant.room in
    let count = ap length c.in_ok-push.ensures.ok ∙ length_push c.loop-events.events c.in-Some.event in
    record {
      read = event_more c.args.readers _ _ c.loop-events.events c.push.new.self c.in-Some.event c.loop-events.input c.event.new.input _ (omega (arith, room)) (omega (arith, count)) c.loop-events.invariant.read read c.in_ok-push.ensures.ok;
      room = omega (arith, room, fewer, count);
    }

pub returns : goal.returns
returns c =
    let room = c.loop-events.invariant.room in
    events_end c.args.readers _ c.loop-events.events c.loop-events.input c.event.new.input _ (omega (arith, room)) c.loop-events.invariant.read
    (c.in_ok-event.ensures ∙ ap (λ o. Ok (o, c.event.new.input)) c.in_default.is)
