use Rattle.std.proofs.Common.{Ok, ◌∙◌, ap, arith, rules, length}
use Rattle.std.proofs.lemmas.List.{length_push}
use Rattle.hgs_input.proofs.ImportLemmas.{record_fewer, record_more, record_refused, records_end}
use Rattle.hgs_input.proofs.input.Input.import.Goals as goal

pub returns-in_err-change : goal.returns-in_err-change
returns-in_err-change c =
    let room = c.loop-changes.invariant.room in
    let refused = record_refused _ c.len.result c.loop-changes.changes c.loop-changes.self c.in_err-change.field-0.0 _ c.len.ensures (omega (arith, room)) c.loop-changes.invariant.read c.in_err-change.ensures in
    search (rules, refused)

pub loop-changes-smaller : goal.loop-changes-smaller
loop-changes-smaller c =
    let read = c.in_ok-change.ensures ∙ ap (λ o. Ok (o, c.next_record.new.self)) c.in-Some.is in
    record_fewer c.len.result c.loop-changes.self c.next_record.new.self c.in-Some.change read

pub loop-changes-preserved : goal.loop-changes-preserved
loop-changes-preserved c =
    let read = c.in_ok-change.ensures ∙ ap (λ o. Ok (o, c.next_record.new.self)) c.in-Some.is in
    let fewer = record_fewer c.len.result c.loop-changes.self c.next_record.new.self c.in-Some.change read in
    let room = c.loop-changes.invariant.room in
    let count = ap length c.in_ok-push.ensures.ok ∙ length_push c.loop-changes.changes c.in-Some.change in
    record {
      read = record_more _ _ c.len.result c.loop-changes.changes c.push.new.self c.in-Some.change c.loop-changes.self c.next_record.new.self _ c.len.ensures (omega (arith, room)) (omega (arith, count)) c.loop-changes.invariant.read read c.in_ok-push.ensures.ok;
      room = omega (arith, room, fewer, count);
    }

pub returns : goal.returns
returns c =
    let room = c.loop-changes.invariant.room in
    records_end _ c.len.result c.loop-changes.changes c.loop-changes.self c.next_record.new.self _ c.len.ensures (omega (arith, room)) c.loop-changes.invariant.read
    (c.in_ok-change.ensures ∙ ap (λ o. Ok (o, c.next_record.new.self)) c.in_default.is)
