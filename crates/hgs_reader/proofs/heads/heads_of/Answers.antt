use Rattle.std.proofs.Common.{◌++◌, false, slice_index_or, ◌∙◌, ap, arith}
use Rattle.hgs_reader.specs.Heads.{line_unless, unmarked_from}
use Rattle.hgs_reader.proofs.HeadLemmas.{lines_on, lines_end, heads_are}
use Rattle.hgs_reader.proofs.heads.heads_of.Goals as goal

pub loop-rev-init : goal.loop-rev-init
loop-rev-init c = ap (λ l. l ++ unmarked_from c.in_ok-marks.marks.items 0 c.args.log.now.entries) c.new-lines.ensures.items

pub loop-rev-preserved : goal.loop-rev-preserved
loop-rev-preserved c =
    lines_on c.args.log.now.entries c.loop-rev.rev c.entry.result.now c.in_ok-marks.marks.items c.loop-rev.lines.items c.push_unless.new.into.items _ c.entry.ensures c.loop-rev.invariant
    (c.in_ok-push_unless.ensures
    ∙ ap (λ b. c.loop-rev.lines.items ++ line_unless b c.loop-rev.rev c.entry.result.now) (c.is_marked.ensures ∙ ap (λ l. slice_index_or l c.loop-rev.rev false) c.deref.ensures.value))

pub returns : goal.returns
returns c =
    let past = c.loop-rev-test.false in
    let n = c.len-rev-end.ensures in
    let entries = c.args.log.now.entries in
    lines_end entries c.loop-rev.rev c.in_ok-marks.marks.items c.loop-rev.lines.items _ (omega (arith, past, n)) c.loop-rev.invariant
    ∙ ap (λ m. unmarked_from m 0 entries) c.in_ok-marks.ensures ∙ heads_are entries
