use Rattle.std.proofs.Common.{◌++◌, ◌∙◌, [], ap, arith, false}
use Rattle.std.specs.Prelude.{slice_index_or, if◌then◌else◌}
use Rattle.hgs_revlog.specs.Log.{nodes_of}
use Rattle.hgs_revset.specs.Text.{member_line, member_lines}
use Rattle.hgs_members.proofs.TextLemmas.{lines_end, lines_next}
use Rattle.hgs_members.proofs.text.lines_of.Goals as goal

pub loop-rev-init : goal.loop-rev-init
loop-rev-init c = ap (λ l. l ++ member_lines (λ rev. slice_index_or c.args.members.now rev false) 0 (nodes_of c.args.log.now.entries)) c.new-lines.ensures.items

pub loop-rev-preserved : goal.loop-rev-preserved
loop-rev-preserved c =
    lines_next c.args.log.now.entries c.loop-rev.rev c.entry.result.now (λ rev. slice_index_or c.args.members.now rev false) c.loop-rev.lines.items c.push_when.new.into.items _ c.entry.ensures c.loop-rev.invariant
    (c.in_ok-push_when.ensures ∙ ap (λ b. c.loop-rev.lines.items ++ (if b then member_line c.loop-rev.rev c.entry.result.now.node.0 else [])) c.has.ensures)

pub returns : goal.returns
returns c =
    let past = c.loop-rev-test.false in
    let n = c.len-rev-end.ensures in
    lines_end c.args.log.now.entries c.loop-rev.rev (λ rev. slice_index_or c.args.members.now rev false) c.loop-rev.lines.items _ (omega (arith, past, n)) c.loop-rev.invariant
