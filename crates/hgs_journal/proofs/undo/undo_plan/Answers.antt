use Rattle.std.proofs.Common.{◌++◌, map, reverse, ap, ◌∙◌}
use Rattle.hgs_journal.specs.Undo.{undo_line, undo_backups}
use Rattle.hgs_journal.proofs.UndoSteps.{whole_list}
use Rattle.hgs_journal.proofs.undo.undo_plan.Goals as goal

pub returns : goal.returns
returns c =
    whole_list c.args.journal.now.lines c.args.backups.now.lines c.args.kept.now c.in_ok-path.path c.add_lines.new.ops.items c.add_backups.new.ops.items c.push.new.self.items
    (c.in_ok-add_lines.ensures ∙ ap (λ ops. ops ++ map undo_line (reverse c.as_slice.result.now)) c.new-ops.ensures.items ∙ ap (λ ls. map undo_line (reverse ls)) c.as_slice.ensures)
    (c.in_ok-add_backups.ensures ∙ ap (λ ls. c.add_lines.new.ops.items ++ undo_backups ls c.args.kept.now) c.as_slice-2.ensures)
    c.in_ok-path.ensures c.in_ok-push.ensures.items
