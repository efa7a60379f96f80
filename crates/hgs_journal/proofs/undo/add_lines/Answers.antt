use Rattle.std.specs.Slice.Iter.{iter_rest}
use Rattle.std.specs.Iterator.Adapters.{rev_source}
use Rattle.hgs_journal.specs.Texts.{HasPath}
use Rattle.hgs_journal.proofs.UndoSteps.{one_undone, all_front}
use Rattle.hgs_journal.proofs.undo.add_lines.Goals as goal

pub loop-line-preserved : goal.loop-line-preserved
loop-line-preserved c = record {
  left = one_undone c.loop-line.ops.items c.push.new.self.items _ (iter_rest (rev_source c.loop-line.line-iterator)) (iter_rest (rev_source c.next.new.self)) c.in-Some.line.now c.in_ok-undo_line.field-0 c.loop-line.invariant.left c.in-Some.ensures.steps c.in_ok-undo_line.ensures c.in_ok-push.ensures.items;
  paths = all_front HasPath (iter_rest (rev_source c.loop-line.line-iterator)) (iter_rest (rev_source c.next.new.self)) c.in-Some.line.now c.loop-line.invariant.paths c.in-Some.ensures.steps;
}
