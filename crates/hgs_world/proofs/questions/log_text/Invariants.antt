use Rattle.std.proofs.Common.{◌≡◌, ◌≤◌, ◌++◌, length}
use Rattle.hgs_mem.specs.Steady.{steady_log, steady_start, steady_tree}
use Rattle.hgs_world.specs.Questions.{lines_below}
use Rattle.hgs_world.proofs.questions.log_text.Given as goal

abbrev pub invariant-loop-left : goal.invariant-loop-left
invariant-loop-left l = record {
  text : lines_below (steady_tree l.initial.files) l.initial.session (length l.initial.session.changelog.entries) ≡ l.text.items ++ lines_below (steady_tree l.initial.files) l.initial.session l.left;
  within : l.left ≤ length l.initial.session.changelog.entries;
  kept : l.session ≡ l.initial.session;
  log : steady_log l.files ≡ steady_log l.initial.files;
  same_start : steady_start l.files ≡ steady_start l.initial.files;
}

abbrev pub decreases-loop-left : goal.decreases-loop-left
decreases-loop-left l = l.left
