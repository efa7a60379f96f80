use Rattle.std.proofs.Common.{◌≡◌, ◌≤◌}
use Rattle.hgs_top.specs.Windows.{back_over, chunk_span, window_of}
use Rattle.hgs_top.proofs.window.window_before.Given as goal

abbrev pub invariant-loop-first : goal.invariant-loop-first
invariant-loop-first l = record {
  goes_on : back_over (chunk_span l.fn.log) l.window l.first ≡ window_of l.fn.log l.fn.rev;
  within : l.first ≤ l.fn.rev;
}

abbrev pub decreases-loop-first : goal.decreases-loop-first
decreases-loop-first l = l.first
