use Rattle.std.proofs.Common.{◌≡◌, ◌-◌, ◌<◌, ◌≤◌}
use Rattle.hgs_branches.specs.Windows.{chunk_span, on_over, window_of}
use Rattle.hgs_branches.proofs.window.run_from.Given as goal

abbrev pub invariant-loop-end : goal.invariant-loop-end
invariant-loop-end l = record {
  goes_on : on_over (chunk_span l.fn.log) (record { span = l.span; end = l.end }) (l.fn.upto - l.end) ≡ window_of l.fn.log l.fn.rev l.fn.upto;
  within : l.end ≤ l.fn.upto;
}

abbrev pub decreases-loop-end : goal.decreases-loop-end
decreases-loop-end l = l.upto - l.end
