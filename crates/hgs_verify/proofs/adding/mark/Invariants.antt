use Rattle.std.proofs.Common.{◌≡◌, ℕ, ◌<◌, ◌≤◌, ◌||◌, false, get_or, length}
use Rattle.hgs_verify.proofs.adding.mark.Given as goal

abbrev pub invariant-loop-at : goal.invariant-loop-at
invariant-loop-at l = record {
  count : length l.marks ≡ length l.initial.marks;
  done : (k : ℕ) → k < l.at → get_or l.marks k false ≡ (get_or l.initial.marks k false || get_or l.more k false);
  rest : (k : ℕ) → l.at ≤ k → get_or l.marks k false ≡ get_or l.initial.marks k false;
}
