use Rattle.std.proofs.Common.{◌≡◌, ◌≤◌, ◌*◌, ℕ, length}
use Rattle.hgs_branch.specs.Reached.{wide_at, AreMarked, IsLeftWithin, Reached}
use Rattle.hgs_branch.proofs.reach.spread.Given as goal

abbrev pub invariant-loop-next : goal.invariant-loop-next
invariant-loop-next l = record {
  wide : (c : ℕ) → wide_at l.reaches.items c ≡ wide_at l.fn.reaches.items c;
  marks_wide : length l.marks.items ≡ length l.fn.marks.items;
  reached : length l.known ≤ 64 * length l.fn.marks.items → Reached l.known l.fn.heads.items l.fn.reaches.items → IsLeftWithin l.fn.reaches.items l.fn.new (length l.known) → Reached l.known l.heads.items l.reaches.items × AreMarked l.reaches.items l.marks.items l.fn.new l.rev;
}

abbrev pub decreases-loop-next : goal.decreases-loop-next
decreases-loop-next l = l.rev
