use Rattle.std.proofs.Common.{◌≡◌, ◌∙◌, ◌<◌, ◌≤◌, ◌*◌, List, ℕ, false, length, subst, sym}
use Rattle.hgs_branch.specs.Reached.{bit_of}
use Rattle.hgs_branch.proofs.HandLemmas.{passed_by}
use Rattle.hgs_branch.proofs.reach.spread.Goals as goal

pub loop-next-preserved : goal.loop-next-preserved
loop-next-preserved c = record {
  wide = λ i. c.pass_on.ensures.wide i ∙ c.loop-next.invariant.wide i;
  marks_wide = c.pass_on.ensures.marks_wide ∙ c.loop-next.invariant.marks_wide;
  reached = λ enough r w.
      let was = c.loop-next.invariant.reached enough r w in
      let next = c.in-Some.next in
      let passed = subst (λ (marks : List ℕ). (i : ℕ) → next < i → i < c.loop-next.rev → (i < c.args.new) × (bit_of marks i ≡ false)) c.deref.ensures.value c.in-Some.ensures.passed in
      c.pass_on.ensures.reached c.args.new (subst (λ n. length c.args.known.now ≤ 64 * n) (sym c.loop-next.invariant.marks_wide) enough) was.0
      (passed_by c.loop-next.reaches.items c.loop-next.marks.items c.args.new next c.loop-next.rev passed was.1);
}
