use Rattle.std.proofs.Common.{◌≡◌, ◌∙◌, ◌+◌, ◌-◌, ℕ, suc, subst, arith}
use Rattle.hgs_branches.specs.Windows.{chunk_span, longer, on_over, window_of}
use Rattle.hgs_branches.proofs.WindowLemmas.{on_more, on_stop}
use Rattle.hgs_branches.proofs.window.run_from.Goals.{then-chunk-span-via-then-chunk-span, then-chunk-span-via-else-chunk-span+then-chunk-span-2}
use Rattle.hgs_branches.proofs.window.run_from.Goals as goal

pub returns-then-chunk-span : goal.returns-then-chunk-span
returns-then-chunk-span c =
    let lt = c.loop-end-test.true in
    elim c.then-chunk-span.branch [
      | then-chunk-span-via-then-chunk-span w ↦ on_stop c.args.log.now c.loop-end.span c.span_in_file-chunk.result c.loop-end.end c.args.upto lt c.span_in_file-chunk.ensures (λ e few. let less = w.if-chunk-span.true in omega (arith, less, e)) ∙ c.loop-end.invariant.goes_on
      | then-chunk-span-via-else-chunk-span+then-chunk-span-2 w ↦ on_stop c.args.log.now c.loop-end.span c.span_in_file-chunk.result c.loop-end.end c.args.upto lt c.span_in_file-chunk.ensures (λ e few. let other = w.if-chunk-span-2.true in omega (arith, other, e)) ∙ c.loop-end.invariant.goes_on
    ]

pub loop-end-preserved : goal.loop-end-preserved
loop-end-preserved c =
    let lt = c.loop-end-test.true in
    let low = c.if-chunk-span.false in
    let behind = c.if-chunk-span-2.false in
    let short = c.if-span-gt-MOST_WINDOW.false in
    let few = c.if-chunk-span-3.false in
    let next : suc c.loop-end.end ≡ c.loop-end.end + 1 = omega arith in
    let P : ℕ → Type 0 = λ n. on_over (chunk_span c.args.log.now) (record { span = longer c.loop-end.span c.span_in_file-chunk.result; end = n }) (c.args.upto - n) ≡ window_of c.args.log.now c.args.rev c.args.upto in
    record {
      goes_on = subst P next (on_more c.args.log.now c.loop-end.span c.span_in_file-chunk.result c.loop-end.end c.args.upto lt c.span_in_file-chunk.ensures (omega (arith, low, behind)) (omega (arith, short, few)) ∙ c.loop-end.invariant.goes_on);
      within = omega (arith, lt);
    }
