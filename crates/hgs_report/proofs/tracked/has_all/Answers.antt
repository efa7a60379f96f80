use Rattle.std.proofs.Common.{◌≡◌, suc, ◌+◌, take, sym, ◌∙◌, ap, arith}
use Rattle.std.specs.List.{list_all}
use Rattle.hgs_findings.specs.Sight.{row_paths, tracked_rows}
use Rattle.hgs_manifest.specs.Held.{view_row}
use Rattle.hgs_report.specs.Lines.{has_key}
use Rattle.hgs_report.proofs.TrackedLemmas.{kept-more, not-kept}
use Rattle.hgs_report.proofs.tracked.has_all.Goals as goal

pub returns-then-not-is_kept : goal.returns-then-not-is_kept
returns-then-not-is_kept c = sym (not-kept (has_key c.args.set.now.keys) c.args.rows.now c.loop-i.i (view_row c.row.result) c.row.ensures (sym c.is_kept.ensures ∙ c.if-not-is_kept.true))

pub loop-i-preserved : goal.loop-i-preserved
loop-i-preserved c =
    ap (λ n. list_all (has_key c.args.set.now.keys) (row_paths (tracked_rows (take n c.args.rows.now)))) (let e : c.loop-i.i + 1 ≡ suc c.loop-i.i = omega arith in e)
    ∙ kept-more (has_key c.args.set.now.keys) c.args.rows.now c.loop-i.i (view_row c.row.result) c.row.ensures c.loop-i.invariant (sym c.is_kept.ensures ∙ c.if-not-is_kept.false)
