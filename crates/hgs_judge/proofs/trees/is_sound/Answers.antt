use Rattle.std.proofs.Common.{◌≡◌, suc, ◌+◌, true, false, not, take, sym, ◌∙◌, ap, arith}
use Rattle.std.specs.Prelude.{is_ok}
use Rattle.std.specs.List.{list_all}
use Rattle.hgs_index.specs.TrackedPath.{is_tracked}
use Rattle.hgs_findings.specs.Regular.{are_tracked}
use Rattle.hgs_findings.specs.Sight.{row_paths}
use Rattle.hgs_manifest.specs.Held.{view_row}
use Rattle.hgs_path.specs.Check.{checked}
use Rattle.hgs_judge.proofs.TreeLemmas.{tracked-more, untracked}
use Rattle.hgs_judge.proofs.trees.is_sound.Goals as goal

pub returns-then-is_err : goal.returns-then-is_err
returns-then-is_err c =
    let path = c.row.result.path.now in
    let check : c.check.result ≡ checked path = c.check.ensures in
    let other : is_tracked path ≡ false = sym (c.tracked_without_fault.ensures path) ∙ ap is_ok (sym check) ∙ c.is_err.ensures.negation ∙ ap not c.if-is_err.true in
    sym (ap are_tracked c.in-Some.is ∙ untracked c.in-Some.rows c.loop-i.i (view_row c.row.result) c.row.ensures other)

pub loop-i-preserved : goal.loop-i-preserved
loop-i-preserved c =
    let path = c.row.result.path.now in
    let check : c.check.result ≡ checked path = c.check.ensures in
    let one : is_tracked path ≡ true = sym (c.tracked_without_fault.ensures path) ∙ ap is_ok (sym check) ∙ c.is_err.ensures.negation ∙ ap not c.if-is_err.false in
    let next : c.loop-i.i + 1 ≡ suc c.loop-i.i = omega arith in
    ap (λ n. list_all is_tracked (row_paths (take n c.in-Some.rows))) next ∙ tracked-more c.in-Some.rows c.loop-i.i (view_row c.row.result) c.row.ensures c.loop-i.invariant one
