use Rattle.std.proofs.Common.{◌≡◌, sym, ◌∙◌, ap}
use Rattle.std.specs.Prelude.{Some, slice_get}
use Rattle.std.proofs.lemmas.Option.{slice_get-get_or, slice_get_past}
use Rattle.hgs_findings.specs.Findings.{have_same}
use Rattle.hgs_findings.specs.Sight.{row_paths, tracked_rows}
use Rattle.hgs_judge.specs.Trees.{rows_in_tree, rows_or_none}
use Rattle.hgs_report.proofs.TrackedLemmas.{others-none, others-some, others-unknown}
use Rattle.hgs_report.proofs.tracked.are_others.Goals as goal

pub returns-in-Empty : goal.returns-in-Empty
returns-in-Empty c = others-none c.args.trees.now c.args.tree.now c.args.paths.now (ap (rows_in_tree c.args.trees.now) c.in-Empty.is) c.len.result c.len.ensures

pub returns-in_ok-same-in-Some-Some : goal.returns-in_ok-same-in-Some-Some
returns-in_ok-same-in-Some-Some c =
    let trees = c.args.trees.now in
    let rev = c.in-Manifest.rev in
    let rows = c.in-Some-Some.rows in
    let whole = c.in-Some-Some.field-0.now in
    let found = c.in-Some-Some.ensures.lookup.3 in
    let at : slice_get trees rev ≡ Some (Some rows) = slice_get-get_or trees rev whole found.0 ∙ ap Some (sym (found.1 whole) ∙ c.in-Some-Some.field-0-is) in
    others-some trees c.args.tree.now c.args.paths.now rows c.in_ok-same-in-Some-Some.same (ap (rows_in_tree trees) c.in-Manifest.is ∙ ap rows_or_none at)
    (c.in_ok-same-in-Some-Some.ensures ∙ ap (λ l. have_same l (row_paths (tracked_rows rows))) c.as_slice.ensures)

pub returns-in-Some-None : goal.returns-in-Some-None
returns-in-Some-None c =
    let trees = c.args.trees.now in
    let rev = c.in-Manifest.rev in
    let whole = c.in-Some-None.field-0.now in
    let found = c.in-Some-None.ensures.lookup.3 in
    let at : slice_get trees rev ≡ Some whole = slice_get-get_or trees rev whole found.0 ∙ ap Some (sym (found.1 whole)) in
    others-unknown trees c.args.tree.now c.args.paths.now (ap (rows_in_tree trees) c.in-Manifest.is ∙ ap rows_or_none at ∙ c.in-Some-None.field-0-is)

pub returns-in-None : goal.returns-in-None
returns-in-None c =
    let trees = c.args.trees.now in
    others-none trees c.args.tree.now c.args.paths.now (ap (rows_in_tree trees) c.in-Manifest.is ∙ ap rows_or_none (slice_get_past trees c.in-Manifest.rev c.in-None.ensures.lookup.3)) c.len-in-None.result c.len-in-None.ensures
