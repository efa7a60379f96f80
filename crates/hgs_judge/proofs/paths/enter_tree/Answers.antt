use Rattle.std.proofs.Common.{◌≡◌, [], ◌∙◌, ap, sym, subst}
use Rattle.hgs_model.specs.History.{inserted}
use Rattle.hgs_findings.specs.Sight.{row_paths, tracked_rows}
use Rattle.hgs_judge.specs.Paths.{entered}
use Rattle.hgs_judge.specs.Trees.{rows_in_tree}
use Rattle.hgs_judge.proofs.EnteredLemmas.{entered-are, paths-of-rows}
use Rattle.hgs_judge.proofs.paths.enter_tree.Goals as goal

pub returns-clause-keys : goal.returns-clause-keys
returns-clause-keys c =
    c.in_ok-enter_rows.ensures ∙ ap (λ l. entered l c.args.paths.now.keys) (paths-of-rows (rows_in_tree c.args.trees.now c.args.tree.now) c.in-Some.rows.now c.in-Some.ensures)

pub returns-in_default-clause-keys : goal.returns-in_default-clause-keys
returns-in_default-clause-keys c =
    ap (λ l. entered l c.args.paths.now.keys) (paths-of-rows (rows_in_tree c.args.trees.now c.args.tree.now) [] c.in_default.ensures)

pub returns-clause-last : goal.returns-clause-last
returns-clause-last c = λ path e.
    let rows = c.in-Some.rows.now in
    let keys = c.in_ok-enter_rows.ensures in
    let was = entered-are (row_paths (tracked_rows rows)) c.args.paths.now.keys path e in
    subst (λ l. inserted path l ≡ l) (sym keys) was
