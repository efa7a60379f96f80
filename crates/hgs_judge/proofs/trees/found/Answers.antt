use Rattle.std.proofs.Common.{◌≡◌, sym, ◌∙◌, ap, arith}
use Rattle.std.proofs.lemmas.Grind.{common_steps}
use Rattle.std.proofs.lemmas.Option.{gets}
use Rattle.std.specs.Prelude.{Some, option_map, slice_get}
use Rattle.hgs_judge.specs.Trees.{row_for, rows_in_tree, rows_or_none}
use Rattle.hgs_judge.proofs.SearchLemmas.{tree-ascends}
use Rattle.hgs_judge.proofs.trees.found.Goals as goal

pub returns-in-Some-Some : goal.returns-in-Some-Some
returns-in-Some-Some c = λ revisions is.
    let path = c.args.path.now in
    let at : slice_get c.args.trees.now c.in-Manifest.rev ≡ Some (Some c.in-Some-Some.rows) = grind (arith, common_steps, gets) in
    c.found_in_rows.ensures (tree-ascends revisions c.args.trees.now c.in-Manifest.rev c.in-Some-Some.rows is at)
    ∙ ap (λ o. option_map (row_for c.args.tracked path) (rows_or_none o)) (sym at)
    ∙ ap (λ t. option_map (row_for c.args.tracked path) (rows_in_tree c.args.trees.now t)) (sym c.in-Manifest.is)

pub returns-in-Some-None : goal.returns-in-Some-None
returns-in-Some-None c = λ revisions is. grind (arith, common_steps, gets)

pub returns-in-None : goal.returns-in-None
returns-in-None c = λ revisions is. grind (arith, common_steps, gets)
