use Rattle.std.proofs.Common.{◌≡◌, sym, ◌∙◌, ap}
use Rattle.std.specs.Prelude.{Some, None, option_map}
use Rattle.hgs_judge.specs.Trees.{path_of, row_for}
use Rattle.hgs_judge.proofs.SearchLemmas.{no-row, row-there}
use Rattle.hgs_judge.proofs.trees.found_in_rows.Goals as goal

pub returns-in-Some : goal.returns-in-Some
returns-in-Some c = λ a.
    let path = c.args.path.now in
    let row = c.row-row.result in
    let is : row.path.now ≡ path = ap (elim [ None ↦ row.path.now | Some p ↦ p ]) (sym (ap (option_map path_of) c.row-row.ensures) ∙ c.in-Some.ensures.stands) in
    (λ i. Some (Some (record { path = sym is i; node = row.node.0; flag = row.flag })))
    ∙ ap Some (sym (row-there c.args.rows.now path c.in-Some.at _ a c.row-row.ensures is))
    ∙ ap (λ b. Some (row_for b path c.args.rows.now)) (sym c.if-not-tracked.false)

pub returns-in-None : goal.returns-in-None
returns-in-None c = λ a.
    let path = c.args.path.now in
    ap Some (sym (no-row c.args.rows.now path (c.in-None.ensures.lacks a)))
    ∙ ap (λ b. Some (row_for b path c.args.rows.now)) (sym c.if-not-tracked.false)
