use Rattle.std.proofs.Common.{◌≡◌, suc, ◌+◌, ◌∷◌, [], ◌++◌, take, sym, ◌∙◌, ap, arith}
use Rattle.std.specs.Prelude.{Some, slice_get, true}
use Rattle.std.proofs.lemmas.Option.{slice_get-get_or}
use Rattle.hgs_path.specs.ListedNames.{is_listed}
use Rattle.hgs_report.specs.Names.{unused_files}
use Rattle.hgs_report.proofs.NameLemmas.{all-at, unused-more}
use Rattle.hgs_report.proofs.names.unused_files.Goals as goal

pub add_unused-requires : goal.add_unused-requires
add_unused-requires c =
    let i = c.loop-name.name-index in
    let item = c.name-item.result in
    let at : slice_get c.args.names.now i ≡ Some item = ap (λ l. slice_get l i) (sym c.as_slice-name-items.ensures) ∙ slice_get-get_or c.as_slice-name-items.result.now i item c.loop-name-test.true ∙ ap Some (sym c.name-item.is) in
    ap is_listed c.as_slice.ensures ∙ all-at (λ name. is_listed name ≡ true) c.args.names.now i item c.requires at

pub loop-name-preserved : goal.loop-name-preserved
loop-name-preserved c =
    let i = c.loop-name.name-index in
    let item = c.name-item.result in
    let keys = c.args.used.now.keys in
    let at : slice_get c.args.names.now i ≡ Some item = ap (λ l. slice_get l i) (sym c.as_slice-name-items.ensures) ∙ slice_get-get_or c.as_slice-name-items.result.now i item c.loop-name-test.true ∙ ap Some (sym c.name-item.is) in
    c.in_ok-add_unused.ensures
    ∙ ap (λ x. c.loop-name.files.items ++ unused_files keys (x ∷ [])) c.as_slice.ensures
    ∙ ap (λ l. l ++ unused_files keys (item ∷ [])) c.loop-name.invariant
    ∙ sym (unused-more keys c.args.names.now i item at)
    ∙ ap (λ n. unused_files keys (take n c.args.names.now)) (let e : suc i ≡ i + 1 = omega arith in e)
