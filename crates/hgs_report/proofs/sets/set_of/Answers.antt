use Rattle.std.proofs.Common.{◌≡◌, suc, ◌+◌, take, sym, ◌∙◌, ap, arith}
use Rattle.std.specs.Prelude.{Some, slice_get, ◌||◌}
use Rattle.std.proofs.lemmas.Option.{slice_get-get_or}
use Rattle.hgs_bytes.specs.Bytes.{same, among}
use Rattle.hgs_report.specs.Lines.{has_key}
use Rattle.hgs_report.proofs.TrackedLemmas.{among-more}
use Rattle.hgs_report.proofs.sets.set_of.Goals as goal

pub loop-name-preserved : goal.loop-name-preserved
loop-name-preserved c = λ path.
    let i = c.loop-name.name-index in
    let item = c.name-item.result in
    let at : slice_get c.args.names.now i ≡ Some item = slice_get-get_or c.args.names.now i item c.loop-name-test.true ∙ ap Some (sym c.name-item.is) in
    c.in_ok-enter.ensures.keys path
    ∙ ap (λ x. same path x || has_key c.loop-name.set.keys path) (c.in_ok-from_slice.ensures.items ∙ c.as_slice.ensures)
    ∙ ap (λ b. same path item || b) (c.loop-name.invariant path)
    ∙ sym (among-more c.args.names.now i item path at)
    ∙ ap (λ n. among path (take n c.args.names.now)) (let e : suc i ≡ i + 1 = omega arith in e)
