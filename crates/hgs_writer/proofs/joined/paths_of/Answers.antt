use Rattle.std.proofs.Common.{◌≡◌, ◌-◌, ◌<◌, length, get_or, ◌∙◌, ap, arith}
use Rattle.std.specs.Prelude.{Some, slice_get}
use Rattle.std.proofs.lemmas.Option.{slice_get-get_or}
use Rattle.hgs_model.specs.declared.command.NewChange.{NewChange}
use Rattle.hgs_model.specs.Valid.{new_paths}
use Rattle.hgs_writer.specs.Layered.{entered}
use Rattle.hgs_writer.proofs.PathSets.{record-entered}
use Rattle.hgs_writer.proofs.joined.paths_of.Goals as goal

pub loop-left-preserved : goal.loop-left-preserved
loop-left-preserved c =
    let left = c.loop-left.left in
    let lt : 0 < left = c.loop-left-test.true in
    let w = c.loop-left.invariant.within in
    let changes = c.args.changes.now in
    let n : NewChange = get_or changes (left - 1) c.index-changes-left.result in
    let below : left - 1 < length changes = omega (arith, w, lt) in
    let at : slice_get changes (left - 1) ≡ Some n = slice_get-get_or changes (left - 1) c.index-changes-left.result below in
    record {
      within = omega (arith, w);
      keys = record-entered changes left n c.loop-left.paths.keys c.enter_paths.new.paths.keys lt at c.loop-left.invariant.keys (c.in_ok-enter_paths.ensures ∙ ap (λ (x : NewChange). entered (new_paths x.files) c.loop-left.paths.keys) c.index-changes-left.is);
    }
