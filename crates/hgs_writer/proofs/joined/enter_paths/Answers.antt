use Rattle.std.proofs.Common.{◌≡◌, ◌-◌, ◌<◌, length, get_or, arith}
use Rattle.std.specs.Prelude.{Some, slice_get}
use Rattle.std.proofs.lemmas.Option.{slice_get-get_or}
use Rattle.hgs_model.specs.declared.files.NewFile.{NewFile}
use Rattle.hgs_writer.proofs.PathSets.{path-entered}
use Rattle.hgs_writer.proofs.joined.enter_paths.Goals as goal

pub loop-left-preserved : goal.loop-left-preserved
loop-left-preserved c =
    let left = c.loop-left.left in
    let lt : 0 < left = c.loop-left-test.true in
    let w = c.loop-left.invariant.within in
    let files = c.as_slice-files.result.now in
    let f : NewFile = get_or files (left - 1) c.index-files-left.result in
    let below : left - 1 < length files = omega (arith, w, lt) in
    let at : slice_get files (left - 1) ≡ Some f = slice_get-get_or files (left - 1) c.index-files-left.result below in
    record {
      within = omega (arith, w);
      keys = path-entered files left f c.args.paths.now.keys c.loop-left.paths.keys c.insert.new.self.keys c.in_ok-path.path lt at c.in_ok-path.ensures c.loop-left.invariant.keys c.in_ok-insert.ensures.keys;
    }
