use Rattle.std.proofs.Common.{length, refl}
use Rattle.std.proofs.lemmas.Option.{slice_get_read}
use Rattle.hgs_branch.proofs.KeptLemmas.{adds_next, keeps_further}
use Rattle.hgs_branch.proofs.course.add_all.Goals as goal

pub returns-in_err-add-clause-kept : goal.returns-in_err-add-clause-kept
returns-in_err-add-clause-kept c = keeps_further c.args.course.now c.loop-place.course c.add.new.course c.loop-place.invariant.kept c.in_err-add.ensures.kept

pub loop-place-preserved : goal.loop-place-preserved
loop-place-preserved c = record {
  kept = keeps_further c.args.course.now c.loop-place.course c.add.new.course c.loop-place.invariant.kept c.in_ok-add.ensures.kept;
  adds = adds_next c.args.course.now c.loop-place.course c.add.new.course c.args.changes.now c.loop-place.place c.index-changes-place.result c.loop-place.invariant.adds c.in_ok-add.ensures.ok
      (slice_get_read c.args.changes.now (length c.args.changes.now) c.loop-place.place c.index-changes-place.result refl c.loop-place-test.true c.index-changes-place.is);
}
