use Rattle.std.proofs.Common.{Option, sym, subst}
use Rattle.hgs_reader.specs.Contents.{manifest_index}
use Rattle.hgs_commit.specs.Hindered.{is_met}
use Rattle.hgs_commit.specs.Pushed.{AppendsTo}
use Rattle.hgs_commit.specs.declared.appended.Growth.{Growth}
use Rattle.hgs_commit.proofs.StepLemmas.{separate-logs}
use Rattle.hgs_commit.proofs.commit.planned_step.Goals as goal

pub step_of-requires-clause-pushes : goal.step_of-requires-clause-pushes
step_of-requires-clause-pushes c =
    let l = c.args.loaded.now in
    c.in-Ok.ensures.pushes (separate-logs l.changelog.inline l.manifest.inline (is_met c.meet_inline.new.met) c.meet_inline.ensures.inline c.in-Ok.ensures.free).0

pub step_of-requires-clause-index : goal.step_of-requires-clause-index
step_of-requires-clause-index c =
    let l = c.args.loaded.now in
    c.in-Ok.ensures.index (separate-logs l.changelog.inline l.manifest.inline (is_met c.meet_inline.new.met) c.meet_inline.ensures.inline c.in-Ok.ensures.free).0

pub step_of-requires-clause-manifest : goal.step_of-requires-clause-manifest
step_of-requires-clause-manifest c =
    let l = c.args.loaded.now in
    let P : Option Growth → Type 0 = λ m. AppendsTo manifest_index l.manifest m in
    subst P (sym c.in-Ok.ensures.manifest)
    (c.requires.manifest (separate-logs l.changelog.inline l.manifest.inline (is_met c.meet_inline.new.met) c.meet_inline.ensures.inline c.in-Ok.ensures.free).1)

pub returns-in-Ok-step_of-clause-separate : goal.returns-in-Ok-step_of-clause-separate
returns-in-Ok-step_of-clause-separate c =
    let l = c.args.loaded.now in
    (separate-logs l.changelog.inline l.manifest.inline (is_met c.meet_inline.new.met) c.meet_inline.ensures.inline c.in-Ok.ensures.free).0
