use Rattle.std.proofs.Common.{◌∙◌}
use Rattle.hgs_report.proofs.ListLemmas.{unused-lists}
use Rattle.hgs_report.proofs.lists.wrong_lists.Goals as goal

pub returns : goal.returns
returns c = λ t is used.
    let changesets = c.deref.ensures.value ∙ is.changesets in
    let trees = c.deref-2.ensures.value ∙ is.trees in
    unused-lists c.tracked_trees.ensures t c.deref.result.now c.deref-2.result.now c.args.used.now.keys c.in_ok-marks.marks.items changesets trees used c.in_ok-marks.ensures
