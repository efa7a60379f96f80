use Rattle.std.proofs.Common.{◌≡◌, sym, ◌∙◌, ap}
use Rattle.std.specs.Prelude.{Some, slice_get}
use Rattle.std.proofs.lemmas.Option.{slice_get-get_or}
use Rattle.hgs_judge.specs.Report.{findings_in}
use Rattle.hgs_report.specs.Logs.{of_tree}
use Rattle.hgs_report.proofs.EachLemmas.{added-first}
use Rattle.hgs_report.proofs.logs.add_trees.Goals as goal

pub loop-rev-preserved : goal.loop-rev-preserved
loop-rev-preserved c =
    let rev = c.loop-rev.rev in
    let item = c.index-trees-rev.result in
    let at : slice_get c.args.trees.now rev ≡ Some item = slice_get-get_or c.args.trees.now rev item c.loop-rev-test.true ∙ ap Some (sym c.index-trees-rev.is) in
    added-first (of_tree c.args.manifest.now) c.args.trees.now rev item (findings_in c.args.into.now.items) (findings_in c.loop-rev.into.items) (findings_in c.add_tree.new.into.items)
    at c.loop-rev.invariant c.in_ok-add_tree.ensures
