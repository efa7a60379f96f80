use Rattle.std.proofs.Common.{◌≡◌, ◌+◌, [], ◌++◌, get_or, sym, ◌∙◌, ap, arith}
use Rattle.std.specs.Prelude.{Some, slice_get}
use Rattle.std.proofs.lemmas.Option.{slice_get-get_or}
use Rattle.hgs_index.specs.declared.node.Node.{Node}
use Rattle.hgs_marks.specs.Lines.{node_values}
use Rattle.hgs_judge.specs.Read.{revisions_in}
use Rattle.hgs_judge.specs.Report.{each_from, findings_in}
use Rattle.hgs_report.specs.Lines.{of_line}
use Rattle.hgs_report.proofs.EachLemmas.{added}
use Rattle.hgs_report.proofs.LineLemmas.{values-taken, value-at}
use Rattle.hgs_report.proofs.lines.add_known.Goals as goal

pub loop-at-preserved : goal.loop-at-preserved
loop-at-preserved c = λ data_bytes read.
    let i = c.loop-at.at in
    let none : Node = record { 0 = [] } in
    let item : Node = get_or c.args.nodes.now i none in
    let f = of_line (revisions_in c.args.changelog.now.log.entries data_bytes) c.args.path.now c.args.kind in
    let at : slice_get c.args.nodes.now i ≡ Some item = slice_get-get_or c.args.nodes.now i none c.loop-at-test.true in
    let one = c.in_ok-add_line.ensures data_bytes read ∙ ap (λ n. findings_in c.loop-at.into.items ++ f n item.0) (let e : i + 1 ≡ 1 + i = omega arith in e) in
    added f 1 (node_values c.args.nodes.now) i item.0 (findings_in c.args.into.now.items) (findings_in c.loop-at.into.items) (findings_in c.add_line.new.into.items)
    (value-at c.args.nodes.now i item at) (c.loop-at.invariant data_bytes read ∙ ap (λ l. findings_in c.args.into.now.items ++ each_from f 1 l) (values-taken c.args.nodes.now i)) one
    ∙ ap (λ l. findings_in c.args.into.now.items ++ each_from f 1 l) (sym (values-taken c.args.nodes.now (i + 1)))
