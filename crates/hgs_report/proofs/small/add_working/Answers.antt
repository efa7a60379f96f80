use Rattle.std.proofs.Common.{◌++◌, sym, ◌∙◌, ap}
use Rattle.hgs_marks.specs.Dirstate.{read_dirstate}
use Rattle.hgs_stands.specs.Places.{dirstate_path}
use Rattle.hgs_findings.specs.Findings.{paths_at_node}
use Rattle.hgs_findings.specs.Reading.{data_in, sight_of, the_changelog}
use Rattle.hgs_findings.specs.Sight.{value}
use Rattle.hgs_judge.specs.Report.{findings_in}
use Rattle.hgs_report.specs.Lines.{of_dirstate}
use Rattle.hgs_report.proofs.TextLemmas.{dirstate-added}
use Rattle.hgs_report.proofs.small.add_working.Goals as goal

pub returns : goal.returns
returns c = λ t is text.
    let old = findings_in c.args.into.now.items in
    dirstate-added t old (findings_in c.add_dirstate.new.into.items)
    (c.in_ok-add_dirstate.ensures (data_in t the_changelog) (sight_of t) is.changelog.read.are (sym is.changelog.read.revisions) (c.deref.ensures.value ∙ is.changesets) (c.deref-2.ensures.value ∙ is.trees)
    ∙ ap (λ o. old ++ of_dirstate (sight_of t).changelog c.args.path.now (paths_at_node (sight_of t)) o) c.in_ok-dirstate.ensures
    ∙ ap (λ p. old ++ of_dirstate (sight_of t).changelog p (paths_at_node (sight_of t)) (value (read_dirstate c.args.text.now))) c.requires
    ∙ ap (λ x. old ++ of_dirstate (sight_of t).changelog dirstate_path (paths_at_node (sight_of t)) (value (read_dirstate x))) text)
