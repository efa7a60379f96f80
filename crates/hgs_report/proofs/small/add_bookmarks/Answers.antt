use Rattle.std.proofs.Common.{◌++◌, ◌∙◌, ap}
use Rattle.std.specs.Prelude.{option_map}
use Rattle.hgs_marks.specs.Bookmarks.{mark_lines}
use Rattle.hgs_marks.specs.Lines.{mark_values}
use Rattle.hgs_stands.specs.Places.{bookmarks_path}
use Rattle.hgs_findings.specs.Reading.{data_in, sight_of, the_changelog}
use Rattle.hgs_findings.specs.Sight.{value}
use Rattle.hgs_judge.specs.Read.{revisions_in}
use Rattle.hgs_judge.specs.Report.{findings_in}
use Rattle.hgs_report.specs.Lines.{of_lines}
use Rattle.hgs_report.proofs.TextLemmas.{marks-added}
use Rattle.hgs_report.proofs.small.add_bookmarks.Goals as goal

pub returns : goal.returns
returns c = λ t is text.
    let old = findings_in c.args.into.now.items in
    marks-added t old (findings_in c.add_lines.new.into.items)
    (c.in_ok-add_lines.ensures (data_in t the_changelog) is.changelog.read.are
    ∙ ap (λ o. old ++ of_lines (revisions_in c.args.store.now.changelog.reading.log.entries (data_in t the_changelog)) c.args.path.now 14 o) c.in_ok-nodes.ensures
    ∙ ap (λ l. old ++ of_lines l c.args.path.now 14 (option_map mark_values (value (mark_lines c.args.text.now)))) is.changelog.read.revisions
    ∙ ap (λ p. old ++ of_lines (sight_of t).changelog p 14 (option_map mark_values (value (mark_lines c.args.text.now)))) c.requires
    ∙ ap (λ x. old ++ of_lines (sight_of t).changelog bookmarks_path 14 (option_map mark_values (value (mark_lines x)))) text)
