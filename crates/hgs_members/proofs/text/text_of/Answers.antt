use Rattle.std.proofs.Common.{◌∙◌, ap, length, false}
use Rattle.std.specs.Prelude.{slice_index_or}
use Rattle.hgs_phases.specs.Theorems.PhaseLemmas.{history-length}
use Rattle.hgs_phases.specs.Phases.{history_of}
use Rattle.hgs_revlog.specs.Log.{Log, nodes_of}
use Rattle.hgs_revset.specs.Text.{member_lines}
use Rattle.hgs_load.specs.View.{View}
use Rattle.hgs_members.specs.Story.{story_of}
use Rattle.hgs_members.proofs.TextLemmas.{nodes_counted, text_of_marks}
use Rattle.hgs_members.proofs.text.text_of.Goals as goal

pub returns : goal.returns
returns c =
    let view = c.args.session.now in
    let entries = view.changelog.entries in
    let same = ap (λ (log : Log). log.entries) (c.changelog.ensures ∙ ap (λ (v : View). v.changelog) c.loaded.ensures) in
    let told = c.in_ok-members.ensures in (
      told.0,
      text_of_marks (story_of view) c.args.set.now c.in_ok-members.members c.from_vec.result c.tests_are_exact.ensures (nodes_counted entries (length (history_of entries)) (history-length entries)) told.1
          (c.from_vec.ensures ∙ c.in_ok-lines.ensures ∙ ap (λ es. member_lines (λ rev. slice_index_or c.in_ok-members.members rev false) 0 (nodes_of es)) same),
    )
