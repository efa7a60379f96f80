use Rattle.std.proofs.Common.{◌≡◌, ◌∙◌, ap, sym}
use Rattle.std.specs.Prelude.{Some, slice_get, option_and_then}
use Rattle.std.proofs.lemmas.Option.{slice_get-get_or}
use Rattle.hgs_findings.specs.Findings.{paths_of_seen}
use Rattle.hgs_findings.specs.Sight.{seen}
use Rattle.hgs_report.proofs.TrackedLemmas.{tree-seen}
use Rattle.hgs_report.proofs.working.tree_at.Goals as goal

pub returns-in-Some-get : goal.returns-in-Some-get
returns-in-Some-get c = λ s is.
    let all = c.args.changesets.now in
    let rev = c.in-Some.rev in
    let x = c.in-Some-get.changeset.now in
    let found = c.in-Some-get.ensures.lookup.3 in
    let at : slice_get all rev ≡ Some x = slice_get-get_or all rev x found.0 ∙ ap Some (sym (found.1 x)) in
    tree-seen c.tracked_trees.ensures s rev x (ap (λ l. slice_get l rev) (sym is) ∙ at) ∙ ap (option_and_then (λ n. paths_of_seen (slice_get (seen s) n))) (sym c.in-Some.is)
