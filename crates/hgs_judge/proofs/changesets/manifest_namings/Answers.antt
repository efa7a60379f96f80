use Rattle.std.proofs.Common.{◌≡◌, [], ◌∷◌, ◌++◌, take, map, sym, ◌∙◌, ap}
use Rattle.std.specs.Prelude.{Some, slice_get}
use Rattle.std.proofs.lemmas.List.{map_push}
use Rattle.std.proofs.lemmas.Option.{slice_get-get_or}
use Rattle.hgs_findings.specs.Sight as sight
use Rattle.hgs_findings.specs.Sight.{seen}
use Rattle.hgs_judge.specs.Changesets.{changeset_as}
use Rattle.hgs_judge.specs.Kinds.{naming_in, namings_in}
use Rattle.hgs_judge.proofs.Basics.{map-more}
use Rattle.hgs_judge.proofs.ChangesetLemmas.{mapped-at}
use Rattle.hgs_judge.proofs.changesets.manifest_namings.Goals as goal

pub loop-changeset-preserved : goal.loop-changeset-preserved
loop-changeset-preserved c = λ s is.
    let i = c.loop-changeset.changeset-index in
    let item = c.changeset-item.result in
    let at : slice_get c.args.changesets.now i ≡ Some item = slice_get-get_or c.args.changesets.now i item c.loop-changeset-test.true ∙ ap Some (sym c.changeset-item.is) in
    let found = mapped-at changeset_as (seen s) i item (ap (λ l. slice_get l i) (sym is) ∙ at) in
    ap namings_in c.in_ok-push.ensures.items
    ∙ map_push naming_in c.loop-changeset.namings.items c.naming.result
    ∙ ap (λ l. l ++ naming_in c.naming.result ∷ []) (c.loop-changeset.invariant s is)
    ∙ ap (λ x. map (sight.manifest_naming (seen s)) (take i (seen s)) ++ x ∷ []) (c.naming.ensures (seen s) found.0 is found.2)
    ∙ sym (map-more (sight.manifest_naming (seen s)) (seen s) i found.0 found.1)
