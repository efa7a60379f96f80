use Rattle.std.proofs.Common.{◌≡◌, ◌≤◌, [], ◌∷◌, ◌++◌, length, map, sym, ◌∙◌, ap, arith}
use Rattle.std.specs.Prelude.{Some, slice_get}
use Rattle.hgs_index.specs.Revision.{Revision}
use Rattle.hgs_findings.specs.Sight.{seen_of}
use Rattle.hgs_judge.specs.declared.changesets.Changeset.{Changeset}
use Rattle.hgs_judge.specs.Changesets.{changeset_as}
use Rattle.hgs_judge.proofs.Basics.{map-more, take-whole}
use Rattle.hgs_judge.proofs.ChangesetLemmas.{map-map, read-count, revision-of}
use Rattle.hgs_judge.proofs.changesets.read_changesets.Goals as goal

pub loop-rev-preserved : goal.loop-rev-preserved
loop-rev-preserved c = λ manifest_bytes s read changelog manifest.
    let f : Revision → Changeset = λ r. changeset_as (seen_of s r) in
    let at = revision-of c.args.changelog.now.log.entries c.args.data_bytes.now c.loop-rev.rev c.entry-entry.result.now c.requires c.entry-entry.ensures in
    let here : slice_get s.changelog c.loop-rev.rev ≡ Some at.r = ap (λ l. slice_get l c.loop-rev.rev) changelog ∙ at.at in
    let is : c.in_ok-changeset.changeset ≡ f at.r = c.in_ok-changeset.ensures.seen manifest_bytes s at.r read manifest (at.text ∙ sym c.text.ensures) at.parents in
    c.in_ok-push.ensures.items
    ∙ ap (λ x. c.loop-rev.all.items ++ x ∷ []) is
    ∙ ap (λ l. l ++ f at.r ∷ []) (c.loop-rev.invariant manifest_bytes s read changelog manifest)
    ∙ sym (map-more f s.changelog c.loop-rev.rev at.r here)

pub returns-clause-seen : goal.returns-clause-seen
returns-clause-seen c = λ manifest_bytes s read changelog manifest.
    let past : length s.changelog ≤ c.loop-rev.rev = (let a = c.loop-rev-test.false in let b = c.len-rev-end.ensures in let n = read-count c.args.changelog.now.log.entries c.args.data_bytes.now c.requires in let m = ap length changelog in omega (arith, a, b, n, m)) in
    c.loop-rev.invariant manifest_bytes s read changelog manifest
    ∙ ap (map (λ (r : Revision). changeset_as (seen_of s r))) (take-whole s.changelog c.loop-rev.rev past)
    ∙ map-map (seen_of s) changeset_as s.changelog
