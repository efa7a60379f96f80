use Rattle.std.proofs.Common.{◌<◌, List, [], ◌∷◌, ◌++◌, length, sym, ◌∙◌, ap, arith}
use Rattle.hgs_index.specs.Manifest.{read_manifest}
use Rattle.hgs_index.specs.Revision.{Revision}
use Rattle.hgs_findings.specs.Sight.{value}
use Rattle.hgs_judge.specs.Read.{revisions_in}
use Rattle.hgs_judge.specs.Trees.{rows_read}
use Rattle.hgs_judge.proofs.Basics.{map-more}
use Rattle.hgs_judge.proofs.ChangesetLemmas.{read-count, there}
use Rattle.hgs_judge.proofs.TreeLemmas.{small-at}
use Rattle.hgs_judge.proofs.trees.read_trees.Goals as goal

pub tree_from-requires : goal.tree_from-requires
tree_from-requires c =
    let small = small-at (revisions_in c.args.manifest.now.log.entries c.args.data_bytes.now) c.loop-rev.rev c.requires.small in
    let is = ap length c.text.ensures in
    omega (arith, small, is)

pub loop-rev-preserved : goal.loop-rev-preserved
loop-rev-preserved c =
    let revisions : List Revision = revisions_in c.args.manifest.now.log.entries c.args.data_bytes.now in
    let lt : c.loop-rev.rev < length revisions = (let n = read-count c.args.manifest.now.log.entries c.args.data_bytes.now c.requires in let t = c.loop-rev-test.true in let e = c.len-rev-end.ensures in omega (arith, n, t, e)) in
    let at = there revisions c.loop-rev.rev lt in
    c.in_ok-push.ensures.items
    ∙ ap (λ x. c.loop-rev.trees.items ++ x ∷ []) (c.in_ok-rows.ensures.rows ∙ ap (λ l. value (read_manifest l)) (c.text.ensures ∙ sym at.2))
    ∙ ap (λ l. l ++ rows_read at.0 ∷ []) c.loop-rev.invariant
    ∙ sym (map-more rows_read revisions c.loop-rev.rev at.0 at.1)
