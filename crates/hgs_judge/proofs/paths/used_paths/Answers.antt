use Rattle.std.proofs.Common.{◌≡◌, ◌-◌, ◌+◌, ◌<◌, length, drop, get_or, ◌∙◌, ap, arith}
use Rattle.std.specs.Prelude.{Some, slice_get, flat_map}
use Rattle.std.proofs.lemmas.Option.{slice_get-get_or}
use Rattle.hgs_findings.specs.Sight.{seen}
use Rattle.hgs_model.specs.History.{in_order}
use Rattle.hgs_judge.specs.declared.changesets.Changeset.{Changeset}
use Rattle.hgs_judge.proofs.PathLemmas.{paths_of_seen, seen-entered}
use Rattle.hgs_judge.proofs.paths.used_paths.Goals as goal

pub loop-left-preserved : goal.loop-left-preserved
loop-left-preserved c =
    let left = c.loop-left.left in
    let item : Changeset = get_or c.args.changesets.now (left - 1) c.index-changesets-left.result in
    let lt : 0 < left = c.loop-left-test.true in
    let w = c.loop-left.invariant.within in
    let below : left - 1 < length c.args.changesets.now = omega (arith, w, lt) in
    let at : slice_get c.args.changesets.now (left - 1) ≡ Some item = slice_get-get_or c.args.changesets.now (left - 1) c.index-changesets-left.result below in
    let next : left ≡ left - 1 + 1 = omega (arith, lt) in
    record {
      within = omega (arith, w);
      keys = λ s trees is. seen-entered s (left - 1) item c.args.trees.now c.args.changesets.now c.loop-left.paths.keys c.enter_tree.new.paths.keys trees is at
          (c.loop-left.invariant.keys s trees is ∙ ap (λ n. in_order (flat_map paths_of_seen (drop n (seen s)))) next) c.in_ok-last.ensures.keys;
      last = c.in_ok-last.ensures.last;
    }
