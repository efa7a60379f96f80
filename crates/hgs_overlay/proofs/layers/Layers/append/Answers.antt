use Rattle.std.proofs.Common.{rules, ◌≡◌, Some, ap, sym, ◌∙◌}
use Rattle.std.specs.BTreeMap.{get}
use Rattle.std.specs.Cmp.Lexicographic.{slice_cmp}
use Rattle.std.specs.Ordering.{nat_cmp}
use Rattle.hgs_overlay.specs.declared.layers.Layer.{Layer}
use Rattle.hgs_overlay.proofs.LayerLemmas.{appended, on_err, on_ok, unchanged}
use Rattle.hgs_overlay.proofs.layers.Layers.append.Goals as goal

pub returns-in-Some-clause-at : goal.returns-in-Some-clause-at
returns-in-Some-clause-at c = search rules

pub returns-in-Some-clause-tree : goal.returns-in-Some-clause-tree
returns-in-Some-clause-tree c =
    let w : Layer = record { in_place = c.in-Some.layer.now.in_place; bytes = c.append.new.self } in
    let n = c.get_mut.follows.lender w in
    on_ok c.append.result _ _ (appended c.args.self.now.laid n c.args.self.now.ordered ((c.get_mut.follows.holds w).4) c.args.path.now c.args.bytes) (returns-in-Some-clause-at c)

pub returns-in-Some-clause-err : goal.returns-in-Some-clause-err
returns-in-Some-clause-err c =
    let w : Layer = record { in_place = c.in-Some.layer.now.in_place; bytes = c.append.new.self } in
    let n = c.get_mut.follows.lender w in
    let there : get (slice_cmp nat_cmp) c.args.self.now.laid c.args.path.now ≡ Some c.in-Some.layer.now = search rules in
    on_err c.append.result _ _ (λ same. unchanged c.args.self.now.laid n c.args.path.now w (there ∙ ap (λ b. Some (record { in_place = c.in-Some.layer.now.in_place; bytes = b })) (sym same)) ((c.get_mut.follows.holds w).0)) c.append.ensures.err

pub returns-clause-at : goal.returns-clause-at
returns-clause-at c = search rules

pub returns-clause-tree : goal.returns-clause-tree
returns-clause-tree c =
    on_ok c.put.result _ _ (appended c.args.self.now.laid c.put.new.self.laid c.args.self.now.ordered c.put.new.self.ordered c.args.path.now c.args.bytes) (returns-clause-at c)
