use Rattle.std.proofs.Common.{rules, ◌≡◌, [], ◌∷◌, ◌++◌, ap, ◌∙◌}
use Rattle.std.specs.Arc.{arc_value}
use Rattle.hgs_mem.specs.Shard.{files_of, files_in, no_files}
use Rattle.hgs_mem.proofs.ShardLemmas.{tree_in, grown}
use Rattle.hgs_mem.proofs.contents.grow.Goals as goal

pub loop-map-preserved : goal.loop-map-preserved
loop-map-preserved c =
    let xs = c.loop-map.map.shards.items in
    let s = c.in_ok-clone.field-0 in
    let same : arc_value s.files ≡ arc_value c.in_ok-empty.empty.files = search rules in
    let none : files_in s ≡ no_files = ap files_of same ∙ c.loop-map.invariant.1 in
    let pushed : c.push.new.self.items ≡ xs ++ s ∷ [] = search rules in
    (ap tree_in pushed ∙ grown xs s none ∙ c.loop-map.invariant.0, c.loop-map.invariant.1)

pub returns-in_err-push-clause-same : goal.returns-in_err-push-clause-same
returns-in_err-push-clause-same c =
    let items : c.push.new.self.items ≡ c.loop-map.map.shards.items = search rules in
    ap tree_in items ∙ c.loop-map.invariant.0
