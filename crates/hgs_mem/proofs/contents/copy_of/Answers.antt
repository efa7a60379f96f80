use Rattle.std.proofs.Common.{rules, ◌≡◌}
use Rattle.std.specs.Arc.{arc_value}
use Rattle.std.specs.List.{AllZip}
use Rattle.hgs_mem.specs.declared.shard.Shard.{Shard}
use Rattle.hgs_mem.proofs.ShardLemmas.{clones}
use Rattle.hgs_mem.proofs.contents.copy_of.Goals as goal

pub returns : goal.returns
returns c =
    let xs = c.args.map.now.shards.items in
    let ys = c.in_ok-clone.field-0.items in
    let all : AllZip (λ (s t : Shard). arc_value t.files ≡ arc_value s.files) xs ys = search rules in
    clones xs ys all
