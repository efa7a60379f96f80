use Rattle.std.proofs.Common.{rules, ◌≡◌, ◌<◌, ◌≤◌, ℕ, length, get_or, option_copied, sym, ap, ◌∙◌, subst, arith}
use Rattle.hgs_mem.specs.declared.shard.Shard.{Shard}
use Rattle.hgs_mem.specs.Shard.{files_in, shard_of}
use Rattle.hgs_mem.proofs.ShardLemmas.{found_at, found_beyond}
use Rattle.hgs_mem.proofs.contents.content_of.Goals as goal

pub returns-then-at-len : goal.returns-then-at-len
returns-then-at-len c =
    let xs = c.args.map.now.shards.items in
    let path = c.args.path.now in
    let k : ℕ = c.shard_of-at.result in
    let d = c.index.result.now in
    let at : k ≡ shard_of path = search rules in
    let lt : k < length xs = search rules in
    let here : d ≡ get_or xs k d = search rules in
    let got : option_copied c.get.result ≡ files_in d path = search rules in
    got ∙ ap (λ (s : Shard). files_in s path) (here ∙ ap (λ n. get_or xs n d) at) ∙ sym (found_at xs (shard_of path) d path (subst (λ n. n < length xs) at lt))

pub returns-else-at-len : goal.returns-else-at-len
returns-else-at-len c =
    let xs = c.args.map.now.shards.items in
    let path = c.args.path.now in
    let at : c.shard_of-at.result ≡ shard_of path = search rules in
    let beyond : length xs ≤ c.shard_of-at.result = search rules in
    sym (found_beyond xs (shard_of path) path (λ lt. omega (arith, lt, at, beyond)))
