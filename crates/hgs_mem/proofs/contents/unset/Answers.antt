use Rattle.std.proofs.Common.{rules, ◌≡◌, ◌+◌, ◌≤◌, ℕ, length, get_or, set, List, Option, None, ap, ◌∙◌, arith}
use Rattle.hgs_files.specs.Tree.{with_file}
use Rattle.hgs_mem.specs.declared.shard.Shard.{Shard}
use Rattle.hgs_mem.specs.Mem.{tree_of}
use Rattle.hgs_mem.specs.Shard.{files_in, shard_of}
use Rattle.hgs_mem.proofs.ShardLemmas.{tree_in, replaced, on_err}
use Rattle.hgs_mem.proofs.contents.unset.Goals as goal

pub returns-in_err-shard-clause-err : goal.returns-in_err-shard-clause-err
returns-in_err-shard-clause-err c = on_err c.from_residual-in_err-shard.result (tree_of c.grow.new.map ≡ tree_of c.args.map.now) c.grow.ensures.same

pub returns-clause-ok : goal.returns-clause-ok
returns-clause-ok c =
    let xs = c.grow.new.map.shards.items in
    let s = c.in_ok-shard.shard in
    let path = c.args.path.now in
    let file : Option (List ℕ) = None in
    let k : ℕ = c.shard_of-at.result in
    let d = c.index.result.now in
    let at : k ≡ shard_of path = search rules in
    let long : k + 1 ≤ length xs = search rules in
    let here : d ≡ get_or xs k d = search rules in
    let is : files_in s ≡ with_file (files_in d) path file = search rules in
    ap (λ n. tree_in (set xs n s)) at
    ∙ replaced xs d s path file (omega (arith, at, long)) (is ∙ ap (λ (t : Shard). with_file (files_in t) path file) (here ∙ ap (λ n. get_or xs n d) at))
    ∙ ap (λ t. with_file t path file) c.grow.ensures.same
