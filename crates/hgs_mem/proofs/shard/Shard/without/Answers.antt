use Rattle.std.proofs.Common.{rules, ◌≡◌, None, ap, ◌∙◌}
use Rattle.std.specs.Arc.{arc_value}
use Rattle.hgs_files.specs.Tree.{with_file}
use Rattle.hgs_mem.specs.Shard.{files_of}
use Rattle.hgs_mem.proofs.shard.Shard.without.Goals as goal

pub returns : goal.returns
returns c =
    let arc : arc_value c.in_ok-new.field-0 ≡ c.take.new.files = search rules in
    ap files_of arc ∙ c.take.ensures ∙ ap (λ t. with_file t c.args.path.now None) c.in_ok-files.ensures
