use Rattle.std.proofs.Common.{rules, ◌≡◌, Some, ap, ◌∙◌}
use Rattle.std.specs.Arc.{arc_value}
use Rattle.hgs_files.specs.Tree.{with_file}
use Rattle.hgs_mem.specs.Shard.{files_of, files_in}
use Rattle.hgs_mem.proofs.shard.Shard.with.Goals as goal

pub returns : goal.returns
returns c =
    let arc : arc_value c.in_ok-new.field-0 ≡ c.put.new.files = search rules in
    let done : files_of c.put.new.files ≡ with_file (files_of c.in_ok-files.files) c.args.path (Some c.args.content) = search rules in
    let copied : files_of c.in_ok-files.files ≡ files_in c.args.self.now = c.in_ok-files.ensures in
    ap files_of arc ∙ done ∙ ap (λ t. with_file t c.args.path (Some c.args.content)) copied
