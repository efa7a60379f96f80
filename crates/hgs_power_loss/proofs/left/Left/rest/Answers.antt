use Rattle.std.proofs.Common.{ap, ◌∙◌, sym}
use Rattle.hgs_files.specs.Tree.{after_all}
use Rattle.hgs_files.specs.Theorems.TreeLemmas.{after_all-append}
use Rattle.hgs_mem.specs.MemFiles.{log_of, start_of}
use Rattle.hgs_power_loss.proofs.left.Left.rest.Goals as goal

pub returns-in-Ok-clause-tree : goal.returns-in-Ok-clause-tree
returns-in-Ok-clause-tree c =
    let s = c.args.self in
    let base = c.args.base in
    c.restart.ensures.tree
    ∙ ap (after_all (log_of c.go_on.new.self)) c.in-Ok.ensures.start
    ∙ ap (λ log. after_all log (start_of base)) c.in-Ok.ensures.ok
    ∙ after_all-append (log_of base) s.ops.items (start_of base)
    ∙ ap (after_all s.ops.items) (sym c.requires)
    ∙ sym s.done
