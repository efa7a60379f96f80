use Rattle.std.proofs.Common.{rules, ◌≡◌, ◌++◌}
use Rattle.hgs_mem.specs.Mem.{tree_of}
use Rattle.hgs_mem.proofs.KeptLemmas.{all_kept}
use Rattle.hgs_mem.proofs.logged.LoggedFiles.go_on.Goals as goal

pub invariant_of-self-in-Ok-clause-kept : goal.invariant_of-self-in-Ok-clause-kept
invariant_of-self-in-Ok-clause-kept c =
    let s = c.args.self.now in
    let items : c.append.new.self.items ≡ s.log.items ++ c.args.ops.items = search rules in
    all_kept c.args.ops.items (tree_of c.args.files) (tree_of s.first.value) s.log.items c.append.new.self.items c.requires items
