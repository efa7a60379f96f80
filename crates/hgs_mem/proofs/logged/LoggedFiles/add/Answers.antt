use Rattle.hgs_mem.specs.Mem.{tree_of}
use Rattle.hgs_mem.proofs.KeptLemmas.{one_kept}
use Rattle.hgs_mem.proofs.logged.LoggedFiles.add.Goals as goal

pub invariant_of-self-clause-kept : goal.invariant_of-self-clause-kept
invariant_of-self-clause-kept c =
    let s = c.args.self.now in
    one_kept c.args.op c.do_one.result (tree_of s.files) (tree_of c.do_one.new.map) (tree_of s.first.value) s.log.items c.do_one.new.log.items c.do_one.ensures.ok c.do_one.ensures.tree c.do_one.ensures.err s.kept
