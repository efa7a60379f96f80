use Rattle.std.proofs.Common.{◌∙◌, ◌++◌, ap, sym, append-nil, arith}
use Rattle.hgs_branch.proofs.PrintLemmas.{no_node}
use Rattle.hgs_branch.proofs.print.push_node.Goals as goal

pub returns-else-rev-len : goal.returns-else-rev-len
returns-else-rev-len c = sym (ap (λ l. c.args.into.now.items ++ l) (no_node c.args.history.now.entries c.args.rev (let past = c.if-rev-len.false in let size = c.len.ensures in omega (arith, past, size))) ∙ append-nil c.args.into.now.items)
