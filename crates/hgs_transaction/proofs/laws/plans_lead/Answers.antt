use Rattle.std.proofs.Common.{subst, sym}
use Rattle.std.specs.Prelude.{List}
use Rattle.hgs_files.specs.declared.op.Op.{Op}
use Rattle.hgs_files.specs.Tree.{after_all}
use Rattle.hgs_stands.specs.Stands.{IsClean}
use Rattle.hgs_transaction.proofs.TransactionLemmas.{all-operations}
use Rattle.hgs_transaction.proofs.laws.plans_lead.Goals as goal

pub returns : goal.returns
returns c = λ t r next command who answer p plan stands valid accepted ready h made.
    subst (λ (ops : List Op). IsClean (after_all ops t) next) (sym (all-operations t r next command who p plan h made)) (c.transactions_lead.ensures t r next command who answer stands valid accepted ready)
