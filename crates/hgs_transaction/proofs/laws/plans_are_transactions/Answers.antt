use Rattle.hgs_transaction.proofs.TransactionLemmas.{all-operations, all-undone, committed, published}
use Rattle.hgs_transaction.proofs.laws.plans_are_transactions.Goals as goal

pub returns : goal.returns
returns c = record {
  ops = all-operations;
  undo = all-undone;
  publish = λ t r next command who p plan h made. published t r next command p plan h made;
  commit = committed;
}
