use Rattle.hgs_transaction.proofs.StoreLemmas.{before-in-store, publishing-in-store}
use Rattle.hgs_transaction.proofs.laws.parts_are_in_the_store.Goals as goal

pub returns : goal.returns
returns c = record {
  before = before-in-store;
  publishing = publishing-in-store;
}
