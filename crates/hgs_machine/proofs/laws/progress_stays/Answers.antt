use Rattle.hgs_machine.proofs.Going.{acknowledged-done, acknowledged-failed, acknowledged-published, acknowledged-sized, published-done, published-failed, published-sized}
use Rattle.hgs_machine.proofs.laws.progress_stays.Goals as goal

pub returns : goal.returns
returns c = record {
  published_done = published-done;
  published_failed = published-failed;
  published_sized = published-sized;
  acknowledged_done = acknowledged-done;
  acknowledged_failed = acknowledged-failed;
  acknowledged_sized = acknowledged-sized;
  acknowledged_published = acknowledged-published;
}
