use Rattle.std.proofs.Common.{refl}
use Rattle.hgs_journal.proofs.SampleLemmas.{allowed, leads, prepared, undone}
use Rattle.hgs_journal.proofs.examples.second_commit.Goals as goal

pub returns : goal.returns
returns c = record { own = refl; prepared = prepared; allowed = allowed; leads = leads; undone = undone }
