use Rattle.hgs_revlog.specs.Theorems.AddedLemmas.{written-read}
use Rattle.hgs_revlog.proofs.laws.written_entries_read.Goals as goal

pub returns : goal.returns
returns c = written-read
