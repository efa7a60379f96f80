use Rattle.hgs_reader.specs.Theorems.EntryLemmas.{entry-there}
use Rattle.hgs_reader.proofs.laws.revisions_have_entries.Goals as goal

pub returns : goal.returns
returns c = entry-there
