use Rattle.hgs_writer.proofs.LoadedLemmas.{loaded-is}
use Rattle.hgs_writer.proofs.laws.stores_are_loaded.Goals as goal

pub returns : goal.returns
returns c = loaded-is c.indexes_are_read_whole.ensures.loads
