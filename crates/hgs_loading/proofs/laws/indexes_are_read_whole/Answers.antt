use Rattle.hgs_revlog.specs.declared.fault.Tail.TheVariants.{Refuse}
use Rattle.hgs_loading.specs.Logs.{index_in}
use Rattle.hgs_loading.proofs.LengthLemmas.{whole-either, short-index}
use Rattle.hgs_loading.proofs.laws.indexes_are_read_whole.Goals as goal

pub returns-clause-short : goal.returns-clause-short
returns-clause-short c index t few = short-index index t few

pub returns-clause-loads : goal.returns-clause-loads
returns-clause-loads c index t log h = whole-either index t log (λ l e. (c.loaded_entries.ensures.entries Refuse (index_in index t) l e).few) h
