use Rattle.hgs_steps.proofs.EntryLemmas.{entries-held}
use Rattle.hgs_steps.proofs.laws.loaded_entries_are_held.Goals as goal

pub returns : goal.returns
returns c = entries-held c.laws_below.ensures
