use Rattle.hgs_shown.proofs.laws.parents_of_entries.Goals as goal

pub returns : goal.returns
returns c = c.entries_of_revisions.ensures.parents
