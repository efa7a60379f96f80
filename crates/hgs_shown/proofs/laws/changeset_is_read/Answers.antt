use Rattle.hgs_shown.proofs.laws.changeset_is_read.Goals as goal

pub returns : goal.returns
returns c = record { placed = c.changesets_are_read.ensures.placed; chunk = c.changesets_are_read.ensures.chunk }
