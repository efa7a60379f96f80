use Rattle.std.proofs.Common.{refl, rules}
use Rattle.hgs_manifest.proofs.HeldLemmas.{held_new, rows_new}
use Rattle.hgs_manifest.proofs.place.add_row.Goals as goal

pub returns-in-Ok-clause-held : goal.returns-in-Ok-clause-held
returns-in-Ok-clause-held c =
    held_new _ _ _ _ _ _ c.in_ok-extend_from_slice.ensures.items c.in-Ok.ensures.items c.requires.held c.requires.room (search rules) refl

pub returns-in-Ok-clause-ok : goal.returns-in-Ok-clause-ok
returns-in-Ok-clause-ok c =
    rows_new _ _ _ _ _ _ c.in_ok-extend_from_slice.ensures.items c.in-Ok.ensures.items c.requires.held (search rules) refl
