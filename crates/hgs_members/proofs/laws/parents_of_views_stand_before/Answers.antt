use Rattle.hgs_revlog.specs.declared.fault.Tail.TheVariants.{Ignore}
use Rattle.hgs_members.proofs.LoadedLemmas.{Laws, view_answered, view_at_rest}
use Rattle.hgs_members.proofs.laws.parents_of_views_stand_before.Goals as goal

pub returns-clause-rest : goal.returns-clause-rest
returns-clause-rest c =
    let laws : Laws = record { separate = λ index log is. (c.loaded_changelog.ensures.loaded Ignore index log is).earlier; either = λ index log is. (c.either_form.ensures.entries Ignore index log is).earlier } in
    view_at_rest laws

pub returns-clause-moments : goal.returns-clause-moments
returns-clause-moments c =
    let laws : Laws = record { separate = λ index log is. (c.loaded_changelog.ensures.loaded Ignore index log is).earlier; either = λ index log is. (c.either_form.ensures.entries Ignore index log is).earlier } in
    view_answered laws
