use Rattle.std.proofs.Common.{[], false, refl, sym, subst}
use Rattle.hgs_revlog.specs.declared.fault.Tail.TheVariants.{Refuse}
use Rattle.hgs_revlog.specs.Loaded.{AreEntries}
use Rattle.hgs_revlog.specs.Log.{Log}
use Rattle.hgs_loading.proofs.store.Logs.none.Goals as goal

abbrev nothing : Log
nothing = record { inline = false; entries = [] }

pub returns-clause-entries : goal.returns-clause-entries
returns-clause-entries c =
    let none : AreEntries nothing.entries = c.either_form.ensures.entries Refuse [] nothing refl in
    (subst (λ (l : Log). AreEntries l.entries) (sym c.empty.ensures) none, subst (λ (l : Log). AreEntries l.entries) (sym c.empty-2.ensures) none)
