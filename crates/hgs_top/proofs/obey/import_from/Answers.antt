use Rattle.std.proofs.Common.{◌≡◌, ◌≤◌, ℕ, ◌+◌, length, List, Ok, Err, IfSome, take, refl, sym, subst}
use Rattle.hgs_input.specs.Record.{most_input}
use Rattle.hgs_top.proofs.InputLemmas.{gave_import}
use Rattle.hgs_top.proofs.ReadLemmas.{refused_otherwise}
use Rattle.hgs_top.proofs.obey.import_from.Goals as goal

pub returns-in-Ok-read_import-clause-valid : goal.returns-in-Ok-read_import-clause-valid
returns-in-Ok-read_import-clause-valid g c =
    (c.read_imports_are_imports.ensures c.deref.result.now c.in-Ok-read_import.changes c.in-Ok-read_import.ensures).1

pub returns-in-Ok-read_import-clause-command : goal.returns-in-Ok-read_import-clause-command
returns-in-Ok-read_import-clause-command g c =
    let left = g.S.Source.left c.args.input.now in
    let P : List ℕ → Type 0 = λ bytes. IfSome left (λ all. bytes ≡ take (most_input + 1) all) in (
      c.in-Ok-read_import.changes,
      refl,
      gave_import c.imports_are_decided_by_fronts.ensures.long left c.deref.result.now (Ok c.in-Ok-read_import.changes) (subst P (sym c.deref.ensures.value) c.in-Ok.ensures.read) c.in-Ok-read_import.ensures,
    )

pub returns-clause-refused : goal.returns-clause-refused
returns-clause-refused g c =
    let left = g.S.Source.left c.args.input.now in
    let P : List ℕ → Type 0 = λ bytes. IfSome left (λ all. bytes ≡ take (most_input + 1) all) in
    λ log start. (
      gave_import c.imports_are_decided_by_fronts.ensures.long left c.deref.result.now (Err c.in-Err.fault) (subst P (sym c.deref.ensures.value) c.in-Ok.ensures.read) c.in-Err.ensures,
      refl,
    )

pub returns-in-Ok-read_import-clause-whole : goal.returns-in-Ok-read_import-clause-whole
returns-in-Ok-read_import-clause-whole g c =
    let is = (c.read_imports_are_imports.ensures c.deref.result.now c.in-Ok-read_import.changes c.in-Ok-read_import.ensures).0 in
    c.in-Ok.ensures.whole (subst (λ (bytes : List ℕ). length bytes ≤ most_input) c.deref.ensures.value is.size)

pub returns-clause-other : goal.returns-clause-other
returns-clause-other g c = refused_otherwise c.in-Err.fault
