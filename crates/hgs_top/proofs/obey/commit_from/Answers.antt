use Rattle.std.proofs.Common.{◌≡◌, ◌≤◌, ℕ, ◌+◌, length, List, Ok, Err, IfSome, take, refl, sym, subst}
use Rattle.hgs_input.specs.Record.{most_input}
use Rattle.hgs_top.proofs.InputLemmas.{gave}
use Rattle.hgs_top.proofs.ReadLemmas.{refused_otherwise}
use Rattle.hgs_top.proofs.obey.commit_from.Goals as goal

pub returns-in-Ok-read_commit-clause-valid : goal.returns-in-Ok-read_commit-clause-valid
returns-in-Ok-read_commit-clause-valid g c =
    (c.read_records_are_records.ensures c.deref.result.now c.in-Ok-read_commit.change c.in-Ok-read_commit.ensures).valid

pub returns-in-Ok-read_commit-clause-command : goal.returns-in-Ok-read_commit-clause-command
returns-in-Ok-read_commit-clause-command g c =
    let left = g.S.Source.left c.args.input.now in
    let P : List ℕ → Type 0 = λ bytes. IfSome left (λ all. bytes ≡ take (most_input + 1) all) in (
      c.in-Ok-read_commit.change,
      refl,
      gave c.long_inputs_are_decided.ensures left c.deref.result.now (Ok c.in-Ok-read_commit.change) (subst P (sym c.deref.ensures.value) c.in-Ok.ensures.read) c.in-Ok-read_commit.ensures,
    )

pub returns-clause-refused : goal.returns-clause-refused
returns-clause-refused g c =
    let left = g.S.Source.left c.args.input.now in
    let P : List ℕ → Type 0 = λ bytes. IfSome left (λ all. bytes ≡ take (most_input + 1) all) in
    λ log start. (
      gave c.long_inputs_are_decided.ensures left c.deref.result.now (Err c.in-Err.fault) (subst P (sym c.deref.ensures.value) c.in-Ok.ensures.read) c.in-Err.ensures,
      refl,
    )

pub returns-in-Ok-read_commit-clause-whole : goal.returns-in-Ok-read_commit-clause-whole
returns-in-Ok-read_commit-clause-whole g c =
    let is = c.read_records_are_records.ensures c.deref.result.now c.in-Ok-read_commit.change c.in-Ok-read_commit.ensures in
    c.in-Ok.ensures.whole (subst (λ (bytes : List ℕ). length bytes ≤ most_input) c.deref.ensures.value is.size)

pub returns-clause-other : goal.returns-clause-other
returns-clause-other g c = refused_otherwise c.in-Err.fault
