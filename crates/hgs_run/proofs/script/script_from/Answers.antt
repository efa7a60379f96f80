use Rattle.std.proofs.Common.{◌≡◌, ◌≤◌, ℕ, List, length, ◌+◌, Ok, Err, IfSome, take, sym, subst}
use Rattle.hgs_input.specs.Record.{most_input}
use Rattle.hgs_run.proofs.Given.{gave_script}
use Rattle.hgs_run.proofs.script.script_from.Goals as goal

pub returns-in-Ok-read-clause-can : goal.returns-in-Ok-read-clause-can
returns-in-Ok-read-clause-can g c = c.read_scripts_can_be_run.ensures c.deref.result.now c.in-Ok-read.script c.in-Ok-read.ensures

pub returns-in-Ok-read-clause-script : goal.returns-in-Ok-read-clause-script
returns-in-Ok-read-clause-script g c =
    let left = g.S.Source.left c.args.input.now in
    let taken = subst (λ bytes. IfSome left (λ all. bytes ≡ take (most_input + 1) all)) (sym c.deref.ensures.value) c.in-Ok.ensures.read in
    gave_script c.long_inputs_are_decided.ensures left c.deref.result.now (Ok c.in-Ok-read.script) taken c.in-Ok-read.ensures

pub returns-in-Ok-read-clause-read : goal.returns-in-Ok-read-clause-read
returns-in-Ok-read-clause-read g c =
    let is = c.read_scripts_are_scripts.ensures c.deref.result.now c.in-Ok-read.script c.in-Ok-read.ensures in
    c.in-Ok.ensures.whole (subst (λ (bytes : List ℕ). length bytes ≤ most_input) c.deref.ensures.value is.size)

pub returns-clause-refused : goal.returns-clause-refused
returns-clause-refused g c =
    let left = g.S.Source.left c.args.input.now in
    let taken = subst (λ bytes. IfSome left (λ all. bytes ≡ take (most_input + 1) all)) (sym c.deref.ensures.value) c.in-Ok.ensures.read in
    gave_script c.long_inputs_are_decided.ensures left c.deref.result.now (Err c.in-Err.fault) taken c.in-Err.ensures
