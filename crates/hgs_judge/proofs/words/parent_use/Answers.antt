use Rattle.std.proofs.Common.{◌≡◌, sym, ◌∙◌, ap}
use Rattle.std.specs.Prelude.{Some, slice_get}
use Rattle.std.proofs.lemmas.Option.{slice_get-get_or, slice_get_past}
use Rattle.hgs_findings.specs.OnePath.{use_of_parent}
use Rattle.hgs_judge.proofs.WordLemmas.{some-use, no-use}
use Rattle.hgs_judge.proofs.words.parent_use.Goals as goal

pub returns-in-Some-get-clause-used : goal.returns-in-Some-get-clause-used
returns-in-Some-get-clause-used c = λ log all e.
    let uses = c.args.uses.now in
    let rev = c.in-Some.rev in
    let u = c.in-Some-get.found.now in
    let found = c.in-Some-get.ensures.lookup.3 in
    let at : slice_get uses rev ≡ Some u = slice_get-get_or uses rev u found.0 ∙ ap Some (sym (found.1 u)) in
    some-use uses log all rev u e at ∙ ap (use_of_parent log all) (sym c.in-Some.is)

pub returns-in-None-get-clause-used : goal.returns-in-None-get-clause-used
returns-in-None-get-clause-used c = λ log all e.
    no-use c.args.uses.now log all c.in-Some.rev e (slice_get_past c.args.uses.now c.in-Some.rev c.in-None-get.ensures.lookup.3) ∙ ap (use_of_parent log all) (sym c.in-Some.is)
