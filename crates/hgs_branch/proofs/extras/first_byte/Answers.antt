use Rattle.std.proofs.Common.{◌∙◌, ap}
use Rattle.hgs_branch.specs.Extras.{unescaped}
use Rattle.hgs_branch.proofs.ExtrasLemmas.{plain_byte}
use Rattle.hgs_branch.proofs.extras.first_byte.Goals as goal

pub returns-then-first-ne92-clause-some : goal.returns-then-first-ne92-clause-some
returns-then-first-ne92-clause-some c = ap unescaped c.in_ok-first.ensures.cases.0 ∙ plain_byte c.in_ok-first.field-0-0.now c.in_ok-first.behind.now c.if-first-ne92.true
