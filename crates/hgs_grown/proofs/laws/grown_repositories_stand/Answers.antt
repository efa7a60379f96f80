use Rattle.std.proofs.Common.{arith}
use Rattle.hgs_gen.specs.Generated.{generated}
use Rattle.hgs_model.specs.declared.command.Command.TheVariants.{Commit}
use Rattle.hgs_grown.proofs.GrowLemmas.{leads}
use Rattle.hgs_grown.proofs.laws.grown_repositories_stand.Goals as goal

pub returns : goal.returns
returns c = λ who seed count t r last done small few stands lists all.
    leads (λ u s n seed' who' answer more. c.calls_leave_what_they_answer.ensures.answered u s (Commit (generated seed' n)) who' answer more)
    (λ u s n seed' who' answer more. c.calls_leave_what_they_answer.ensures.lists u s (Commit (generated seed' n)) who' answer more) c.generated_changes_are_valid.ensures who seed count t r small few stands lists count last done (omega arith) all
