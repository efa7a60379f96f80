use Rattle.hgs_gen.specs.Generated.{generated}
use Rattle.hgs_model.specs.declared.command.Command.TheVariants.{Commit}
use Rattle.hgs_grown.proofs.StopLemmas.{stopped}
use Rattle.hgs_grown.proofs.laws.growing_may_stop_anywhere.Goals as goal

pub returns : goal.returns
returns c = λ who seed count t r result done d small few stands lists grows stop.
    stopped (λ u s n seed' who' answer more. c.calls_leave_what_they_answer.ensures.answered u s (Commit (generated seed' n)) who' answer more)
    (λ u s n seed' who' answer more. c.calls_leave_what_they_answer.ensures.lists u s (Commit (generated seed' n)) who' answer more)
    (λ u s n seed' who' answer more e. c.calls_leave_what_they_answer.ensures.stops u s (Commit (generated seed' n)) who' answer more e) c.generated_changes_are_valid.ensures who seed count t r small few stands lists result done d grows stop
