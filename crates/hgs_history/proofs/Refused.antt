-- A call that is refused as its command is, is refused as the repository refuses it.
use Rattle.std.proofs.Common.{ℕ, List}
use Rattle.std.specs.Prelude.{Option, Result}
use Rattle.hgs_answers.specs.declared.answer.Answer.{Answer}
use Rattle.hgs_answers.specs.declared.outcome.Outcome.{Outcome}
use Rattle.hgs_answers.specs.declared.outcome.Outcome.TheVariants as outcomes
use Rattle.hgs_files.specs.declared.op.Op.{Op}
use Rattle.hgs_files.specs.Tree.{Tree}
use Rattle.hgs_index.specs.declared.node.Node.{Node}
use Rattle.hgs_model.specs.Repo.{Repo}
use Rattle.hgs_model.specs.Step.{Next}
use Rattle.hgs_model.specs.declared.command.Command.{Command}
use Rattle.hgs_model.specs.declared.command.Refusal.{Refusal}
use Rattle.hgs_writer.specs.Alone.{IsAnswered, IsBarred}
use Rattle.hgs_writer.specs.Begun.{has_no_locks}
use Rattle.hgs_writer.specs.Begun as begun
use Rattle.hgs_writer.specs.Written.{IsWritten, IsWrittenFor, has_no_plan, has_plan, is_carried_out, is_not_planned, is_turned_away}
use Rattle.hgs_history.specs.History.{IsRefusedBy}

-- a call without the changeset that it told
pub as-written : (who : List ℕ) (command : Command) (t : Tree) (answer : Answer) (changeset : Option (ℕ × Node)) (done : List Op) → IsWrittenFor who command t answer changeset done → IsWritten who command t answer done
as-written who command t answer _ _ (has_no_plan done (has_no_locks why turned outcome)) = is_turned_away why turned outcome
as-written who command t answer _ _ (has_no_plan done (begun.has_no_plan fault locking releasing locks plan removed outcome whole)) = is_not_planned fault locking releasing locks plan removed outcome whole
as-written who command t answer _ _ (has_plan planned locking carrying done locks plan c whole) = is_carried_out planned locking carrying locks plan c whole

pub refused-by : (r : Repo) (stepped : Result Next Refusal) (outcome : Outcome) (u : Tree) → IsAnswered r stepped outcome u → IsRefusedBy stepped outcome
refused-by r stepped outcomes.UnknownRevision u a = a.0
refused-by r stepped outcomes.UnknownPath u a = a.0
refused-by r stepped (outcomes.CopyOver path) u a = a.0
refused-by r stepped (outcomes.NeedsForce rev) u a = a.0
refused-by r stepped (outcomes.NothingChanged rev) u a = a.0
refused-by r stepped outcome u a = tt

pub barred-by : (stepped : Result Next Refusal) (outcome : Outcome) → IsBarred outcome → IsRefusedBy stepped outcome
barred-by stepped outcomes.UnknownRevision b = absurd b
barred-by stepped outcomes.UnknownPath b = absurd b
barred-by stepped (outcomes.CopyOver path) b = absurd b
barred-by stepped (outcomes.NeedsForce rev) b = absurd b
barred-by stepped (outcomes.NothingChanged rev) b = absurd b
barred-by stepped outcome b = tt
