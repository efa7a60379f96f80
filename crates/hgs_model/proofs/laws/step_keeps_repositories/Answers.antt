use Rattle.std.proofs.Common.{◌≡◌, ◌≤◌, arith}
use Rattle.std.specs.Prelude.{Ok}
use Rattle.hgs_model.specs.IsRepo.{IsRepo}
use Rattle.hgs_model.specs.Phase.{phase_number}
use Rattle.hgs_model.specs.Repo.{Repo}
use Rattle.hgs_model.specs.Step.{Answer, step}
use Rattle.hgs_model.specs.Valid.{IsValid}
use Rattle.hgs_model.specs.declared.command.Command.{Command}
use Rattle.hgs_model.specs.declared.command.Command.TheVariants.{Commit, Import, Move, Mark, Unmark}
use Rattle.hgs_model.specs.declared.phase.Phase.{Phase}
use Rattle.hgs_model.specs.declared.phase.Phase.TheVariants.{Public, Draft, Secret}
use Rattle.hgs_model.specs.Theorems.NewChangesetLemmas.{commit-keeps, import-keeps}
use Rattle.hgs_model.specs.Theorems.StepLemmas.{move-keeps, mark-keeps, unmark-keeps}
use Rattle.hgs_model.proofs.laws.step_keeps_repositories.Goals as goal

most-secret : (phase : Phase) → phase_number phase ≤ 2
most-secret Public = omega arith
most-secret Draft = omega arith
most-secret Secret = omega arith

keeps : (r next : Repo) (command : Command) (answer : Answer) → IsRepo r → IsValid command → step r command ≡ Ok (next, answer) → IsRepo next
keeps r next (Commit n) answer is valid e = commit-keeps r n next answer is valid e
keeps r next (Import changes) answer is valid e = import-keeps r changes next answer is valid.each e
keeps r next (Move rev phase force) answer is valid e = move-keeps r rev (phase_number phase) force next answer (most-secret phase) is e
keeps r next (Mark name rev) answer is valid e = mark-keeps r name rev next answer is e
keeps r next (Unmark name) answer is valid e = unmark-keeps r name next answer is e

pub returns : goal.returns
returns c = keeps
