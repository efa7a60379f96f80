-- A step that was planned under the locks is the one that the repository makes.
use Rattle.std.proofs.Common.{◌≡◌, List, refl, subst}
use Rattle.std.specs.Prelude.{Result, Ok, Err}
use Rattle.hgs_commit.specs.Commit.{ClashBy, Steps}
use Rattle.hgs_commit.specs.declared.fault.CommitFault.{CommitFault}
use Rattle.hgs_files.specs.Tree.{Tree}
use Rattle.hgs_model.specs.Repo.{Repo}
use Rattle.hgs_model.specs.Step.{Next, step}
use Rattle.hgs_model.specs.Valid.{IsValid}
use Rattle.hgs_model.specs.declared.command.Command.{Command}
use Rattle.hgs_model.specs.declared.command.Command.TheVariants.{Commit, Import, Mark, Move, Unmark}
use Rattle.hgs_model.specs.declared.command.NewChange.{NewChange}
use Rattle.hgs_model.specs.declared.command.Refusal.{Refusal}
use Rattle.hgs_ops.specs.Unhindered.{IsReady}
use Rattle.hgs_writer.specs.Commits.{AnswersWith}
use Rattle.hgs_stands.specs.Stands.{Stands}
use Rattle.hgs_steps.specs.Parents.{named_all, parents_answer}
use Rattle.hgs_steps.specs.Planned.{AnswersAs, IsLoadedOf, IsStepOf}
use Rattle.hgs_steps.specs.Steps.{mark_of, move_of, planned, unmark_of}
use Rattle.hgs_steps.specs.declared.fault.PlanFault.{PlanFault}
use Rattle.hgs_steps.specs.declared.loaded.Loaded.{Loaded}
use Rattle.hgs_steps.specs.declared.step.Step.{Step}
use Rattle.hgs_legal.specs.ListsPaths.{ListsPaths}
use Rattle.hgs_writer.specs.BytePaths.{AreOfBytes, HasBytePaths, NamesBytes}
use Rattle.hgs_writer.specs.Below.{Below}
use Rattle.hgs_writer.specs.Imports.{ImportAnswersAs}
use Rattle.hgs_writer.specs.Planning.{ComesTo}
use Rattle.hgs_writer.specs.Records.{ImportComesTo}

-- ---- what is planned

-- a step that is planned is the repository's
pub record IsStepFor (u : Tree) (r : Repo) (command : Command) (step_is : Step) : Type 0 where
  pub next : Next
  pub accepted : step r command ≡ Ok next
  pub as_step : IsStepOf u r command next step_is
  pub ready : IsReady u r command next.0

module _ (laws : Below) (u : Tree) (r : Repo) (l : Loaded) (s : Stands u r) (loads : IsLoadedOf u l) where
  commit-step : (n : NewChange) (step_is : Step) → IsValid (Commit n) → HasBytePaths n → ListsPaths u r → Steps l n u (Ok step_is) → IsStepFor u r (Commit n) step_is
  commit-step n step_is valid bytes lists comes = by (step r (Commit n)) refl (subst (λ (x : Result Step CommitFault). AnswersWith IsTold u r n comes.0 x (step r (Commit n))) comes.2 (laws.committed u r l n comes.0 s loads valid))
    where
      IsTold : Type 0
      IsTold = ClashBy l n u (parents_answer (named_all l n.parents)) comes.0

      by : (stepped : Result Next Refusal) → step r (Commit n) ≡ stepped → AnswersWith (ClashBy l n u (parents_answer (named_all l n.parents)) comes.0) u r n comes.0 (Ok step_is) stepped → IsStepFor u r (Commit n) step_is
      by (Err e) is made = absurd made
      by (Ok next) is made = record { next = next; accepted = is; as_step = made.as_step; ready = made.ready comes.1 lists bytes }

  step-for : (command : Command) (step_is : Step) (a : Result Step PlanFault) → ((next : Repo) → IsReady u r command next) → a ≡ Ok step_is → AnswersAs u r command a (step r command) → IsStepFor u r command step_is
  step-for command step_is a ready e is = by (step r command) refl (subst (λ x. AnswersAs u r command x (step r command)) e is)
    where
      by : (stepped : Result Next Refusal) → step r command ≡ stepped → AnswersAs u r command (Ok step_is) stepped → IsStepFor u r command step_is
      by (Err e) accepted made = absurd made
      by (Ok next) accepted made = record { next = next; accepted = accepted; as_step = made; ready = ready next.0 }

  import-step : (changes : List NewChange) (step_is : Step) → IsValid (Import changes) → AreOfBytes changes → ListsPaths u r → ImportComesTo u l changes (Ok step_is) → IsStepFor u r (Import changes) step_is
  import-step changes step_is valid bytes lists comes = by (step r (Import changes)) refl (laws.imported u r l changes (Ok step_is) s loads valid bytes lists comes)
    where
      by : (stepped : Result Next Refusal) → step r (Import changes) ≡ stepped → ImportAnswersAs u r changes (Ok step_is) stepped → IsStepFor u r (Import changes) step_is
      by (Err e) is made = absurd made
      by (Ok next) is made = record { next = next; accepted = is; as_step = made.0; ready = made.1 }

  pub planned-step : (command : Command) (step_is : Step) → IsValid command → NamesBytes command → ListsPaths u r → ComesTo u l command (Ok step_is) → IsStepFor u r command step_is
  planned-step (Commit n) step_is valid bytes lists comes = commit-step n step_is valid bytes lists comes.0
  planned-step (Import changes) step_is valid bytes lists comes = import-step changes step_is valid bytes lists comes
  planned-step (Move name to force) step_is valid bytes lists comes = step-for (Move name to force) step_is (planned l (move_of l name to force)) (λ next. tt) comes (laws.moved u r l name to force s loads)
  planned-step (Mark mark name) step_is valid bytes lists comes = step-for (Mark mark name) step_is (planned l (mark_of l mark name)) (λ next. tt) comes (laws.marked u r l mark name s loads)
  planned-step (Unmark mark) step_is valid bytes lists comes = step-for (Unmark mark) step_is (planned l (unmark_of l mark)) (λ next. tt) comes (laws.unmarked u r l mark s loads)
