-- When what the records of an import come to is the repository's answer.
use Rattle.std.specs.Prelude.{◌≡◌, ◌⊎◌, ℕ, List, [], ◌∷◌, Option, Result, Ok, Err, ⊤}
use Rattle.std.specs.Bool.{MatchBool}
use Rattle.hgs_commit.specs.Commit.{ClashBy, is_free}
use Rattle.hgs_commit.specs.declared.fault.CommitFault.{CommitFault}
use Rattle.hgs_commit.specs.declared.fault.CommitFault.TheVariants.{Unread, Refused}
use Rattle.hgs_files.specs.Tree.{Tree, after_all}
use Rattle.hgs_load.specs.declared.answer.ReadAnswer.{ReadAnswer}
use Rattle.hgs_loading.specs.Store.{loaded_in}
use Rattle.hgs_model.specs.Repo.{Repo}
use Rattle.hgs_model.specs.Step.{Next, step}
use Rattle.hgs_model.specs.declared.command.Command.TheVariants.{Commit, Import}
use Rattle.hgs_model.specs.declared.command.NewChange.{NewChange}
use Rattle.hgs_model.specs.declared.command.Refusal.{Refusal}
use Rattle.hgs_ops.specs.Laid.{laid}
use Rattle.hgs_ops.specs.Unhindered.{IsReady}
use Rattle.hgs_steps.specs.Parents.{named_all, parents_answer}
use Rattle.hgs_steps.specs.Planned.{IsLoadedOf, IsStepOf}
use Rattle.hgs_steps.specs.declared.fault.PlanFault.{PlanFault}
use Rattle.hgs_steps.specs.declared.fault.PlanFault.TheVariants.{Refused as refused_for}
use Rattle.hgs_steps.specs.declared.loaded.Loaded.{Loaded}
use Rattle.hgs_steps.specs.declared.step.Step.{Step}
use Rattle.hgs_writer.specs.Commits.{CanBeRead, Hinders, IsLimit}
use Rattle.hgs_writer.specs.Free.{IsFree}
use Rattle.hgs_writer.specs.Limits.{LoadsWithin}

-- What is read for each record is within the limits, in the tree into which those before it, which are accepted, are laid.
abbrev pub AreReadWithin : Tree → Repo → List NewChange → Type 0
AreReadWithin t r [] = Unit {0}
AreReadWithin t r (n ∷ changes) = LoadsWithin t r × CanBeRead t r × ((next : Next) → step r (Commit n) ≡ Ok next → AreReadWithin (after_all (laid t r n next.0) t) next.0 changes)

-- This holds of one of the records, on the tree into which those before it are laid; these are accepted.
abbrev pub SomeRecord : (Tree → Repo → NewChange → Type 0) → Tree → Repo → List NewChange → Type 0
SomeRecord Holds t r [] = ⊥
SomeRecord Holds t r (n ∷ changes) = Holds t r n ⊎ ((next : Next) × (step r (Commit n) ≡ Ok next) × SomeRecord Holds (after_all (laid t r n next.0) t) next.0 changes)

-- The commit is hindered by what was told of names that clash, by what is loaded of the tree, or for want of room.
pub record IsHindered (t : Tree) (r : Repo) (n : NewChange) (next : Repo) (fault : PlanFault) : Type 0 where
  pub loaded : Loaded
  pub is_loaded : IsLoadedOf t loaded
  pub clash : Option (List ℕ)
  pub told : ClashBy loaded n t (parents_answer (named_all loaded n.parents)) clash
  pub hinders : Hinders (IsFree t r next) clash fault

-- The refusal is the repository's; or it accepts, and this keeps the commit from being written.
abbrev pub IsKeptBy : Tree → Repo → NewChange → PlanFault → Result Next Refusal → Type 0
IsKeptBy t r n fault (Err e) = fault ≡ refused_for e
IsKeptBy t r n fault (Ok next) = IsHindered t r n next.0 fault

-- It is unread only for a limit of what a commit reads, or where what is loaded before passes one.
abbrev pub IsUnread : Tree → Repo → ReadAnswer → Type 0
IsUnread t r why = (IsLimit why × (CanBeRead t r → ⊥)) ⊎ ((loaded_in t ≡ Err why) × (LoadsWithin t r → ⊥))

-- why a record comes to nothing
abbrev pub ComesToNothing : CommitFault → Tree → Repo → NewChange → Type 0
ComesToNothing (Unread why) t r n = IsUnread t r why
ComesToNothing (Refused fault) t r n = IsKeptBy t r n fault (step r (Commit n))

-- An import is answered by its step, for which the tree is ready; or it comes to nothing for one of its records, or for a fault of the
-- files or want of memory.
abbrev pub ImportAnswersAs : Tree → Repo → List NewChange → Result Step CommitFault → Result Next Refusal → Type 0
ImportAnswersAs t r changes (Ok step) (Err e) = ⊥
ImportAnswersAs t r changes (Ok step) (Ok next) = IsStepOf t r (Import changes) next step × IsReady t r (Import changes) next.0
ImportAnswersAs t r changes (Err fault) answer = MatchBool (is_free fault) ⊤ (SomeRecord (ComesToNothing fault) t r changes)
