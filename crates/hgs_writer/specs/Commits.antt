-- When what is planned of a commit is the repository's answer.
use Rattle.std.specs.Prelude.{◌≡◌, ◌≤◌, ℕ, List, true, length, Option, Some, Result, Ok, Err}
use Rattle.std.specs.List.{AllByRecursion}
use Rattle.hgs_files.specs.Tree.{Tree, bytes_at}
use Rattle.hgs_index.specs.Either.{chunks_either}
use Rattle.hgs_model.specs.History.{history, uses}
use Rattle.hgs_model.specs.Repo.{Changeset, Repo}
use Rattle.hgs_model.specs.Step.{Next}
use Rattle.hgs_model.specs.declared.command.Command.TheVariants.{Commit}
use Rattle.hgs_model.specs.declared.command.NewChange.{NewChange}
use Rattle.hgs_model.specs.declared.command.Refusal.{Refusal}
use Rattle.hgs_ops.specs.Unhindered.{IsReady}
use Rattle.hgs_path.specs.declared.name.Ext.TheVariants.{D, I}
use Rattle.hgs_path.specs.StoreName.{store_name}
use Rattle.hgs_index.specs.declared.kinds.Which.{Which}
use Rattle.hgs_reader.specs.Contents.{most_files}
use Rattle.hgs_load.specs.declared.answer.ReadAnswer.{ReadAnswer}
use Rattle.hgs_revlog.specs.Held.{AreWithinLimits}
use Rattle.hgs_steps.specs.Parents.{named_all, parents_answer}
use Rattle.hgs_steps.specs.Planned.{IsStepOf}
use Rattle.hgs_steps.specs.declared.fault.PlanFault.{PlanFault}
use Rattle.hgs_steps.specs.declared.fault.PlanFault.TheVariants.{Refused, Limit, NameClash, InTheWay, Collision, Memory}
use Rattle.hgs_steps.specs.declared.loaded.Loaded.{Loaded}
use Rattle.hgs_steps.specs.declared.step.Step.{Step}
use Rattle.hgs_commit.specs.Commit.{ClashBy}
use Rattle.hgs_commit.specs.declared.fault.CommitFault.{CommitFault}
use Rattle.hgs_legal.specs.ListsPaths.{ListsPaths}
use Rattle.hgs_writer.specs.BytePaths.{HasBytePaths}
use Rattle.hgs_writer.specs.Free.{IsFree}

-- Each changeset has as few files as may be read, and each filelog is within the limits of a revlog.
pub record CanBeRead (t : Tree) (r : Repo) : Type 0 where
  pub trees : AllByRecursion (λ (c : Changeset). length c.tree ≤ most_files) r.changesets
  pub filelogs : (path : List ℕ) → uses r.changesets path ≡ true → AreWithinLimits ((history r.changesets).filelog path) (chunks_either (bytes_at t (store_name path I)) (bytes_at t (store_name path D)))

-- a limit of reading
abbrev pub IsLimit : ReadAnswer → Type 0
IsLimit answer = (which : Which) × (answer ≡ ReadAnswer.Limit which)

-- What keeps an accepted commit from being written: the clash of names that was told; or a limit, a file in the way or a
-- collision, none of which is there where there is room for it.
abbrev pub Hinders : Type 0 → Option (List ℕ) → PlanFault → Type 0
Hinders HasRoom clash (Refused e) = ⊥
Hinders HasRoom clash (Limit which) = HasRoom → ⊥
Hinders HasRoom clash (NameClash path) = clash ≡ Some path
Hinders HasRoom clash (InTheWay path) = HasRoom → ⊥
Hinders HasRoom clash (Collision path rev) = HasRoom → ⊥
Hinders HasRoom clash Memory = ⊥

-- The step is the repository's; and where it was told whether names clash, the tree is ready for it, if its list of filelogs has only
-- names of paths, and the commit's paths are bytes.
pub record IsCommitOf (IsTold : Type 0) (t : Tree) (r : Repo) (n : NewChange) (next : Next) (step : Step) : Type 0 where
  pub as_step : IsStepOf t r (Commit n) next step
  pub ready : IsTold → ListsPaths t r → HasBytePaths n → IsReady t r (Commit n) next.0

abbrev pub AnswersWith : Type 0 → Tree → Repo → NewChange → Option (List ℕ) → Result Step CommitFault → Result Next Refusal → Type 0
AnswersWith IsTold t r n clash (Err (CommitFault.Unread why)) answer = IsLimit why × (CanBeRead t r → ⊥)
AnswersWith IsTold t r n clash (Err (CommitFault.Refused fault)) (Err e) = fault ≡ Refused e
AnswersWith IsTold t r n clash (Err (CommitFault.Refused fault)) (Ok next) = Hinders (IsFree t r next.0) clash fault
AnswersWith IsTold t r n clash (Ok step) (Err e) = ⊥
AnswersWith IsTold t r n clash (Ok step) (Ok next) = IsCommitOf IsTold t r n next step

-- A commit is answered as the repository answers it: with the same refusal, or where that accepts with its step, unless
-- something keeps it from being written. It is unread only for a limit of reading, where one is passed.
abbrev pub AnswersAs : Tree → Repo → Loaded → NewChange → Option (List ℕ) → Result Step CommitFault → Result Next Refusal → Type 0
AnswersAs t r l n clash given answer = AnswersWith (ClashBy l n t (parents_answer (named_all l n.parents)) clash) t r n clash given answer
