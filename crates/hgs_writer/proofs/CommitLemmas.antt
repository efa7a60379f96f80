-- What a commit comes to is what the repository makes of it.
use Rattle.std.proofs.Common.{inl, inr, ◌≡◌, ℕ, List, Bool, false, refl, sym, ◌∙◌, subst}
use Rattle.std.specs.Prelude.{IsOk, Option, Result, Ok, Err, ⊤}
use Rattle.std.specs.Bool.{MatchBool}
use Rattle.hgs_commit.specs.Commit.{ClashBy, Steps, commit_in, is_free}
use Rattle.hgs_commit.specs.declared.fault.CommitFault.{CommitFault}
use Rattle.hgs_commit.specs.declared.fault.CommitFault.TheVariants as commits
use Rattle.hgs_answers.specs.declared.outcome.Outcome.{Outcome}
use Rattle.hgs_answers.specs.declared.outcome.Outcome.TheVariants as outcomes
use Rattle.hgs_index.specs.declared.kinds.Which.{Which}
use Rattle.hgs_files.specs.declared.op.Op.{Op}
use Rattle.hgs_files.specs.Tree.{Tree, after_all}
use Rattle.hgs_machine.specs.Locks.{AreLocked}
use Rattle.hgs_model.specs.Repo.{Repo}
use Rattle.hgs_model.specs.Step.{Next, step}
use Rattle.hgs_model.specs.Valid.{AreNewChanges, IsNewChange, IsValid}
use Rattle.hgs_model.specs.declared.command.Command.{Command}
use Rattle.hgs_model.specs.declared.command.Command.TheVariants.{Commit, Import, Mark, Move, Unmark}
use Rattle.hgs_model.specs.declared.command.NewChange.{NewChange}
use Rattle.hgs_model.specs.declared.command.Refusal.{Refusal}
use Rattle.hgs_ops.specs.Theorems.Beside.{AreSameAside}
use Rattle.hgs_ops.specs.Unhindered.{IsReady}
use Rattle.hgs_writer.specs.Commits.{AnswersWith, CanBeRead}
use Rattle.hgs_load.specs.Answer.{is_of_outside}
use Rattle.hgs_load.specs.declared.answer.ReadAnswer.{ReadAnswer}
use Rattle.hgs_stands.specs.Stands.{Stands}
use Rattle.hgs_steps.specs.Fault.{is_memory}
use Rattle.hgs_steps.specs.Parents.{named_all, parents_answer}
use Rattle.hgs_steps.specs.Planned.{IsLoadedOf, IsStepOf}
use Rattle.hgs_steps.specs.declared.fault.PlanFault.{PlanFault}
use Rattle.hgs_steps.specs.declared.loaded.Loaded.{Loaded}
use Rattle.hgs_steps.specs.declared.step.Step.{Step}
use Rattle.hgs_legal.specs.ListsPaths.{ListsPaths}
use Rattle.hgs_writer.specs.Alone.{IsAcceptedCommit, IsCommitWithoutRoom, IsOutcomeOf, IsPassed, PassesLimit, ReadsWithin}
use Rattle.hgs_writer.specs.Below.{Below}
use Rattle.hgs_writer.specs.BytePaths.{AreOfBytes, NamesBytes}
use Rattle.hgs_writer.specs.Imports.{ComesToNothing, ImportAnswersAs, SomeRecord}
use Rattle.hgs_writer.specs.Limits.{LoadsWithin}
use Rattle.hgs_writer.specs.Records.{ImportComesTo}
use Rattle.hgs_writer.proofs.AsideLemmas.{form-stays, lacks-before, lists-stay, loads-stay, read-stays, some-alike, some-before, within-stay}
use Rattle.hgs_writer.proofs.UnderLemmas.{beside-aside, same-beside}

-- ---- under the locks

module _ (laws : Below) (t : Tree) (who : List ℕ) (locking : List Op) (locks : AreLocked who t locking) where
  -- locks aside the tree is the same
  under : AreSameAside t (after_all locking t)
  under = beside-aside t (after_all locking t) (same-beside who t locking locks)

  pub lists-under-locks : (r : Repo) → ListsPaths t r → ListsPaths (after_all locking t) r
  lists-under-locks r lists = lists-stay laws t (after_all locking t) under r lists

  pub loads-under-locks : (r : Repo) → LoadsWithin t r → LoadsWithin (after_all locking t) r
  loads-under-locks r within = loads-stay laws t (after_all locking t) under r within

  pub reads-under-locks : (r : Repo) (command : Command) → ReadsWithin t r command → ReadsWithin (after_all locking t) r command
  reads-under-locks r (Commit n) within = (within.0, read-stays laws t (after_all locking t) under r within.1)
  reads-under-locks r (Import changes) within = (within.0, lists-under-locks r within.1, within-stay laws t (after_all locking t) r changes under within.2)
  reads-under-locks r (Move name to force) within = tt
  reads-under-locks r (Mark mark name) within = tt
  reads-under-locks r (Unmark mark) within = tt

  commit-before : (r : Repo) (command : Command) (stepped : Result Next Refusal) → IsCommitWithoutRoom (after_all locking t) r command stepped → IsCommitWithoutRoom t r command stepped
  commit-before r (Commit n) stepped lacks = lacks-before laws t (after_all locking t) under r stepped lacks
  commit-before r (Import changes) stepped some = some-before laws t (after_all locking t) r changes under some
  commit-before r (Move name to force) stepped lacks = lacks
  commit-before r (Mark mark name) stepped lacks = lacks
  commit-before r (Unmark mark) stepped lacks = lacks

  passed-before : (r : Repo) (which : Which) (stepped : Result Next Refusal) → IsPassed (after_all locking t) r which stepped → IsPassed t r which stepped
  passed-before r which stepped (inl marks) = inl marks
  passed-before r which stepped (inr form) = inr (form.0, form.1, sym (form-stays laws t (after_all locking t) under) ∙ form.2)

  limit-before : (r : Repo) (command : Command) (which : Which) (stepped : Result Next Refusal) → PassesLimit (after_all locking t) r command which stepped → PassesLimit t r command which stepped
  limit-before r (Commit n) which stepped passes = lacks-before laws t (after_all locking t) under r stepped passes
  limit-before r (Import changes) which stepped some = some-before laws t (after_all locking t) r changes under some
  limit-before r (Move name to force) which stepped passes = passed-before r which stepped passes
  limit-before r (Mark mark name) which stepped passes = passed-before r which stepped passes
  limit-before r (Unmark mark) which stepped passes = passed-before r which stepped passes

  accepted-before : (r : Repo) (command : Command) (stepped : Result Next Refusal) → IsAcceptedCommit (after_all locking t) r command stepped → IsAcceptedCommit t r command stepped
  accepted-before r (Commit n) stepped is = is
  accepted-before r (Import changes) stepped some = some-alike (λ now n. IsOk (step now (Commit n))) t (after_all locking t) r changes some
  accepted-before r (Move name to force) stepped is = is
  accepted-before r (Mark mark name) stepped is = is
  accepted-before r (Unmark mark) stepped is = is

  -- what a command comes to under the locks it comes to
  pub outcome-before : (r : Repo) (command : Command) (stepped : Result Next Refusal) (outcome : Outcome) → IsOutcomeOf (after_all locking t) r command stepped outcome → IsOutcomeOf t r command stepped outcome
  outcome-before r command stepped (outcomes.Limit which) is = limit-before r command which stepped is
  outcome-before r command stepped (outcomes.InTheWay path) is = commit-before r command stepped is
  outcome-before r command stepped (outcomes.Collision path rev) is = commit-before r command stepped is
  outcome-before r command stepped (outcomes.Done rev node) is = (is.0, sym (form-stays laws t (after_all locking t) under) ∙ is.1)
  outcome-before r command stepped (outcomes.LockHeld holder) is = is
  outcome-before r command stepped outcomes.Abandoned is = is
  outcome-before r command stepped outcomes.UnknownRevision is = is
  outcome-before r command stepped outcomes.UnknownPath is = is
  outcome-before r command stepped (outcomes.CopyOver path) is = is
  outcome-before r command stepped (outcomes.NothingChanged rev) is = is
  outcome-before r command stepped (outcomes.Damaged damage) is = is
  outcome-before r command stepped outcomes.Fault is = is
  outcome-before r command stepped (outcomes.Unsettled rev node) is = is
  outcome-before r command stepped (outcomes.Unfinished published) is = (is.0, sym (form-stays laws t (after_all locking t) under) ∙ is.1)
  outcome-before r command stepped (outcomes.NameClash path) is = accepted-before r command stepped is
  outcome-before r command stepped (outcomes.NeedsForce rev) is = is
  outcome-before r command stepped outcomes.Memory is = is

-- ---- what is planned of a commit

-- A commit that a record can hold; an import whose records each can, by paths that are bytes, over a tree that lists only names of paths;
-- or another command.
abbrev pub IsFit : Tree → Repo → Command → Type 0
IsFit t r (Commit n) = IsNewChange n
IsFit t r (Import changes) = AreNewChanges changes × AreOfBytes changes × ListsPaths t r
IsFit t r command = Unit {0}

pub valid-fit : (t : Tree) (r : Repo) (command : Command) → IsValid command → NamesBytes command → ListsPaths t r → IsFit t r command
valid-fit t r (Commit n) valid bytes lists = valid
valid-fit t r (Import changes) valid bytes lists = (valid, bytes, lists)
valid-fit t r (Move name to force) valid bytes lists = tt
valid-fit t r (Mark mark name) valid bytes lists = tt
valid-fit t r (Unmark mark) valid bytes lists = tt

pub reads-fit : (t : Tree) (r : Repo) (command : Command) → ReadsWithin t r command → NamesBytes command → IsFit t r command
reads-fit t r (Commit n) within bytes = within.0
reads-fit t r (Import changes) within bytes = (within.0, bytes, within.1)
reads-fit t r (Move name to force) within bytes = tt
reads-fit t r (Mark mark name) within bytes = tt
reads-fit t r (Unmark mark) within bytes = tt

-- a step that is planned is the repository's
pub record IsStepFor (u : Tree) (r : Repo) (command : Command) (step_is : Step) : Type 0 where
  pub next : Next
  pub accepted : step r command ≡ Ok next
  pub as_step : IsStepOf u r command next step_is
  pub ready : ListsPaths u r → NamesBytes command → IsReady u r command next.0

module _ (laws : Below) (u : Tree) (r : Repo) (l : Loaded) (n : NewChange) (s : Stands u r) (loads : IsLoadedOf u l) (good : IsNewChange n) where
  abbrev pub IsTold : Option (List ℕ) → Type 0
  IsTold clash = ClashBy l n u (parents_answer (named_all l n.parents)) clash

  -- the answer that is given
  given : (clash : Option (List ℕ)) (result : Result Step CommitFault) → commit_in clash l n u ≡ result → AnswersWith (IsTold clash) u r n clash result (step r (Commit n))
  given clash result e = subst (λ (x : Result Step CommitFault). AnswersWith (IsTold clash) u r n clash x (step r (Commit n))) e (laws.committed u r l n clash s loads good)

  pub commit-step : (step_is : Step) → Steps l n u (Ok step_is) → IsStepFor u r (Commit n) step_is
  commit-step step_is comes = by (step r (Commit n)) refl (given comes.0 (Ok step_is) comes.2)
    where
      by : (stepped : Result Next Refusal) → step r (Commit n) ≡ stepped → AnswersWith (IsTold comes.0) u r n comes.0 (Ok step_is) stepped → IsStepFor u r (Commit n) step_is
      by (Err e) is made = absurd made
      by (Ok next) is made = record { next = next; accepted = is; as_step = made.as_step; ready = made.ready comes.1 }

  -- a refusal that is no want of memory
  pub commit-fault : (fault : PlanFault) → is_memory fault ≡ false → Steps l n u (Err (commits.Refused fault)) → (clash : Option (List ℕ)) × AnswersWith (IsTold clash) u r n clash (Err (commits.Refused fault)) (step r (Commit n))
  commit-fault fault known comes =
      let told : (clash : Option (List ℕ)) × IsTold clash × (commit_in clash l n u ≡ Err (commits.Refused fault)) = subst (λ (b : Bool). MatchBool b ⊤ ((clash : Option (List ℕ)) × IsTold clash × (commit_in clash l n u ≡ Err (commits.Refused fault)))) known comes in
      (told.0, given told.0 (Err (commits.Refused fault)) told.2)

  -- what is damaged or passes a limit of reading
  pub commit-read : {A : Type 0} (e : ReadAnswer) → is_of_outside e ≡ false → CanBeRead u r → Steps l n u (Err (commits.Unread e)) → A
  commit-read e known read comes =
      let told : (clash : Option (List ℕ)) × IsTold clash × (commit_in clash l n u ≡ Err (commits.Unread e)) = subst (λ (b : Bool). MatchBool b ⊤ ((clash : Option (List ℕ)) × IsTold clash × (commit_in clash l n u ≡ Err (commits.Unread e)))) known comes in
      absurd ((given told.0 (Err (commits.Unread e)) told.2).1 read)

-- ---- what is planned of an import

module _ (laws : Below) (u : Tree) (r : Repo) (l : Loaded) (changes : List NewChange) (s : Stands u r) (loads : IsLoadedOf u l) (fit : IsFit u r (Import changes)) where
  pub import-step : (step_is : Step) → ImportComesTo u l changes (Ok step_is) → IsStepFor u r (Import changes) step_is
  import-step step_is comes = by (step r (Import changes)) refl (laws.imported u r l changes (Ok step_is) s loads fit.0 fit.1 fit.2 comes)
    where
      by : (stepped : Result Next Refusal) → step r (Import changes) ≡ stepped → ImportAnswersAs u r changes (Ok step_is) stepped → IsStepFor u r (Import changes) step_is
      by (Err e) is made = absurd made
      by (Ok next) is made = record { next = next; accepted = is; as_step = made.0; ready = λ lists bytes. made.1 }

  -- a refusal that is no fault of the outside
  pub import-fault : (fault : CommitFault) → is_free fault ≡ false → ImportComesTo u l changes (Err fault) → SomeRecord (ComesToNothing fault) u r changes
  import-fault fault known comes = subst (λ (b : Bool). MatchBool b ⊤ (SomeRecord (ComesToNothing fault) u r changes)) known (laws.imported u r l changes (Err fault) s loads fit.0 fit.1 fit.2 comes)
