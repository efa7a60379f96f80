-- What a command is planned to, from the tree that is read under the locks.
use Rattle.std.specs.Prelude.{◌≡◌, [], length, unwrap_or, Result, Ok, Err, ⊤}
use Rattle.std.specs.Bool.{MatchBool}
use Rattle.hgs_commit.specs.declared.fault.CommitFault.{CommitFault}
use Rattle.hgs_commit.specs.declared.fault.CommitFault.TheVariants.{Unread, Refused}
use Rattle.hgs_files.specs.Tree.{Tree}
use Rattle.hgs_loading.specs.Store.{Loaded as Read, loaded_in}
use Rattle.hgs_model.specs.declared.command.Command.{Command}
use Rattle.hgs_model.specs.declared.command.Command.TheVariants.{Commit, Import, Move, Mark, Unmark}
use Rattle.hgs_path.specs.Fncache.{listing}
use Rattle.hgs_load.specs.Answer.{is_of_outside}
use Rattle.hgs_load.specs.Marks.{working_of}
use Rattle.hgs_load.specs.declared.answer.ReadAnswer.{ReadAnswer}
use Rattle.hgs_steps.specs.Fault.{is_memory}
use Rattle.hgs_steps.specs.Planned.{IsLoadedOf}
use Rattle.hgs_steps.specs.Steps.{mark_of, move_of, planned, unmark_of}
use Rattle.hgs_steps.specs.declared.fault.PlanFault.{PlanFault}
use Rattle.hgs_steps.specs.declared.fault.PlanFault.TheVariants.{Memory}
use Rattle.hgs_steps.specs.declared.loaded.Loaded.{Loaded}
use Rattle.hgs_steps.specs.declared.step.Step.{Step}
use Rattle.hgs_transaction.specs.Assembled.{IsPlanOf}
use Rattle.hgs_writer.specs.BytePaths.{NamesBytes}
use Rattle.hgs_writer.specs.Records.{CommitComesTo, ImportComesTo}
use Rattle.hgs_writer.specs.declared.plan.Planned.{Planned}

-- What a command is planned from has what was read.
pub record IsLoadedFrom (read : Read) (l : Loaded) : Type 0 where
  pub changelog : l.changelog ≡ read.changelog
  pub manifest : l.manifest ≡ read.manifest
  pub bookmarks : l.bookmarks ≡ read.files.bookmarks.1
  pub working : working_of l.working ≡ read.working
  pub phases : l.phases ≡ read.phases
  pub fncache : listing l.fncache ≡ read.files.fncache.1
  pub fncache_length : l.fncache_length ≡ length (unwrap_or read.files.fncache.0 [])
  pub standing_bookmarks : l.standing.bookmarks ≡ read.files.bookmarks.0
  pub standing_dirstate : l.standing.dirstate ≡ read.files.dirstate.0
  pub standing_roots : l.standing.roots ≡ read.files.roots.0

-- the step is this one, or the command is refused so, or there is no memory
abbrev pub GivesStep : Result Step CommitFault → Result Step PlanFault → Type 0
GivesStep (Ok step) answer = answer ≡ Ok step
GivesStep (Err (Unread e)) answer = ⊥
GivesStep (Err (Refused fault)) answer = MatchBool (is_memory fault) ⊤ (answer ≡ Err fault)

-- What a command comes to by what was loaded of a tree; a commit and an import also read it.
abbrev pub ComesTo : Tree → Loaded → Command → Result Step CommitFault → Type 0
ComesTo t l (Commit n) result = CommitComesTo t l n result
ComesTo t l (Import changes) result = ImportComesTo t l changes result
ComesTo t l (Move rev phase force) result = GivesStep result (planned l (move_of l rev phase force))
ComesTo t l (Mark name rev) result = GivesStep result (planned l (mark_of l name rev))
ComesTo t l (Unmark name) result = GivesStep result (planned l (unmark_of l name))

-- The plan is put together of the parts of the command's step, by what was loaded of the tree: all that is read before is read, and
-- nothing of it refused. The command's paths are bytes.
pub record IsPlannedFor (command : Command) (t : Tree) (p : Planned) : Type 0 where
  pub read : Read
  pub is_read : loaded_in t ≡ Ok read
  pub loaded : Loaded
  pub is_loaded_from : IsLoadedFrom read loaded
  pub is_loaded : IsLoadedOf t loaded
  pub step : Step
  pub comes : ComesTo t loaded command (Ok step)
  pub bytes : NamesBytes command
  pub plan : IsPlanOf step.parts p.plan
  pub rev : p.rev ≡ step.rev
  pub node : p.node ≡ step.node

-- Nothing is planned: what is read before is refused, or it is not and the command is by what was loaded, or there is no memory.
pub data IsNotPlannedFor (command : Command) (t : Tree) : CommitFault → Type 0 where
  is_unread : (e : ReadAnswer) → MatchBool (is_of_outside e) ⊤ (loaded_in t ≡ Err e) → IsNotPlannedFor command t (Unread e)
  is_refused : (read : Read) (l : Loaded) (fault : CommitFault) → loaded_in t ≡ Ok read → IsLoadedFrom read l → IsLoadedOf t l → ComesTo t l command (Err fault) → NamesBytes command → IsNotPlannedFor command t fault
  has_no_memory : IsNotPlannedFor command t (Refused Memory)

-- what a command is planned to
abbrev pub Plans : Command → Tree → Result Planned CommitFault → Type 0
Plans command t (Ok p) = IsPlannedFor command t p
Plans command t (Err fault) = IsNotPlannedFor command t fault
