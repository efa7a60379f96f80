-- When nothing keeps a command from being done.
use Rattle.std.specs.Prelude.{◌≡◌, ◌⊎◌, ℕ, List, true, false, Ok, ⊤}
use Rattle.hgs_answers.specs.declared.answer.Answer.{Answer}
use Rattle.hgs_answers.specs.declared.outcome.Outcome.{Outcome}
use Rattle.hgs_answers.specs.declared.outcome.Outcome.TheVariants.{Done, Fault, Memory, NameClash, Unfinished}
use Rattle.hgs_files.specs.declared.op.Op.{Op}
use Rattle.hgs_files.specs.Tree.{Tree, after_all}
use Rattle.hgs_index.specs.declared.node.Node.{Node}
use Rattle.hgs_legal.specs.ListsPaths.{ListsPaths}
use Rattle.hgs_model.specs.Repo.{Repo}
use Rattle.hgs_model.specs.Step.{Next, step}
use Rattle.hgs_model.specs.Valid.{IsValid}
use Rattle.hgs_model.specs.declared.command.Command.{Command}
use Rattle.hgs_model.specs.declared.command.Command.TheVariants.{Commit, Import}
use Rattle.hgs_stands.specs.Stands.{IsClean, has_inline_log}
use Rattle.hgs_steps.specs.Planned.{passes_limit}
use Rattle.hgs_writer.specs.Alone.{ReadsWithin, SomeLacksRoom}
use Rattle.hgs_writer.specs.Free.{IsFree}
use Rattle.hgs_writer.specs.Limits.{LoadsWithin}
use Rattle.hgs_causes.specs.Clashes.{IsClashOf}

-- There is room for the commit, or for each record of the import, and no name of the commit clashes. Of another command neither the
-- bookmarks pass their limit nor is changelog or manifest inline.
abbrev pub CanBeWritten : Tree → Repo → Command → Repo → Type 0
CanBeWritten t r (Commit n) next = IsFree t r next × ((other : List ℕ) → IsClashOf t n other → ⊥)
CanBeWritten t r (Import changes) next = SomeLacksRoom t r changes → ⊥
CanBeWritten t r command next = (passes_limit r next ≡ false) × (has_inline_log t ≡ false)

-- The files stand for a repository that accepts the command, without a lock; they list only names of paths, are within the limits of
-- what is read, and nothing is in the way.
pub record CanBeDone (t : Tree) (r : Repo) (command : Command) (next : Next) : Type 0 where
  pub clean : IsClean t r
  pub lists : ListsPaths t r
  pub valid : IsValid command
  pub accepted : step r command ≡ Ok next
  pub loads : LoadsWithin t r
  pub reads : ReadsWithin t r command
  pub written : CanBeWritten t r command next.0

abbrev pub IsImport : Command → Type 0
IsImport (Import changes) = ⊤
IsImport command = ⊥

-- It is done, unless the files failed or there was no memory. Names of an import may clash.
abbrev pub EndsAs : Command → Outcome → Type 0
EndsAs command (Done rev node) = ⊤
EndsAs command Fault = ⊤
EndsAs command Memory = ⊤
EndsAs command (Unfinished published) = ⊤
EndsAs command (NameClash other) = IsImport command
EndsAs command _ = ⊥

-- It is done as the repository does it, nothing is left over, and the files are clean for the next repository.
abbrev pub IsWellDone : Tree → Next → Answer → List Op → Type 0
IsWellDone t next answer done = (rev : ℕ) × (node : Node) × (answer.outcome ≡ Done rev node) × (rev ≡ next.1.rev) × (node.0 ≡ next.1.node) × (answer.swept ≡ true) × IsClean (after_all done t) next.0

-- So it is; or there was no memory, or names of an import clash.
abbrev pub EndsWell : Tree → Command → Next → Answer → List Op → Type 0
EndsWell t command next answer done = IsWellDone t next answer done ⊎ ((answer.outcome ≡ Memory) ⊎ (IsImport command × ((other : List ℕ) × (answer.outcome ≡ NameClash other))))
