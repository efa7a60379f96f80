-- What processes do to a repository, one after another, and which of their commands are acknowledged.
use Rattle.std.specs.Prelude.{◌≡◌, ◌⊎◌, ℕ, List, [], ◌∷◌, ◌++◌, Bool, None, Ok}
use Rattle.hgs_answers.specs.declared.answer.Answer.{Answer}
use Rattle.hgs_answers.specs.declared.outcome.Outcome.TheVariants.{Done}
use Rattle.hgs_files.specs.declared.op.Op.{Op}
use Rattle.hgs_files.specs.Stop.{IsStopped, StopLeaves}
use Rattle.hgs_files.specs.Tree.{Tree, after_all}
use Rattle.hgs_index.specs.declared.node.Node.{Node}
use Rattle.hgs_journal.specs.Names.{journal_path}
use Rattle.hgs_legal.specs.ListsPaths.{ListsPaths}
use Rattle.hgs_legal.specs.Pieces.{Early, Piece}
use Rattle.hgs_model.specs.Repo.{Repo}
use Rattle.hgs_model.specs.Step.{Next, step}
use Rattle.hgs_model.specs.Valid.{IsValid}
use Rattle.hgs_model.specs.declared.command.Command.{Command}
use Rattle.hgs_ops.specs.Operations.{strays}
use Rattle.hgs_recover.specs.Recovering.{RecoversBy}
use Rattle.hgs_recover.specs.declared.answer.RecoverAnswer.{RecoverAnswer}
use Rattle.hgs_stands.specs.Open.{IsOpen}
use Rattle.hgs_stands.specs.Stands.{Stands}
use Rattle.hgs_writer.specs.Written.{IsWritten}

-- One process over the files of a repository: which command it acknowledged, what it left, and the repository to which the acknowledged
-- commands lead then. A command is acknowledged where its transaction is published and its journal removed, and no other is.
pub data Process (t : Tree) (r : Repo) : List Command → Tree → Repo → Type 0 where
  -- a call that says that it is done
  is_done : (who : List ℕ) (command : Command) (answer : Answer) (log : List Op) (rev : ℕ) (node : Node) (next : Next) → IsValid command → IsWritten who command t answer log → answer.outcome ≡ Done rev node → step r command ≡ Ok next
      → Process t r (command ∷ []) (after_all log t) next.0
  -- one that says anything else
  is_refused : (who : List ℕ) (command : Command) (answer : Answer) (log : List Op) → IsValid command → IsWritten who command t answer log → ((rev : ℕ) (node : Node) → answer.outcome ≡ Done rev node → ⊥)
      → Process t r [] (after_all log t) r
  -- one that is stopped before its journal is removed behind a published transaction, or beside the journal of another
  is_stopped : (who : List ℕ) (command : Command) (answer : Answer) (log done : List Op) → IsValid command → IsWritten who command t answer log → IsStopped log done → (t journal_path ≡ None → Early t r done)
      → Process t r [] (after_all done t) r
  -- one that is stopped behind that
  is_stopped_behind : (who : List ℕ) (command : Command) (answer : Answer) (log done : List Op) (next : Next) → IsValid command → IsWritten who command t answer log → IsStopped log done → t journal_path ≡ None → step r command ≡ Ok next → Piece t r done next.0
      → Process t r (command ∷ []) (after_all done t) next.0
  -- a recovery, which comes to an end or is stopped
  is_recovered : (u : Tree) (answer : RecoverAnswer) (swept : Bool) (log : List Op) → RecoversBy t answer swept log → StopLeaves t log u → Process t r [] u r

-- Any of these, one after another.
pub data Lives (t : Tree) (r : Repo) : List Command → Tree → Repo → Type 0 where
  not_yet : Lives t r [] t r
  and_then : (u v : Tree) (s next : Repo) (acknowledged more : List Command) → Lives t r acknowledged u s → Process u s more v next → Lives t r (acknowledged ++ more) v next

-- Commands are accepted one after another, from one repository to another.
abbrev pub LeadTo : Repo → List Command → Repo → Type 0
LeadTo r [] s = s ≡ r
LeadTo r (command ∷ commands) s = (next : Next) × (step r command ≡ Ok next) × LeadTo next.0 commands s

-- The tree stands for the repository, or can be taken back to it; and its list of filelogs has only names of paths.
abbrev pub Keeps : Tree → Repo → Type 0
Keeps t r = (Stands t r ⊎ IsOpen strays t r) × ListsPaths t r
