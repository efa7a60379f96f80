-- Which transactions a call publishes, by its answer.
use Rattle.std.specs.Prelude.{◌≡◌, ◌⊎◌, ℕ, List, [], ◌∷◌, ◌++◌, Option, Some, None}
use Rattle.hgs_answers.specs.declared.outcome.Outcome.{Outcome}
use Rattle.hgs_answers.specs.declared.outcome.Outcome.TheVariants.{Done, Unfinished}
use Rattle.hgs_answers.specs.declared.outcome.Published.{Published}
use Rattle.hgs_answers.specs.declared.outcome.Published.TheVariants.{No, Yes, Unknown}
use Rattle.hgs_files.specs.declared.op.Op.{Op}
use Rattle.hgs_index.specs.declared.node.Node.{Node}
use Rattle.hgs_legal.specs.LegalLog.{Idle, Leaves, Run, State, Turn}
use Rattle.hgs_model.specs.Step.{Answer}
use Rattle.hgs_model.specs.declared.command.Command.{Command}

-- ---- states between calls

-- No writer is at work, or the one that is may stop here; this is left behind of a transaction whose journal stands.
abbrev pub IsAtRest : Option (List Op) → State → Type 0
IsAtRest left s = (rest : List Op) × Leaves s.doing (Idle left rest)

-- A log leads from a state to one at rest: it publishes these transactions more, and leaves this behind.
pub record LeadsOn (s : State) (log : List Op) (turns : List Turn) (left : Option (List Op)) : Type 0 where
  pub state : State
  pub run : Run s log state
  pub first : state.first ≡ s.first
  pub published : state.published ≡ s.published ++ turns
  pub at_rest : IsAtRest left state

-- ---- calls

-- The bytes that a call put into the locks, its command, and the changeset that it told.
pub record Order : Type 0 where
  pub who : List ℕ
  pub command : Command
  pub changeset : Option (ℕ × Node)

abbrev pub IsTold : Option (ℕ × Node) → Answer → Type 0
IsTold None answer = ⊥
IsTold (Some changeset) answer = (changeset.0 ≡ answer.rev) × (changeset.1.0 ≡ answer.node)

-- the transaction of a call
pub record IsTurnOf (o : Order) (x : Turn) : Type 0 where
  pub who : x.who ≡ o.who
  pub command : x.command ≡ o.command
  pub told : IsTold o.changeset x.answer

-- The call publishes its transaction, and no other.
abbrev pub LeadsToOne : State → List Op → Order → Option (List Op) → Type 0
LeadsToOne s log o left = (x : Turn) × IsTurnOf o x × LeadsOn s log (x ∷ []) left

-- By how far it came, a call that broke off has published its transaction, or has not, or one of the two. Its journal is left.
abbrev pub BreaksOffAs : State → List Op → Order → Published → Type 0
BreaksOffAs s log o No = (left : List Op) × LeadsOn s log [] (Some left)
BreaksOffAs s log o Yes = (left : List Op) × LeadsToOne s log o (Some left)
BreaksOffAs s log o Unknown = (left : List Op) × (LeadsOn s log [] (Some left) ⊎ LeadsToOne s log o (Some left))

-- By its answer, a call publishes its transaction, or none, or breaks off.
abbrev pub LeadsAs : State → List Op → Order → Outcome → Type 0
LeadsAs s log o (Done rev node) = LeadsToOne s log o None
LeadsAs s log o (Unfinished published) = BreaksOffAs s log o published
LeadsAs s log o outcome = LeadsOn s log [] None
