-- What recovering leaves in the log, by its answer.
use Rattle.std.specs.Prelude.{◌≡◌, List, [], ◌∷◌, ◌++◌, Bool, true, Some, None, Ok}
use Rattle.hgs_files.specs.declared.op.Op.{Op}
use Rattle.hgs_files.specs.Log.{IsDone}
use Rattle.hgs_files.specs.Stop.{StopLeaves}
use Rattle.hgs_files.specs.Tree.{Tree, after_all}
use Rattle.hgs_recover.specs.declared.answer.RecoverAnswer.{RecoverAnswer}
use Rattle.hgs_recover.specs.declared.answer.RecoverAnswer.TheVariants.{Restored, NothingToDo, Damaged, Fault, Unfinished, Memory}
use Rattle.hgs_recover.specs.Clearing.{Clears, leftover_paths}
use Rattle.hgs_recover.specs.Found.{found_in}

-- The operations that undo the transaction were all done, and then what was left over was removed.
pub record IsUndone (ops : List Op) (t : Tree) (swept : Bool) (log : List Op) : Type 0 where
  pub undone : List Op
  pub done : IsDone ops undone []
  pub removed : List Op
  pub clears : Clears leftover_paths (after_all undone t) swept removed
  pub whole : log ≡ undone ++ removed

-- They broke off, with something left, and nothing was removed.
pub record BrokeOff (ops : List Op) (swept : Bool) (log : List Op) : Type 0 where
  pub op : Op
  pub left : List Op
  pub done : IsDone ops log (op ∷ left)
  pub nothing_removed : swept ≡ true

abbrev pub DidNothing : Bool → List Op → Type 0
DidNothing swept log = (log ≡ []) × (swept ≡ true)

-- All is undone or a front of it; where there is nothing to do what is left over is removed; else nothing is done.
abbrev pub RecoversBy : Tree → RecoverAnswer → Bool → List Op → Type 0
RecoversBy t Restored swept log = (ops : List Op) × (found_in t ≡ Ok (Some ops)) × IsUndone ops t swept log
RecoversBy t NothingToDo swept log = (found_in t ≡ Ok None) × Clears leftover_paths t swept log
RecoversBy t (Damaged d) swept log = DidNothing swept log
RecoversBy t Fault swept log = DidNothing swept log
RecoversBy t Unfinished swept log = (ops : List Op) × (found_in t ≡ Ok (Some ops)) × BrokeOff ops swept log
RecoversBy t Memory swept log = DidNothing swept log

-- The answer is this one, or the recovery broke off; or a call failed or there was no memory before anything was done.
abbrev pub Answers : RecoverAnswer → RecoverAnswer → Type 0
Answers given Restored = given ≡ Restored
Answers given NothingToDo = given ≡ NothingToDo
Answers given (Damaged d) = given ≡ Damaged d
Answers given Unfinished = given ≡ Restored
Answers given Fault = Unit {0}
Answers given Memory = Unit {0}

-- From a tree recovering was begun any number of times, and each time it was stopped or came to an end, whatever it answered.
pub data Attempts (t : Tree) : Tree → Type 0 where
  not_yet : Attempts t t
  once_more : (u v : Tree) (answer : RecoverAnswer) (swept : Bool) (log : List Op) → Attempts t u → RecoversBy u answer swept log → StopLeaves u log v → Attempts t v

-- this holds where what is left over was to be removed
abbrev pub WhereSwept : RecoverAnswer → Type 0 → Type 0
WhereSwept Restored Holds = Holds
WhereSwept NothingToDo Holds = Holds
WhereSwept answer Holds = Unit {0}
