-- Which logs writers make.
use Rattle.std.specs.Prelude.{◌≡◌, ℕ, List, [], ◌∷◌, ◌++◌, Option, Some, None, Ok}
use Rattle.std.specs.List.{FoldsTo}
use Rattle.hgs_files.specs.declared.op.Op.{Op}
use Rattle.hgs_files.specs.declared.op.Op.TheVariants.{Remove, Create}
use Rattle.hgs_files.specs.Log.{Does}
use Rattle.hgs_files.specs.Tree.{Tree, apply}
use Rattle.hgs_journal.specs.Names.{journal_path}
use Rattle.hgs_model.specs.declared.command.Command.{Command}
use Rattle.hgs_model.specs.Repo.{Repo}
use Rattle.hgs_model.specs.Step.{Answer, step}
use Rattle.hgs_model.specs.Valid.{IsValid}
use Rattle.hgs_stands.specs.Stands.{IsClean}
use Rattle.hgs_ops.specs.Operations.{Transaction, lock_path, removals, transaction_of, wlock_path}
use Rattle.hgs_ops.specs.Unhindered.{IsReady}

-- ---- a writer's turn

-- A writer with its command, the repositories before and after it, its answer and its operations.
pub record Turn : Type 0 where
  pub who : List ℕ
  pub command : Command
  pub first : Repo
  pub next : Repo
  pub answer : Answer
  pub ops : Transaction

-- A command that the repository accepts and nothing hinders, from this tree.
pub record IsTurn (t : Tree) (r : Repo) (x : Turn) : Type 0 where
  pub valid : IsValid x.command
  pub accepted : step r x.command ≡ Ok (x.next, x.answer)
  pub from : x.first ≡ r
  pub listed : x.ops ≡ transaction_of t r x.command x.who x.next
  pub ready : IsReady t r x.command x.next

-- the operations up to the publishing one, and that
abbrev pub to_publishing : Transaction → List Op
to_publishing x = x.changes ++ x.publish ∷ []

-- the same with the rename that gives the journal its name
abbrev pub through_publishing : Transaction → List Op
through_publishing x = x.journal ∷ to_publishing x

-- the operations behind the publishing one, through the journal's removal
abbrev pub through_removal : Transaction → List Op
through_removal x = x.renames ++ Remove journal_path ∷ []

abbrev pub lock_removals : List Op
lock_removals = Remove lock_path ∷ Remove wlock_path ∷ []

-- ---- what stands between two operations

-- Each list is what is still to do.
pub data Doing : Type 0 where
  -- No writer is at work; of these removals each may still be done. Where a journal was left behind, what its transaction
  -- had still to do when it was published.
  Idle : Option (List Op) → List Op → Doing
  -- A writer that is refused: what was left behind, the rest of the creation of a lock, and the removals of the locks that
  -- it made.
  Refused : Option (List Op) → List Op → List Op → Doing
  -- a transaction before its journal has its name
  Preparing : Turn → List Op → Doing
  -- a transaction whose journal has its name, with what is left up to its publishing operation
  Working : Turn → List Op → Doing
  -- a transaction that was published, with what is left up to the removal of its journal
  Published : Turn → List Op → Doing
  -- a transaction that is undone
  Undoing : List Op → Doing

-- where the publishing operation is whole, the transaction is published
abbrev pub worked : Turn → List Op → Doing
worked x [] = Published x (through_removal x.ops)
worked x (op ∷ left) = Working x (op ∷ left)

abbrev pub newly : Turn → List Op → List Turn
newly x [] = x ∷ []
newly x (op ∷ left) = []

-- where the journal is removed, the removals may follow
abbrev pub finished : Turn → List Op → Doing
finished x [] = Idle None removals
finished x (op ∷ left) = Published x (op ∷ left)

abbrev pub undone : List Op → Doing
undone [] = Idle None removals
undone (op ∷ left) = Undoing (op ∷ left)

-- ---- what may be done

-- The writer stops where it is, and nothing but its last removals follows.
pub data Leaves : Doing → Doing → Type 0 where
  stays : {d : Doing} → Leaves d d
  gives_up : {x : Turn} {left : List Op} → Leaves (Preparing x left) (Idle None removals)
  breaks : {x : Turn} {op : Op} {left : List Op} → Leaves (Working x (op ∷ left)) (Idle (Some []) lock_removals)
  breaks_after : {x : Turn} {op : Op} {left : List Op} → Leaves (Published x (op ∷ left)) (Idle (Some (op ∷ left)) lock_removals)
  breaks_undo : {op : Op} {left : List Op} → Leaves (Undoing (op ∷ left)) (Idle (Some []) lock_removals)
  is_refused : {left : Option (List Op)} {creation rest : List Op} → Leaves (Refused left creation rest) (Idle left rest)

-- One operation, over the tree and the repository before it: which transactions it publishes, and what stands after it.
pub data Acts (t : Tree) (r : Repo) : Doing → Op → List Turn → Doing → Type 0 where
  begins : {rest : List Op} {x : Turn} {op : Op} {left : List Op} → IsTurn t r x → Does x.ops.before op left → Acts t r (Idle None rest) op [] (Preparing x left)
  prepares : {x : Turn} {to_do left : List Op} {op : Op} → Does to_do op left → Acts t r (Preparing x to_do) op [] (Preparing x left)
  journals : {x : Turn} {op : Op} {left : List Op} → Does (through_publishing x.ops) op left → Acts t r (Preparing x []) op [] (Working x left)
  works : {x : Turn} {to_do : List Op} {op : Op} (left : List Op) → Does to_do op left → Acts t r (Working x to_do) op (newly x left) (worked x left)
  finishes : {x : Turn} {to_do : List Op} {op : Op} (left : List Op) → Does to_do op left → Acts t r (Published x to_do) op [] (finished x left)
  undoes : {x : Turn} {o : Op} {rest : List Op} {op : Op} (left : List Op) → Does x.ops.undo op left → Acts t r (Working x (o ∷ rest)) op [] (undone left)
  goes_on_undoing : {to_do : List Op} {op : Op} (left : List Op) → Does to_do op left → Acts t r (Undoing to_do) op [] (undone left)
  -- each removal is done or left out
  removes : {left : Option (List Op)} {all rest : List Op} {path : List ℕ} (skipped : List Op) → all ≡ skipped ++ Remove path ∷ rest → Acts t r (Idle left all) (Remove path) [] (Idle left rest)
  -- the locks of a writer that is refused
  knocks : {left : Option (List Op)} {rest creation : List Op} {op : Op} (who : List ℕ) → Does (Create wlock_path who ∷ []) op creation → Acts t r (Idle left rest) op [] (Refused left creation (Remove wlock_path ∷ []))
  knocks_again : {left : Option (List Op)} {creation : List Op} {op : Op} (who : List ℕ) → Does (Create lock_path who ∷ []) op creation → Acts t r (Refused left [] (Remove wlock_path ∷ [])) op [] (Refused left creation lock_removals)
  goes_on_knocking : {left : Option (List Op)} {to_do creation rest : List Op} {op : Op} → Does to_do op creation → Acts t r (Refused left to_do rest) op [] (Refused left creation rest)

-- ---- runs

-- The files after a log, the repository at its start, the transactions that it published, and what stands now.
pub record State : Type 0 where
  pub files : Tree
  pub first : Repo
  pub published : List Turn
  pub doing : Doing

abbrev pub last_repo : Repo → List Turn → Repo
last_repo r [] = r
last_repo r (x ∷ published) = last_repo x.next published

abbrev pub current : State → Repo
current s = last_repo s.first s.published

abbrev pub state_at : Tree → Repo → List Turn → Doing → State
state_at t r published doing = record { files = t; first = r; published = published; doing = doing }

abbrev pub start_of : Tree → Repo → State
start_of t r = state_at t r [] (Idle None [])

-- The state after one operation of a log.
pub record Goes (s : State) (op : Op) (s' : State) : Type 0 where
  pub there : Doing
  pub leaves : Leaves s.doing there
  pub news : List Turn
  pub acts : Acts s.files (current s) there op news s'.doing
  pub files : s'.files ≡ apply op s.files
  pub first : s'.first ≡ s.first
  pub published : s'.published ≡ s.published ++ news

-- A log leads from a start to a state.
abbrev pub Run : State → List Op → State → Type 0
Run from log to = FoldsTo Goes from log to

abbrev pub IsRun : Tree → Repo → List Op → State → Type 0
IsRun t r log s = Run (start_of t r) log s

-- A log is legal from a tree: where the tree is clean for a repository, the log leads somewhere.
abbrev pub IsLegal : Tree → List Op → Type 0
IsLegal t log = (r : Repo) → IsClean t r → (s : State) × IsRun t r log s
