-- What carrying a plan out leaves in the log, for each way in which it ends.
use Rattle.std.specs.Prelude.{◌≡◌, ◌⊎◌, ℕ, ◌+◌, List, [], ◌∷◌, ◌++◌, take, drop, slice_get, Some, None, Bool, true}
use Rattle.std.specs.List.{AllByRecursion}
use Rattle.hgs_files.specs.declared.op.Op.{Op}
use Rattle.hgs_files.specs.declared.op.Op.TheVariants.{Append, Remove}
use Rattle.hgs_files.specs.Log.{IsDone, append_of_rest}
use Rattle.hgs_files.specs.Tree.{Tree, after_all}
use Rattle.hgs_ops.specs.Operations.{lock_path, removals, wlock_path}
use Rattle.hgs_transaction.specs.declared.assemble.Plan.{Plan}
use Rattle.hgs_machine.specs.declared.ended.Published.{Published}
use Rattle.hgs_machine.specs.declared.ended.Published.TheVariants.{No, Yes, Unknown}
use Rattle.hgs_machine.specs.declared.ended.Short.{Short}
use Rattle.hgs_machine.specs.declared.ended.Short.TheVariants.{Done, Fault, Unfinished, Memory}

-- ---- the parts of a plan

-- the operations from one place to another
abbrev pub between : ℕ → ℕ → List Op → List Op
between from to ops = drop from (take to ops)

-- what is done before the journal gets its name
abbrev pub before_journal : Plan → List Op
before_journal p = take p.journal p.ops.items

-- from the rename that gives the journal its name through the publishing operation
abbrev pub through_publishing : Plan → List Op
through_publishing p = between p.journal (p.publish + 1) p.ops.items

-- behind the publishing operation, through the journal's removal
abbrev pub through_removal : Plan → List Op
through_removal p = between (p.publish + 1) (p.commit + 1) p.ops.items

abbrev pub lock_removals : List Op
lock_removals = Remove lock_path ∷ Remove wlock_path ∷ []

-- some operations of the list, in its order: each is done or left out
abbrev pub AreSome : List Op → List Op → Type 0
AreSome [] log = log ≡ []
AreSome (op ∷ all) log = AreSome all log ⊎ ((more : List Op) × (log ≡ op ∷ more) × AreSome all more)

-- ---- how far it came

-- All was done before the journal, and of these operations a front, in pieces, at least one; the rest is left.
pub record HasBegun (p : Plan) (working log left : List Op) : Type 0 where
  pub prepared : List Op
  pub all_prepared : IsDone (before_journal p) prepared []
  pub first : Op
  pub more : List Op
  pub done : IsDone working (first ∷ more) left
  pub whole : log ≡ prepared ++ first ∷ more

-- All was done, through the journal's removal.
pub record IsCarried (p : Plan) (log : List Op) : Type 0 where
  pub working : List Op
  pub finishing : List Op
  pub has_begun : HasBegun p (through_publishing p) working []
  pub done : IsDone (through_removal p) finishing []
  pub whole : log ≡ working ++ finishing

-- It was taken back, before it was published.
pub data IsTakenBack (p : Plan) : List Op → Type 0 where
  -- the journal has not its name, so there is nothing to undo
  given_up : (a left : List Op) → IsDone (before_journal p) a left → IsTakenBack p a
  -- the whole list of undoing
  undone : (a b : List Op) (op : Op) (left : List Op) → HasBegun p (through_publishing p) a (op ∷ left) → IsDone p.undo.items b [] → IsTakenBack p (a ++ b)

-- It broke off.
pub data BreaksOff (p : Plan) : Published → List Op → Type 0 where
  -- within the list of undoing
  while_undone : (a b : List Op) (op : Op) (left : List Op) (o : Op) (rest : List Op) → HasBegun p (through_publishing p) a (op ∷ left) → IsDone p.undo.items b (o ∷ rest) → BreaksOff p No (a ++ b)
  -- behind the publishing operation, with the journal's removal left
  behind : (a b : List Op) (o : Op) (rest : List Op) → HasBegun p (through_publishing p) a [] → IsDone (through_removal p) b (o ∷ rest) → BreaksOff p Yes (a ++ b)
  -- in the publishing append, of which a rest may be left
  unsure : (path front back : List ℕ) (log : List Op) → slice_get p.ops.items p.publish ≡ Some (Append path (front ++ back)) → HasBegun p (through_publishing p) log (append_of_rest path back) → BreaksOff p Unknown log

-- what stands in the log before the removals behind the transaction
abbrev pub Ends : Plan → Short → List Op → Type 0
Ends p Done log = IsCarried p log
Ends p Fault log = IsTakenBack p log
Ends p Memory log = IsTakenBack p log
Ends p (Unfinished published) log = BreaksOff p published log

-- What is removed behind it: only the locks where the journal may stand.
abbrev pub removals_after : Short → List Op
removals_after Done = removals
removals_after Fault = removals
removals_after Memory = removals
removals_after (Unfinished published) = lock_removals

-- the file of a removal does not stand
abbrev pub IsGone : Tree → Op → Type 0
IsGone t (Remove path) = t path ≡ None
IsGone t _ = Unit {0}

abbrev pub AreGone : Tree → List Op → Type 0
AreGone t removals = AllByRecursion (IsGone t) removals

-- A plan was carried out from a tree to this end: its log, and then some of the removals. Where all was swept, none of their
-- files stands.
pub record CarriedOut (t : Tree) (p : Plan) (outcome : Short) (swept : Bool) (log : List Op) : Type 0 where
  pub own : List Op
  pub removed : List Op
  pub ends : Ends p outcome own
  pub some : AreSome (removals_after outcome) removed
  pub whole : log ≡ own ++ removed
  pub gone : swept ≡ true → AreGone (after_all log t) (removals_after outcome)
