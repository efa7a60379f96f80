-- The two locks of a writer.
use Rattle.std.specs.Prelude.{◌≡◌, ◌⊎◌, ℕ, ◌≤◌, List, [], ◌∷◌, ◌++◌, take, Bool, true, false, Option, Some, None, Result, Ok, Err, IfSome, IsSome}
use Rattle.std.specs.Option.{ForSome}
use Rattle.hgs_files.specs.declared.op.Op.{Op}
use Rattle.hgs_files.specs.declared.op.Op.TheVariants.{Create, Remove}
use Rattle.hgs_files.specs.Log.{IsDone}
use Rattle.hgs_files.specs.Reads.{Rose}
use Rattle.hgs_files.specs.Tree.{Tree, after_all}
use Rattle.hgs_journal.specs.Names.{journal_path}
use Rattle.hgs_ops.specs.Operations.{lock_path, wlock_path}
use Rattle.hgs_machine.specs.declared.locks.LockRefusal.{LockRefusal}
use Rattle.hgs_machine.specs.declared.locks.LockRefusal.TheVariants.{Held, Abandoned, Fault, Memory}
use Rattle.hgs_machine.specs.declared.locks.NotLocked.{NotLocked}
use Rattle.hgs_machine.specs.Course.{AreSome, lock_removals}

-- the most bytes that are read of a lock that is held
abbrev pub most_of_holder : ℕ
most_of_holder = 4096

-- what was read of a file that stands is its front
abbrev pub IsFrontOf : List ℕ → Option (List ℕ) → Type 0
IsFrontOf front None = ⊥
IsFrontOf front (Some bytes) = front ≡ take most_of_holder bytes

-- A lock could not be made: held only where a file stands there.
abbrev pub IsBarred : Option (List ℕ) → LockRefusal → Type 0
IsBarred file (Held holder) = IsSome file × IfSome holder (λ bytes. IsFrontOf bytes file)
IsBarred file Abandoned = ⊥
IsBarred file Fault = Unit {0}
IsBarred file Memory = Unit {0}

-- A lock is made only where no file stands, or nothing is done.
abbrev pub Makes : List ℕ → List ℕ → Tree → Result Unit LockRefusal → List Op → Type 0
Makes path who t (Ok x) done = (t path ≡ None) × IsDone (Create path who ∷ []) done []
Makes path who t (Err why) done = (done ≡ []) × IsBarred (t path) why

-- Both locks are made, and no journal stands: where one does, the repository is abandoned.
abbrev pub IsFree : Option (List ℕ) → Result Unit LockRefusal → Type 0
IsFree file (Ok x) = file ≡ None
IsFree file (Err (Held holder)) = ⊥
IsFree file (Err Abandoned) = IsSome file
IsFree file (Err Fault) = Unit {0}
IsFree file (Err Memory) = Unit {0}

abbrev pub Looks : Tree → Result Unit LockRefusal → List Op → Type 0
Looks t result done = (done ≡ []) × IsFree (t journal_path) result

-- All of these removals are done where that is said, else some.
abbrev pub AreRemoved : List Op → Bool → List Op → Type 0
AreRemoved removals true done = done ≡ removals
AreRemoved removals false done = AreSome removals done

-- What a writer leaves that did not get the locks: those that it made, of which none stood, are removed again, and no other.
pub data IsTurnedAway (who : List ℕ) (t : Tree) : LockRefusal → Bool → List Op → Type 0 where
  at_wlock : (why : LockRefusal) → IsBarred (t wlock_path) why → IsTurnedAway who t why true []
  at_lock : (why : LockRefusal) (swept : Bool) (a c : List Op) → t wlock_path ≡ None → IsDone (Create wlock_path who ∷ []) a [] → IsBarred (after_all a t lock_path) why → AreRemoved (Remove wlock_path ∷ []) swept c → IsTurnedAway who t why swept (a ++ c)
  at_journal : (why : LockRefusal) (swept : Bool) (a b c : List Op) → t wlock_path ≡ None → t lock_path ≡ None → IsDone (Create wlock_path who ∷ []) a [] → IsDone (Create lock_path who ∷ []) b [] → IsFree (after_all (a ++ b) t journal_path) (Err why) → AreRemoved lock_removals swept c → IsTurnedAway who t why swept (a ++ b ++ c)

-- Both locks are made, of which neither stood, and no journal stands.
pub record AreLocked (who : List ℕ) (t : Tree) (done : List Op) : Type 0 where
  pub no_wlock : t wlock_path ≡ None
  pub no_lock : t lock_path ≡ None
  pub made : IsDone (Create wlock_path who ∷ Create lock_path who ∷ []) done []
  pub free : after_all done t journal_path ≡ None

-- what taking the locks leaves
abbrev pub TakesLocks : {T : Type 0} → List ℕ → Tree → Result T NotLocked → List Op → Type 0
TakesLocks who t (Ok x) done = AreLocked who t done
TakesLocks who t (Err refusal) done = IsTurnedAway who t refusal.why refusal.swept done

-- the files take whatever taking the locks leaves from the tree now
abbrev pub MayLock : List ℕ → Option (List Op) → (List Op → Type 0) → Tree → Type 0
MayLock who log allows start = ForSome log (λ l. (result : Result Unit NotLocked) (more : List Op) → TakesLocks who (after_all l start) result more → allows (l ++ more))

-- they take whatever removing both leaves
abbrev pub MayRelease : Option (List Op) → (List Op → Type 0) → Type 0
MayRelease log allows = ForSome log (λ l. (swept : Bool) (more : List Op) → AreRemoved lock_removals swept more → allows (l ++ more))

-- a fault comes only where the count rose
abbrev pub IsWhy : ℕ → ℕ → LockRefusal → Type 0
IsWhy faults_old faults_new Fault = Rose faults_old faults_new
IsWhy faults_old faults_new why = Unit {0}

-- no count falls
pub record NeverFall (faults_old faults_new denied_old denied_new : ℕ) : Type 0 where
  pub faults : faults_old ≤ faults_new
  pub denied : denied_old ≤ denied_new

abbrev pub CausesRefusal : ℕ → ℕ → Result Unit LockRefusal → Type 0
CausesRefusal faults_old faults_new (Ok x) = Unit {0}
CausesRefusal faults_old faults_new (Err why) = IsWhy faults_old faults_new why

-- something was left only where a count rose
abbrev pub CausesLeft : ℕ → ℕ → ℕ → ℕ → Bool → Type 0
CausesLeft faults_old faults_new denied_old denied_new true = Unit {0}
CausesLeft faults_old faults_new denied_old denied_new false = Rose faults_old faults_new ⊎ Rose denied_old denied_new

abbrev pub CausesNotLocked : {T : Type 0} → ℕ → ℕ → ℕ → ℕ → Result T NotLocked → Type 0
CausesNotLocked faults_old faults_new denied_old denied_new (Ok x) = Unit {0}
CausesNotLocked faults_old faults_new denied_old denied_new (Err refusal) = IsWhy faults_old faults_new refusal.why × CausesLeft faults_old faults_new denied_old denied_new refusal.swept
