-- The pieces of which legal logs are made.
use Rattle.std.specs.Prelude.{◌≡◌, ◌⊎◌, ℕ, List, [], ◌∷◌, ◌++◌}
use Rattle.hgs_files.specs.declared.op.Op.{Op}
use Rattle.hgs_files.specs.declared.op.Op.TheVariants.{Remove, Create}
use Rattle.hgs_files.specs.Log.{IsDone}
use Rattle.hgs_files.specs.Tree.{Tree, after_all}
use Rattle.hgs_model.specs.Repo.{Repo}
use Rattle.hgs_ops.specs.Operations.{lock_path, removals, wlock_path}
use Rattle.hgs_legal.specs.LegalLog.{IsTurn, Turn, lock_removals, through_publishing, through_removal}

-- some operations of the list, in its order: each is done or left out
abbrev pub AreSome : List Op → List Op → Type 0
AreSome [] log = log ≡ []
AreSome (op ∷ all) log = AreSome all log ⊎ ((more : List Op) × (log ≡ op ∷ more) × AreSome all more)

-- The operations of a transaction were done through the rename that gives its journal the name, and these are left up to the publishing one.
pub record HasBegun (t : Tree) (r : Repo) (x : Turn) (log left : List Op) : Type 0 where
  pub it : IsTurn t r x
  pub start : Op
  pub prepared : List Op
  pub all_prepared : IsDone x.ops.before (start ∷ prepared) []
  pub first : Op
  pub more : List Op
  pub done : IsDone (through_publishing x.ops) (first ∷ more) left
  pub whole : log ≡ (start ∷ prepared) ++ first ∷ more

-- The lock operations of a writer that was refused: it made one lock or both, and removed what it made, or left it.
pub data Refusal : List Op → Type 0 where
  once : (who : List ℕ) (c : List Op) (op : Op) (more left : List Op) → IsDone (Create wlock_path who ∷ []) (op ∷ more) left → AreSome (Remove wlock_path ∷ []) c → Refusal (op ∷ more ++ c)
  twice : (who other : List ℕ) (c : List Op) (o : Op) (first : List Op) (op : Op) (more left : List Op) → IsDone (Create wlock_path who ∷ []) (o ∷ first) [] → IsDone (Create lock_path other ∷ []) (op ∷ more) left
      → AreSome lock_removals c → Refusal ((o ∷ first) ++ (op ∷ more) ++ c)

pub data Refusals : List Op → Type 0 where
  no_more : Refusals []
  one_more : (a b : List Op) → Refusal a → Refusals b → Refusals (a ++ b)

-- A piece after which any may follow, and the repository after it.
pub data Piece (t : Tree) (r : Repo) : List Op → Repo → Type 0 where
  -- the whole list
  whole_list : (x : Turn) (a c : List Op) (o : Op) (b : List Op) → HasBegun t r x a [] → IsDone (through_removal x.ops) (o ∷ b) [] → AreSome removals c → Piece t r (a ++ (o ∷ b) ++ c) x.next
  -- a prefix that lacks the publishing operation's end, the whole undo list, and removals
  was_undone : (x : Turn) (a c : List Op) (op : Op) (left : List Op) (o : Op) (b : List Op) → HasBegun t r x a (op ∷ left) → IsDone x.ops.undo (o ∷ b) [] → AreSome removals c → Piece t r (a ++ (o ∷ b) ++ c) r
  -- the same with nothing to undo: before the journal has its name
  given_up : (x : Turn) (c : List Op) (op : Op) (left more : List Op) → IsTurn t r x → IsDone x.ops.before (op ∷ more) left → AreSome removals c → Piece t r ((op ∷ more) ++ c) r
  -- the lock operations of a writer that was refused
  refused : (a : List Op) → Refusal a → Piece t r a r

-- A piece that leaves the journal, with the removals of the locks: before publication, within the undo list, or after publication.
pub data LeavesJournal (t : Tree) (r : Repo) : List Op → Type 0 where
  before : (x : Turn) (a c : List Op) (op : Op) (left : List Op) → HasBegun t r x a (op ∷ left) → AreSome lock_removals c → LeavesJournal t r (a ++ c)
  within : (x : Turn) (a c : List Op) (op : Op) (left : List Op) (o : Op) (rest : List Op) (u : Op) (b : List Op) → HasBegun t r x a (op ∷ left) → IsDone x.ops.undo (u ∷ b) (o ∷ rest) → AreSome lock_removals c → LeavesJournal t r (a ++ (u ∷ b) ++ c)
  behind : (x : Turn) (a b c : List Op) (o : Op) (rest : List Op) → HasBegun t r x a [] → IsDone (through_removal x.ops) b (o ∷ rest) → AreSome lock_removals c → LeavesJournal t r (a ++ b ++ c)

-- What a front of a piece is: nothing, a piece that leads back, one that leads on as the whole does, or one that leaves its journal.
abbrev pub Front : Tree → Repo → Repo → List Op → Type 0
Front t r next d = (d ≡ []) ⊎ (Piece t r d r ⊎ (Piece t r d next ⊎ LeavesJournal t r d))

-- The same of a piece that leaves its journal: no front of it leads on.
abbrev pub Early : Tree → Repo → List Op → Type 0
Early t r d = (d ≡ []) ⊎ (Piece t r d r ⊎ LeavesJournal t r d)

-- Whole pieces, one after another; after one that leaves the journal, writers that are refused alone.
pub data Pieces : Tree → Repo → List Op → Type 0 where
  no_pieces : {t : Tree} {r : Repo} → Pieces t r []
  and_then : {t : Tree} {r : Repo} (a b : List Op) (r' : Repo) → Piece t r a r' → Pieces (after_all a t) r' b → Pieces t r (a ++ b)
  at_last : {t : Tree} {r : Repo} (a b : List Op) → LeavesJournal t r a → Refusals b → Pieces t r (a ++ b)
