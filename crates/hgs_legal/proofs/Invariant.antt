-- What holds of the tree in each state of a legal log.
use Rattle.std.proofs.Common.{◌≡◌, ◌⊎◌, ℕ, ◌-◌, List, [], ◌∷◌, ◌++◌, Bool, true, false, cond, length, take, refl, ◌∙◌, ap, arith, length-append, take_at, take_all}
use Rattle.std.specs.Prelude.{Some, None}
use Rattle.std.specs.List.{list_all}
use Rattle.hgs_bytes.specs.Bytes.{among}
use Rattle.hgs_files.specs.declared.op.Op.{Op}
use Rattle.hgs_files.specs.declared.op.Op.TheVariants.{Remove}
use Rattle.hgs_files.specs.Log.{IsDone}
use Rattle.hgs_files.specs.Tree.{Tree, after_all}
use Rattle.hgs_journal.specs.Covers.{is_loose}
use Rattle.hgs_journal.specs.Names.{journal_path, locks}
use Rattle.hgs_model.specs.Repo.{Repo}
use Rattle.hgs_stands.specs.Open.{IsOpen}
use Rattle.hgs_stands.specs.Shows.{Shows}
use Rattle.hgs_stands.specs.Stands.{Stands}
use Rattle.hgs_ops.specs.Operations.{strays}
use Rattle.hgs_ops.specs.Shown.{lacks_bookmarks, lacks_dirstate}
use Rattle.hgs_legal.specs.LegalLog.{Doing, Idle, IsTurn, Preparing, Published, Refused, State, Turn, Undoing, Working, last_repo, through_publishing, through_removal}
use Rattle.hgs_legal.specs.Numbers.{is_some_op, less_one}
use Rattle.hgs_legal.proofs.Touched.{within}

abbrev pub is_aside : List ℕ → Bool
is_aside path = is_loose strays path

abbrev pub is_lock : List ℕ → Bool
is_lock path = among path locks

-- the operations are at locks and strays, or at locks alone
abbrev pub AreAside : List Op → Type 0
AreAside ops = list_all (within is_aside) ops ≡ true

abbrev pub AreLocks : List Op → Type 0
AreLocks ops = list_all (within is_lock) ops ≡ true

-- the repository that a tree has kept, with this left of a published transaction
abbrev pub kept_at : List Op → Repo → List Turn → Repo
kept_at left f ps = last_repo f (take (less_one (is_some_op left) (length ps)) ps)

-- what is shown, with this left of a published transaction
abbrev pub IsShown : List Op → Tree → Repo → List Turn → Type 0
IsShown left u f ps = Shows u (last_repo f (take (less_one (lacks_bookmarks left) (length ps)) ps)) (last_repo f (take (less_one (lacks_dirstate left) (length ps)) ps)) (last_repo f (take (length ps) ps))

-- before the journal
pub record IsPreparing (x : Turn) (left : List Op) (u : Tree) (r : Repo) : Type 0 where
  pub t : Tree
  pub stands : Stands t r
  pub turn : IsTurn t r x
  pub log : List Op
  pub done : IsDone x.ops.before log left
  pub tree : u ≡ after_all log t

-- the journal was begun
pub record IsWorking (x : Turn) (left : List Op) (u : Tree) (r : Repo) : Type 0 where
  pub t : Tree
  pub stands : Stands t r
  pub turn : IsTurn t r x
  pub op : Op
  pub more : List Op
  pub done : IsDone (through_publishing x.ops) (op ∷ more) left
  pub tree : u ≡ after_all (op ∷ more) (after_all x.ops.before t)

-- the last transaction is this one
pub record IsLast (f : Repo) (ps : List Turn) (x : Turn) : Type 0 where
  pub earlier : List Turn
  pub all : ps ≡ earlier ++ x ∷ []
  pub from : last_repo f earlier ≡ x.first

-- the publishing operation is done
pub record IsPublished (x : Turn) (left : List Op) (u : Tree) (f : Repo) (ps : List Turn) : Type 0 where
  pub last : IsLast f ps x
  pub t : Tree
  pub stands : Stands t x.first
  pub turn : IsTurn t x.first x
  pub log : List Op
  pub done : IsDone (through_removal x.ops) log left
  pub tree : u ≡ after_all log (after_all (through_publishing x.ops) (after_all x.ops.before t))

-- an undo list was begun
pub record IsUndone (left : List Op) (u : Tree) (r : Repo) : Type 0 where
  pub front : List Op
  pub base : Tree
  pub shows : (log left : List Op) → IsDone (front ++ Remove journal_path ∷ []) log left → Shows (after_all log base) r r r
  pub keeps : (log left : List Op) → IsDone (front ++ Remove journal_path ∷ []) log left → IsOpen strays (after_all log base) r ⊎ ((left ≡ []) × Stands (after_all log base) r)
  pub log : List Op
  pub done : IsDone (front ++ Remove journal_path ∷ []) log left
  pub tree : u ≡ after_all log base

abbrev pub Inv : Doing → Tree → Repo → List Turn → Type 0
Inv (Idle None rest) u f ps = Stands u (last_repo f ps) × AreAside rest
Inv (Idle (Some left) rest) u f ps = IsOpen strays u (kept_at left f ps) × AreLocks rest × IsShown left u f ps
Inv (Refused None creation rest) u f ps = Stands u (last_repo f ps) × AreLocks creation × AreLocks rest
Inv (Refused (Some left) creation rest) u f ps = IsOpen strays u (kept_at left f ps) × AreLocks creation × AreLocks rest × IsShown left u f ps
Inv (Preparing x left) u f ps = IsPreparing x left u (last_repo f ps)
Inv (Working x left) u f ps = IsWorking x left u (last_repo f ps) × (is_some_op left ≡ true)
Inv (Published x left) u f ps = IsPublished x left u f ps × (is_some_op left ≡ true)
Inv (Undoing left) u f ps = IsUndone left u (last_repo f ps) × (is_some_op left ≡ true)

abbrev pub Invariant : State → Type 0
Invariant s = Inv s.doing s.files s.first s.published

-- ---- what a state gives

pub last-more : (f : Repo) (ps : List Turn) (x : Turn) → last_repo f (ps ++ x ∷ []) ≡ x.next
last-more f [] x = refl
last-more f (p ∷ ps) x = last-more p.next ps x

pub less-last : (f : Repo) (ps : List Turn) (x : Turn) (b : Bool) → IsLast f ps x → last_repo f (take (less_one b (length ps)) ps) ≡ cond b x.first x.next
less-last f ps x true l =
    ap (λ p. last_repo f (take (length p - 1) p)) l.all
    ∙ ap (last_repo f) (take_at l.earlier (x ∷ []) (length (l.earlier ++ x ∷ []) - 1) (omega (arith, length-append l.earlier (x ∷ [])))) ∙ l.from
less-last f ps x false l = ap (last_repo f) (take_all (length ps) ps (omega arith)) ∙ ap (last_repo f) l.all ∙ last-more f l.earlier x

pub less-none : (f : Repo) (ps : List Turn) → last_repo f (take (length ps) ps) ≡ last_repo f ps
less-none f ps = ap (last_repo f) (take_all (length ps) ps (omega arith))
