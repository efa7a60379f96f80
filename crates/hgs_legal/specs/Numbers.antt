-- The numbers of a log: how many transactions are published, and how far the working parents and the bookmarks are behind.
use Rattle.std.specs.Prelude.{ℕ, ◌-◌, List, [], ◌∷◌, Bool, true, false, length, take, Some, None, if◌then◌else◌}
use Rattle.hgs_files.specs.declared.op.Op.{Op}
use Rattle.hgs_files.specs.Tree.{Tree}
use Rattle.hgs_model.specs.declared.command.Command.{Command}
use Rattle.hgs_model.specs.declared.command.Command.TheVariants.{Commit, Import, Mark, Move, Unmark}
use Rattle.hgs_model.specs.Repo.{Repo}
use Rattle.hgs_stands.specs.Open.{IsOpen}
use Rattle.hgs_stands.specs.Stands.{Stands}
use Rattle.hgs_ops.specs.Operations.{strays}
use Rattle.hgs_ops.specs.Shown.{lacks_bookmarks, lacks_dirstate}
use Rattle.hgs_legal.specs.LegalLog.{Doing, Idle, Refused, Preparing, Published, State, last_repo}

-- whether a command adds changesets: their working parent and bookmarks are renamed behind the publishing operation
abbrev pub adds_changesets : Command → Bool
adds_changesets (Commit n) = true
adds_changesets (Import changes) = true
adds_changesets (Move rev phase force) = false
adds_changesets (Mark name rev) = false
adds_changesets (Unmark name) = false

-- the operations that a published transaction has still to do
abbrev pub left_of : Doing → List Op
left_of (Idle None rest) = []
left_of (Idle (Some left) rest) = left
left_of (Refused None creation rest) = []
left_of (Refused (Some left) creation rest) = left
left_of (Published x left) = left
left_of _ = []

abbrev pub less_one : Bool → ℕ → ℕ
less_one b n = if b then n - 1 else n

-- the numbers of transactions published, whose working parents stand, whose bookmarks stand, and that are acknowledged
abbrev pub n_of : State → ℕ
n_of s = length s.published

abbrev pub w_of : State → ℕ
w_of s = less_one (lacks_dirstate (left_of s.doing)) (n_of s)

abbrev pub b_of : State → ℕ
b_of s = less_one (lacks_bookmarks (left_of s.doing)) (n_of s)

abbrev pub is_some_op : List Op → Bool
is_some_op [] = false
is_some_op (op ∷ left) = true

abbrev pub acknowledged_of : State → ℕ
acknowledged_of s = less_one (is_some_op (left_of s.doing)) (n_of s)

-- the repository after the first i published transactions
abbrev pub repo_at : State → ℕ → Repo
repo_at s i = last_repo s.first (take i s.published)

-- Where no journal stands, or a transaction has not begun its journal, the tree stands for the repository; else it is open
-- for it.
abbrev pub StopsAt : Doing → Tree → Repo → Type 0
StopsAt (Idle None rest) u r = Stands u r
StopsAt (Refused None creation rest) u r = Stands u r
StopsAt (Preparing x left) u r = Stands u r
StopsAt _ u r = IsOpen strays u r
