-- What the commands that were published say of the files.
use Rattle.std.specs.Prelude.{◌≡◌, ◌⊎◌, ℕ, List, [], ◌∷◌, ◌++◌, length, Option, Some, None, Ok}
use Rattle.hgs_files.specs.declared.op.Op.{Op}
use Rattle.hgs_files.specs.Tree.{Tree, after_all}
use Rattle.hgs_legal.specs.ListsPaths.{ListsPaths}
use Rattle.hgs_machine.specs.Fed.{is_acknowledged, is_published}
use Rattle.hgs_model.specs.Repo.{Repo, empty_repo}
use Rattle.hgs_model.specs.Step.{Next, step}
use Rattle.hgs_model.specs.Valid.{IsValid}
use Rattle.hgs_model.specs.declared.command.Command.{Command}
use Rattle.hgs_ops.specs.Operations.{strays}
use Rattle.hgs_stands.specs.Open.{IsOpen}
use Rattle.hgs_stands.specs.Stands.{Stands}
use Rattle.hgs_world.specs.Book.{Commands, acknowledged_of, noted}
use Rattle.hgs_world.specs.Moments.{HasCome}
use Rattle.hgs_world.specs.World.{Scene, tree_of}
use Rattle.hgs_world.specs.declared.working.Working.{Working}

-- The commands are accepted one after another, from the first repository on, and lead to the last.
abbrev pub Replays : Repo → List Command → Repo → Type 0
Replays r [] s = s ≡ r
Replays r (command ∷ commands) s = (next : Next) × (step r command ≡ Ok next) × Replays next.0 commands s

-- Replayed from the empty repository on, the acknowledged commands lead to one repository, and all commands to the last. Each command is
-- acknowledged and the files stand for that repository; or they can be taken back to the one that those which are lead to. Their list of
-- filelogs has only names of paths.
pub record Follows (s : Scene) : Type 0 where
  pub before : Repo
  pub last : Repo
  pub acknowledged : Replays empty_repo (acknowledged_of s.book) before
  pub published : Replays empty_repo s.book.published last
  pub files : ((s.book.acknowledged ≡ length s.book.published) × Stands (tree_of s) before) ⊎ IsOpen strays (tree_of s) before
  pub lists : ListsPaths (tree_of s) before

-- ---- between two events

-- the commands where each is acknowledged
abbrev pub all_acknowledged : List Command → Option Command → Commands
all_acknowledged older pending = record { published = older; acknowledged = length older; pending = pending }

-- No writer is at work: the files stand for what the commands lead to, each acknowledged; or they are open for it, and a command that is
-- not may stand behind them. Their list of filelogs has only names of paths.
pub data AtRest (t : Tree) : Commands → Type 0 where
  stands : (r : Repo) (older : List Command) → Replays empty_repo older r → Stands t r → ListsPaths t r → AtRest t (all_acknowledged older None)
  is_open : (r : Repo) (older : List Command) → Replays empty_repo older r → IsOpen strays t r → ListsPaths t r → AtRest t (all_acknowledged older None)
  has_published : (r : Repo) (older : List Command) (command : Command) (next : Next) → Replays empty_repo older r → step r command ≡ Ok next → IsOpen strays t r → ListsPaths t r
      → AtRest t (record { published = older ++ command ∷ []; acknowledged = length older; pending = None })

-- A writer is at work: it began where the files stood for what the older commands lead to, and their list had only names of paths.
pub record AtWork (t : Tree) (w : Working) (book : Commands) : Type 0 where
  pub command : Command
  pub first : Tree
  pub r : Repo
  pub older : List Command
  pub done : List Op
  pub leads : Replays empty_repo older r
  pub stands : Stands first r
  pub valid : IsValid command
  pub lists : ListsPaths first r
  pub come : HasCome command first w done
  pub now : t ≡ after_all done first
  pub book_is : book ≡ noted (is_published w.machine) (is_acknowledged w.machine) (all_acknowledged older (Some command))

abbrev pub KeepsAt : Tree → Option Working → Commands → Type 0
KeepsAt t None book = AtRest t book
KeepsAt t (Some w) book = AtWork t w book

abbrev pub Keeps : Scene → Type 0
Keeps s = KeepsAt (tree_of s) s.writer s.book
