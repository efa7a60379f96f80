-- When what is planned is the step of a repository.
use Rattle.std.specs.Prelude.{◌≡◌, ◌⊎◌, ◌||◌, List, Bool, true, false, length, map, nat_lt, Option, Some, None, Result, Ok, Err}
use Rattle.hgs_files.specs.Tree.{Tree, bytes_at}
use Rattle.hgs_index.specs.declared.kinds.Which.TheVariants as limits
use Rattle.hgs_marks.specs.Bookmarks.{read_bookmarks}
use Rattle.hgs_marks.specs.Dirstate.{Dirstate, read_dirstate}
use Rattle.hgs_model.specs.History.{changeset_nodes}
use Rattle.hgs_model.specs.Phase.{phase_number}
use Rattle.hgs_model.specs.Repo.{Repo, all_parents}
use Rattle.hgs_model.specs.Step.{Next}
use Rattle.hgs_model.specs.declared.command.Command.{Command}
use Rattle.hgs_model.specs.declared.command.Refusal.{Refusal}
use Rattle.hgs_ops.specs.Replaced.{Replacement}
use Rattle.hgs_path.specs.Fncache.{files_of, listing}
use Rattle.hgs_phases.specs.Phases.{history_of, phases_by}
use Rattle.hgs_phases.specs.Roots.{read_roots}
use Rattle.hgs_phases.specs.declared.roots.Root.{Root}
use Rattle.hgs_load.specs.Marks.{most_bookmarks, working_answer, working_of}
use Rattle.hgs_revlog.specs.Load.{loaded_either}
use Rattle.hgs_revlog.specs.Log.{nodes_of}
use Rattle.hgs_revlog.specs.declared.fault.Tail.TheVariants.{Refuse}
use Rattle.hgs_stands.specs.Places.{bookmarks_path, changelog_index, dirstate_path, fncache_path, manifest_index, roots_path}
use Rattle.hgs_stands.specs.Stands.{has_inline_log, mark_of as node_mark}
use Rattle.hgs_transaction.specs.OfTransaction.{ArePartsOf, IsOfTree}
use Rattle.hgs_transaction.specs.Parts.{replacement_of}
use Rattle.hgs_transaction.specs.declared.parts.Change.TheVariants.{Replace}
use Rattle.hgs_transaction.specs.declared.parts.Replacing.{Replacing}
use Rattle.hgs_steps.specs.declared.fault.PlanFault.{PlanFault}
use Rattle.hgs_steps.specs.declared.fault.PlanFault.TheVariants.{Refused, Limit}
use Rattle.hgs_steps.specs.declared.loaded.Loaded.{Loaded}
use Rattle.hgs_steps.specs.declared.step.Step.{Step}

-- What was loaded is what the files of the tree are read as: changelog and manifest are their indexes, the phases are those
-- of the roots, the working parents are those of the dirstate, the list of filelogs and its length are the tree's, and so
-- are the bytes that stand.
pub record IsLoadedOf (t : Tree) (l : Loaded) : Type 0 where
  pub changelog : loaded_either Refuse (bytes_at t changelog_index) ≡ Ok l.changelog
  pub manifest : loaded_either Refuse (bytes_at t manifest_index) ≡ Ok l.manifest
  pub bookmarks : read_bookmarks (bytes_at t bookmarks_path) ≡ Ok l.bookmarks
  pub roots : List Root
  pub roots_text : read_roots (bytes_at t roots_path) ≡ Ok roots
  pub phases : l.phases ≡ phases_by roots l.changelog.entries
  pub dirstate : Dirstate
  pub dirstate_text : read_dirstate (bytes_at t dirstate_path) ≡ Ok dirstate
  pub working : working_answer l.changelog.entries (dirstate.p1, dirstate.p2) ≡ Ok (working_of l.working)
  pub fncache : files_of (bytes_at t fncache_path) ≡ Ok (listing l.fncache)
  pub fncache_length : l.fncache_length ≡ length (bytes_at t fncache_path)
  pub standing_bookmarks : l.standing.bookmarks ≡ t bookmarks_path
  pub standing_dirstate : l.standing.dirstate ≡ t dirstate_path
  pub standing_roots : l.standing.roots ≡ t roots_path

-- What was loaded is the repository's: the nodes and the parents of its changesets, its bookmarks, its working parents and
-- its phases.
pub record HoldsRepository (l : Loaded) (r : Repo) : Type 0 where
  pub nodes : nodes_of l.changelog.entries ≡ changeset_nodes r.changesets
  pub parents : history_of l.changelog.entries ≡ all_parents r.changesets
  pub bookmarks : l.bookmarks ≡ map (node_mark (changeset_nodes r.changesets)) r.bookmarks
  pub working : working_of l.working ≡ r.working
  pub phases : map phase_number l.phases ≡ r.phases

-- the bookmarks before a command or after it are too many
abbrev pub passes_limit : Repo → Repo → Bool
passes_limit r next = nat_lt most_bookmarks (length r.bookmarks) || nat_lt most_bookmarks (length next.bookmarks)

-- The parts are those of the transaction that takes the tree to the next repository, within the limits, and the answer is
-- the command's.
pub record IsStepOf (t : Tree) (r : Repo) (command : Command) (next : Next) (step : Step) : Type 0 where
  pub parts : ArePartsOf t r command next.0 step.parts
  pub rev : step.rev ≡ next.1.rev
  pub node : step.node.0 ≡ next.1.node
  pub few : passes_limit r next.0 ≡ false
  pub separate : has_inline_log t ≡ false

-- the limit that is passed: the bookmarks are too many, or else the changelog or the manifest is inline
abbrev pub PassesLimit : Tree → Repo → Next → PlanFault → Type 0
PassesLimit t r next fault =
    ((fault ≡ Limit limits.Bookmarks) × (passes_limit r next.0 ≡ true))
    ⊎ ((fault ≡ Limit limits.Inline) × (passes_limit r next.0 ≡ false) × (has_inline_log t ≡ true))

-- A plan answers as the repository does: with the same refusal, or where that accepts with its step, or with the limit
-- that is passed.
abbrev pub AnswersAs : Tree → Repo → Command → Result Step PlanFault → Result Next Refusal → Type 0
AnswersAs t r command (Err fault) (Err e) = fault ≡ Refused e
AnswersAs t r command (Err fault) (Ok next) = PassesLimit t r next fault
AnswersAs t r command (Ok step) (Err e) = ⊥
AnswersAs t r command (Ok step) (Ok next) = IsStepOf t r command next step

-- ---- the files of a commit

-- the file is replaced so, and its bytes are the tree's
pub record IsReplacedBy (t : Tree) (replacement : Replacement) (x : Replacing) : Type 0 where
  pub text : replacement_of x ≡ replacement
  pub standing : IsOfTree t (Replace x)

-- the file is replaced so where this holds, and else it is not
abbrev pub IsReplacedWhere : Tree → Bool → Replacement → Option Replacing → Type 0
IsReplacedWhere t b replacement None = b ≡ false
IsReplacedWhere t b replacement (Some x) = (b ≡ true) × IsReplacedBy t replacement x
