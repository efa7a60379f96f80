-- What the laws of the crates below say of steps and of reading, as the proofs of this crate take it.
use Rattle.std.specs.Prelude.{◌≡◌, ◌<◌, ◌^◌, ◌||◌, ◌/◌, ◌≤◌, false, ℕ, List, Option, IfSome, Ok, Some, None, length, map, slice_index_or}
use Rattle.hgs_bytes.specs.Bytes.{IsPrefixOf, same}
use Rattle.hgs_files.specs.Tree.{Tree, bytes_at}
use Rattle.hgs_index.specs.declared.entry.Entry.{Entry}
use Rattle.hgs_index.specs.declared.node.Node.{Node}
use Rattle.hgs_index.specs.Node.{null_node}
use Rattle.hgs_index.specs.Revision.{Revision}
use Rattle.hgs_model.specs.History.{changeset_nodes}
use Rattle.hgs_model.specs.IsRepo.{IsRepo}
use Rattle.hgs_model.specs.Phase.{phase_number}
use Rattle.hgs_model.specs.Repo.{Repo, all_parents, tracked_paths}
use Rattle.hgs_model.specs.Step.{Answer, step, with_mark}
use Rattle.hgs_model.specs.Valid.{IsValid}
use Rattle.hgs_model.specs.declared.command.Command.{Command}
use Rattle.hgs_model.specs.declared.phase.Phase.{Phase}
use Rattle.hgs_ops.specs.Replaced.{new_bookmarks, new_dirstate, new_roots, roots_change}
use Rattle.hgs_phases.specs.Phases.{history_of}
use Rattle.hgs_revlog.specs.Add.{added, next_entry}
use Rattle.hgs_loading.specs.Logs.{index_in}
use Rattle.hgs_revlog.specs.Load.{most_revisions, pushed}
use Rattle.hgs_revlog.specs.Log.{Log, nodes_of, with_entry}
use Rattle.hgs_revlog.specs.declared.add.Added.TheVariants.{New}
use Rattle.hgs_stands.specs.Stands.{Stands, has_inline_log}
use Rattle.hgs_steps.specs.declared.loaded.Loaded.{Loaded}
use Rattle.hgs_steps.specs.Loaded.{has_inline}
use Rattle.hgs_steps.specs.Planned.{HoldsRepository, IsLoadedOf, IsReplacedBy, IsReplacedWhere, passes_limit}
use Rattle.hgs_steps.specs.Steps.{are_too_many, dirstate_replacing, marked, marks_replacing, phases_text, roots_replaced}

pub record StepsBelow : Type 0 where
  pub holds : (t : Tree) (r : Repo) (l : Loaded) → Stands t r → IsLoadedOf t l → HoldsRepository l r
  pub form : (t : Tree) (l : Loaded) → IsLoadedOf t l → has_inline l ≡ has_inline_log t
  pub roots : (t : Tree) (r next : Repo) (l : Loaded) (phases : List Phase) (entries : List Entry) → Stands t r → IsLoadedOf t l → IsRepo next → nodes_of entries ≡ changeset_nodes next.changesets → history_of entries ≡ all_parents next.changesets → map phase_number phases ≡ next.phases
      → IsReplacedWhere t (roots_change r next) (new_roots next) (roots_replaced l (phases_text phases entries))
  pub bookmarks : (t : Tree) (r next : Repo) (l : Loaded) (name : List ℕ) (rev : ℕ) → Stands t r → IsLoadedOf t l → IsPrefixOf r.changesets next.changesets → next.bookmarks ≡ with_mark r.bookmarks name rev
      → IsReplacedBy t (new_bookmarks next) (marks_replacing l (marked l name (slice_index_or (changeset_nodes next.changesets) rev null_node)))
  pub limit : (t : Tree) (r next : Repo) (l : Loaded) (name node : List ℕ) (rev : ℕ) → Stands t r → IsLoadedOf t l → next.bookmarks ≡ with_mark r.bookmarks name rev → (are_too_many l.bookmarks || are_too_many (marked l name node)) ≡ passes_limit r next
  pub dirstate : (t : Tree) (next : Repo) (l : Loaded) (rev : ℕ) → IsLoadedOf t l → next.working ≡ (Some rev, None) → IsReplacedBy t (new_dirstate next) (dirstate_replacing l (slice_index_or (changeset_nodes next.changesets) rev null_node) (tracked_paths next))
  pub keeps : (r next : Repo) (command : Command) (answer : Answer) → IsRepo r → IsValid command → step r command ≡ Ok (next, answer) → IsRepo next
  pub taken : (log : Log) (r : Revision) (standing : Option (List ℕ)) (entry chunk : List ℕ) (node : Node) → log.inline ≡ false → IfSome r.parents.0 (λ p. p < length log.entries) → IfSome r.parents.1 (λ p. p < length log.entries) → r.link < 2 ^ 31 → same null_node node.0 ≡ false
      → added log r standing ≡ Ok (New entry chunk node) → pushed log entry ≡ Ok (with_entry log (next_entry log.entries r))
  pub named : (log : Log) (r : Revision) (standing : Option (List ℕ)) (entry chunk : List ℕ) (node : Node) → added log r standing ≡ Ok (New entry chunk node) → node ≡ (next_entry log.entries r).node
  pub short : (index : List ℕ) (t : Tree) → length (bytes_at t index) / 64 ≤ most_revisions → index_in index t ≡ bytes_at t index
