-- What the laws of the crates below say, as the proofs of this crate take it.
use Rattle.std.specs.Prelude.{◌≡◌, ◌<◌, ◌*◌, ℕ, List, false, true, Some, Ok, Option, IfSome, IsSome, length, map, position, slice_index_or}
use Rattle.hgs_bytes.specs.Bytes.{IsPrefixOf, among, same}
use Rattle.hgs_bytes.specs.Text.{ascends}
use Rattle.hgs_index.specs.declared.entry.Entry.{Entry}
use Rattle.hgs_index.specs.declared.entry.Header.{Header}
use Rattle.hgs_index.specs.Entry.{Fits, entry_bytes}
use Rattle.hgs_index.specs.Node.{null_node}
use Rattle.hgs_revlog.specs.Load.{separate_at}
use Rattle.hgs_index.specs.Revision.{Parents, Revision, nodes}
use Rattle.hgs_index.specs.Revlog.{HoldsRevisions, all_different}
use Rattle.hgs_marks.specs.Bookmarks.{with_mark as with_node, without}
use Rattle.hgs_model.specs.History.{changeset_nodes, history, parents_in}
use Rattle.hgs_model.specs.IsRepo.{IsRepo}
use Rattle.hgs_model.specs.Phase.{phase_number}
use Rattle.hgs_model.specs.Repo.{Bookmark, Changeset, Repo, all_parents}
use Rattle.hgs_model.specs.Step.{advanced as model_advanced, retracted as model_retracted, with_mark, without_mark}
use Rattle.hgs_model.specs.declared.phase.Phase.{Phase}
use Rattle.hgs_phases.specs.Moves.{advanced, retracted}
use Rattle.hgs_phases.specs.Phases.{history_of, phases_by}
use Rattle.hgs_phases.specs.declared.roots.Root.{Root}
use Rattle.hgs_revlog.specs.Held.{Agrees}
use Rattle.hgs_revlog.specs.Log.{nodes_of, place_of}
use Rattle.hgs_stands.specs.Stands.{changeset_entries, entries_of, mark_of}

pub record Below : Type 0 where
  pub decode : (e : Entry) (h : Option Header) (rev : ℕ) → Fits e h → IfSome h (λ x. x.inline ≡ false) → (IsSome h → rev ≡ 0) → (rev ≡ 0 → IsSome h) → separate_at (entry_bytes e h) rev ≡ Ok e
  pub index_length : (index data_bytes : List ℕ) (revisions : List Revision) → HoldsRevisions index data_bytes revisions → length index ≡ 64 * length revisions
  pub entry_nodes : (index data_bytes : List ℕ) (entries : List Entry) (revisions : List Revision) → Agrees index data_bytes entries revisions → nodes_of entries ≡ nodes revisions
  pub entry_parents : (index data_bytes : List ℕ) (entries : List Entry) (revisions : List Revision) → Agrees index data_bytes entries revisions → map (λ (e : Entry). let p : Parents = (e.p1, e.p2) in p) entries ≡ map (λ (r : Revision). r.parents) revisions
  pub counted : (revisions : List Revision) → length (nodes revisions) ≡ length revisions
  pub count : (r : Repo) → IsRepo r → length (history r.changesets).changelog ≡ length r.changesets
  pub parents : (r : Repo) → IsRepo r → parents_in (history r.changesets).changelog ≡ all_parents r.changesets
  pub written_nodes : (revisions : List Revision) → nodes_of (entries_of revisions) ≡ nodes revisions
  pub written_parents : (revisions : List Revision) → history_of (entries_of revisions) ≡ parents_in revisions
  pub phases : (r : Repo) (entries : List Entry) (roots : List Root) (phases : List ℕ) → IsRepo r → nodes_of entries ≡ changeset_nodes r.changesets → history_of entries ≡ all_parents r.changesets → map phase_number (phases_by roots (changeset_entries r.changesets)) ≡ phases → map phase_number (phases_by roots entries) ≡ phases
  pub lowered : (history : List Parents) (rev : ℕ) (to : Phase) (phases : List Phase) → map phase_number (advanced history rev to phases) ≡ model_advanced history rev (phase_number to) (map phase_number phases)
  pub raised : (history : List Parents) (rev : ℕ) (to : Phase) (phases : List Phase) → map phase_number (retracted history rev to phases) ≡ model_retracted history rev (phase_number to) (map phase_number phases)
  pub set : (known : List (List ℕ)) (marks : List Bookmark) (name : List ℕ) (rev : ℕ) → map (mark_of known) (with_mark marks name rev) ≡ with_node (map (mark_of known) marks) (mark_of known (record { name = name; rev = rev }))
  pub deleted : (known : List (List ℕ)) (marks : List Bookmark) (name : List ℕ) → ascends (map (λ m. m.name) marks) ≡ true → map (mark_of known) (without_mark marks name) ≡ without name (map (mark_of known) marks)
  pub place : (entries : List Entry) (node : List ℕ) → place_of entries node ≡ position (λ n. same n node) (nodes_of entries)
  pub first_place : (known : List (List ℕ)) (rev : ℕ) → all_different known ≡ true → rev < length known → position (λ n. same n (slice_index_or known rev null_node)) known ≡ Some rev
  pub not_null : (known : List (List ℕ)) (rev : ℕ) → among null_node known ≡ false → rev < length known → same (slice_index_or known rev null_node) null_node ≡ false
  pub nodes_go_on : (front all : List Changeset) → IsPrefixOf front all → IsPrefixOf (changeset_nodes front) (changeset_nodes all)
