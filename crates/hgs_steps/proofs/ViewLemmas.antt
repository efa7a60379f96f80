-- What was loaded of a tree that stands for a repository is the repository's.
use Rattle.std.proofs.Common.{◌≡◌, ℕ, List, [], Bool, cond, length, map, refl, sym, ◌∙◌, ap, subst}
use Rattle.std.specs.Prelude.{◌<◌, Option, Some, None, Ok, IfSome, position, slice_index_or}
use Rattle.hgs_bytes.specs.Bytes.{same}
use Rattle.hgs_files.specs.Tree.{Tree, bytes_at}
use Rattle.hgs_index.specs.Either.{chunks_either}
use Rattle.hgs_index.specs.Inline.{index_apart}
use Rattle.hgs_index.specs.Node.{null_node}
use Rattle.hgs_index.specs.Revision.{parent_node}
use Rattle.hgs_marks.specs.Bookmarks.{all_with, read_bookmarks, with_marks}
use Rattle.hgs_marks.specs.Dirstate.{Dirstate, read_dirstate}
use Rattle.hgs_model.specs.History.{changeset_nodes, history}
use Rattle.hgs_model.specs.IsRepo.{IsRepo}
use Rattle.hgs_model.specs.Phase.{phase_number}
use Rattle.hgs_model.specs.Repo.{Repo, all_parents}
use Rattle.hgs_phases.specs.Phases.{history_of, phases_by}
use Rattle.hgs_phases.specs.Roots.{read_roots}
use Rattle.hgs_phases.specs.declared.roots.Root.{Root}
use Rattle.hgs_load.specs.Marks.{both_parents, known_parent, parent_answer, working_answer, working_of}
use Rattle.hgs_revlog.specs.declared.fault.Tail.TheVariants.{Refuse}
use Rattle.hgs_revlog.specs.Held.{Agrees}
use Rattle.hgs_revlog.specs.Log.{nodes_of, place_of}
use Rattle.hgs_stands.specs.Places.{bookmarks_path, changelog_data, changelog_index, dirstate_path, roots_path}
use Rattle.hgs_stands.specs.Stands.{Stands, mark_of}
use Rattle.hgs_steps.specs.declared.loaded.Loaded.{Loaded}
use Rattle.hgs_steps.specs.Below.{Below}
use Rattle.hgs_steps.specs.Planned.{HoldsRepository, IsLoadedOf}
use Rattle.hgs_stands.specs.Theorems.FormLemmas.{apart-held}
use Rattle.hgs_steps.specs.Theorems.SeparateLemmas.{apart-loaded}
use Rattle.hgs_steps.proofs.Basics.{result-same}
use Rattle.hgs_steps.proofs.EntryLemmas.{entries-held}

pub agrees-is : (laws : Below) (t : Tree) (r : Repo) (l : Loaded) → Stands t r → IsLoadedOf t l → Agrees (index_apart (bytes_at t changelog_index)) (chunks_either (bytes_at t changelog_index) (bytes_at t changelog_data)) l.changelog.entries (history r.changesets).changelog
agrees-is laws t r l s h =
    let index = bytes_at t changelog_index in
    let data_bytes = bytes_at t changelog_data in
    let revisions = (history r.changesets).changelog in
    let parts = apart-loaded Refuse index l.changelog h.changelog in
    subst (λ es. Agrees (index_apart index) (chunks_either index data_bytes) es revisions) parts.entries
    (entries-held laws (index_apart index) (chunks_either index data_bytes) revisions parts.apart (apart-held index data_bytes revisions s.revlogs.changelog) parts.loads)

nodes-are : (laws : Below) (t : Tree) (r : Repo) (l : Loaded) → Stands t r → IsLoadedOf t l → nodes_of l.changelog.entries ≡ changeset_nodes r.changesets
nodes-are laws t r l s h = laws.entry_nodes (index_apart (bytes_at t changelog_index)) (chunks_either (bytes_at t changelog_index) (bytes_at t changelog_data)) l.changelog.entries (history r.changesets).changelog (agrees-is laws t r l s h)

parents-are : (laws : Below) (t : Tree) (r : Repo) (l : Loaded) → Stands t r → IsLoadedOf t l → history_of l.changelog.entries ≡ all_parents r.changesets
parents-are laws t r l s h = laws.entry_parents (index_apart (bytes_at t changelog_index)) (chunks_either (bytes_at t changelog_index) (bytes_at t changelog_data)) l.changelog.entries (history r.changesets).changelog (agrees-is laws t r l s h) ∙ laws.parents r s.repository

marks-are : (t : Tree) (r : Repo) (l : Loaded) → Stands t r → IsLoadedOf t l → l.bookmarks ≡ map (mark_of (changeset_nodes r.changesets)) r.bookmarks
marks-are t r l s h = result-same (read_bookmarks (bytes_at t bookmarks_path)) l.bookmarks (with_marks [] s.bookmarks.lines) h.bookmarks (ap (all_with []) s.bookmarks.text) ∙ s.bookmarks.marks

-- ---- working parents

-- a changeset of a repository is found by its node
pub place-is : (laws : Below) (t : Tree) (r : Repo) (l : Loaded) (rev : ℕ) → Stands t r → nodes_of l.changelog.entries ≡ changeset_nodes r.changesets → rev < length (changeset_nodes r.changesets) → place_of l.changelog.entries (slice_index_or (changeset_nodes r.changesets) rev null_node) ≡ Some rev
place-is laws t r l rev s is low =
    laws.place l.changelog.entries (slice_index_or (changeset_nodes r.changesets) rev null_node)
    ∙ ap (position (λ x. same x (slice_index_or (changeset_nodes r.changesets) rev null_node))) is
    ∙ laws.first_place (changeset_nodes r.changesets) rev s.revlogs.changelog.different low

parent-is : (laws : Below) (t : Tree) (r : Repo) (l : Loaded) (o : Option ℕ) → Stands t r → nodes_of l.changelog.entries ≡ changeset_nodes r.changesets → IfSome o (λ rev. rev < length (changeset_nodes r.changesets)) → parent_answer l.changelog.entries (parent_node (changeset_nodes r.changesets) o) ≡ Ok o
parent-is laws t r l None s is low = refl
parent-is laws t r l (Some rev) s is low =
    let node = slice_index_or (changeset_nodes r.changesets) rev null_node in
    ap (λ (b : Bool). cond b (Ok None) (known_parent (place_of l.changelog.entries node))) (laws.not_null (changeset_nodes r.changesets) rev s.revlogs.changelog.not_null low)
    ∙ ap known_parent (place-is laws t r l rev s is low)

pub room : (laws : Below) (r : Repo) → IsRepo r → length r.changesets ≡ length (changeset_nodes r.changesets)
room laws r is = sym (laws.counted (history r.changesets).changelog ∙ laws.count r is)

working-is : (laws : Below) (t : Tree) (r : Repo) (l : Loaded) → Stands t r → IsLoadedOf t l → working_of l.working ≡ r.working
working-is laws t r l s h =
    let is = nodes-are laws t r l s h in
    let same_state = result-same (read_dirstate (bytes_at t dirstate_path)) h.dirstate s.dirstate.dirstate h.dirstate_text s.dirstate.text in
    let first = ap (λ (d : Dirstate). d.p1) same_state ∙ s.dirstate.first in
    let second = ap (λ (d : Dirstate). d.p2) same_state ∙ s.dirstate.second in
    let low_first = subst (λ (n : ℕ). IfSome r.working.0 (λ rev. rev < n)) (room laws r s.repository) s.repository.first_working in
    let low_second = subst (λ (n : ℕ). IfSome r.working.1 (λ rev. rev < n)) (room laws r s.repository) s.repository.second_working in
    let one = ap (parent_answer l.changelog.entries) first ∙ parent-is laws t r l r.working.0 s is low_first in
    let two = ap (parent_answer l.changelog.entries) second ∙ parent-is laws t r l r.working.1 s is low_second in
    let both : working_answer l.changelog.entries (h.dirstate.p1, h.dirstate.p2) ≡ Ok r.working = λ i. both_parents (one i) (two i) in
    result-same (working_answer l.changelog.entries (h.dirstate.p1, h.dirstate.p2)) (working_of l.working) r.working h.working both

-- ---- phases

phases-are : (laws : Below) (t : Tree) (r : Repo) (l : Loaded) → Stands t r → IsLoadedOf t l → map phase_number l.phases ≡ r.phases
phases-are laws t r l s h =
    let same_roots = result-same (read_roots (bytes_at t roots_path)) h.roots s.phases.roots h.roots_text s.phases.text in
    ap (map phase_number) (h.phases ∙ ap (λ (roots : List Root). phases_by roots l.changelog.entries) same_roots)
    ∙ laws.phases r l.changelog.entries s.phases.roots r.phases s.repository (nodes-are laws t r l s h) (parents-are laws t r l s h) s.phases.phases

pub holds-is : (laws : Below) (t : Tree) (r : Repo) (l : Loaded) → Stands t r → IsLoadedOf t l → HoldsRepository l r
holds-is laws t r l s h = record {
  nodes = nodes-are laws t r l s h;
  parents = parents-are laws t r l s h;
  bookmarks = marks-are t r l s h;
  working = working-is laws t r l s h;
  phases = phases-are laws t r l s h;
}
