-- Phases come of nodes and parents alone.
use Rattle.std.proofs.Common.{◌≡◌, ℕ, ◌+◌, List, [], ◌∷◌, ◌++◌, length, map, refl, sym, ◌∙◌, ap, append_assoc, append-nil}
use Rattle.hgs_files.specs.Tree.{Tree}
use Rattle.hgs_index.specs.declared.entry.Entry.{Entry}
use Rattle.hgs_index.specs.Revision.{Revision, node_after, nodes, nodes_from}
use Rattle.hgs_index.specs.Revlog.{Stored, chunk_of, items_from}
use Rattle.hgs_model.specs.History.{history, changeset_nodes, parents_in}
use Rattle.hgs_model.specs.IsRepo.{IsRepo}
use Rattle.hgs_model.specs.Phase.{phase_number}
use Rattle.hgs_model.specs.Repo.{Repo, all_parents}
use Rattle.hgs_phases.specs.declared.roots.Root.{Root}
use Rattle.hgs_phases.specs.Phases.{history_of, phases_by}
use Rattle.hgs_revlog.specs.Log.{nodes_of}
use Rattle.hgs_stands.specs.Stands.{HasPhases, changeset_entries, entries_of}
use Rattle.hgs_stands.specs.Theorems.Below.{HistoryLaws, PhaseLaw}
use Rattle.hgs_stands.specs.Theorems.Lower as lower

-- ---- the entries of revisions

abbrev stored_of : List Revision → List Stored
stored_of revisions = map (λ r. record { revision = r; chunk = chunk_of r.text }) revisions

nodes-from : (offset : ℕ) (known : List (List ℕ)) (revisions : List Revision) → known ++ nodes_of (map (λ i. i.entry) (items_from offset known (stored_of revisions))) ≡ nodes_from known revisions
nodes-from offset known [] = append-nil known
nodes-from offset known (r ∷ revisions) =
    let node = node_after known r in
    sym (append_assoc known (node ∷ []) (nodes_of (map (λ i. i.entry) (items_from (offset + length (chunk_of r.text)) (known ++ node ∷ []) (stored_of revisions)))))
    ∙ nodes-from (offset + length (chunk_of r.text)) (known ++ node ∷ []) revisions

parents-from : (offset : ℕ) (known : List (List ℕ)) (revisions : List Revision) → history_of (map (λ i. i.entry) (items_from offset known (stored_of revisions))) ≡ parents_in revisions
parents-from offset known [] = refl
parents-from offset known (r ∷ revisions) = ap (λ l. r.parents ∷ l) (parents-from (offset + length (chunk_of r.text)) (known ++ node_after known r ∷ []) revisions)

pub entries-nodes : (revisions : List Revision) → nodes_of (entries_of revisions) ≡ nodes revisions
entries-nodes revisions = nodes-from 0 [] revisions

pub entries-parents : (revisions : List Revision) → history_of (entries_of revisions) ≡ parents_in revisions
entries-parents revisions = parents-from 0 [] revisions

-- what the roots give to the changesets they give to any entries of these
pub phases-by-roots : (laws : HistoryLaws) (same_phases : PhaseLaw) (r : Repo) (entries : List Entry) (roots : List Root) (phases : List ℕ) → IsRepo r → nodes_of entries ≡ changeset_nodes r.changesets → history_of entries ≡ all_parents r.changesets → map phase_number (phases_by roots (changeset_entries r.changesets)) ≡ phases
    → map phase_number (phases_by roots entries) ≡ phases
phases-by-roots laws same_phases r entries roots phases is n h given =
    ap (map phase_number) (same_phases roots entries (changeset_entries r.changesets) (n ∙ sym (entries-nodes (history r.changesets).changelog)) (h ∙ sym (entries-parents (history r.changesets).changelog ∙ laws.parents r is)))
    ∙ given

-- the phases of a repository are given to any entries of its changesets
pub phases-given : (laws : HistoryLaws) (same_phases : PhaseLaw) (t : Tree) (r : Repo) (entries : List Entry) (has : HasPhases t r) → IsRepo r → nodes_of entries ≡ changeset_nodes r.changesets → history_of entries ≡ all_parents r.changesets → map phase_number (phases_by has.roots entries) ≡ r.phases
phases-given laws same_phases t r entries has is n h = phases-by-roots laws same_phases r entries has.roots r.phases is n h has.phases

pub phases-anew : (r : Repo) (entries : List Entry) (roots : List Root) (phases : List ℕ) → IsRepo r → nodes_of entries ≡ changeset_nodes r.changesets → history_of entries ≡ all_parents r.changesets → map phase_number (phases_by roots (changeset_entries r.changesets)) ≡ phases
    → map phase_number (phases_by roots entries) ≡ phases
phases-anew = phases-by-roots lower.histories lower.phases
