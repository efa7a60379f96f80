-- The repository with the changeset of a commit that is accepted.
use Rattle.std.proofs.Common.{◌≡◌, ℕ, List, [], ◌∷◌, ◌++◌, length, refl, sym, ◌∙◌, ap}
use Rattle.std.specs.Prelude.{Option, Some, None, slice_index_or, unwrap_or}
use Rattle.std.proofs.lemmas.List.{map-append}
use Rattle.hgs_index.specs.Node.{null_node}
use Rattle.hgs_index.specs.Revision.{Parents, node_after, nodes, number_of, standing, with_revision_at}
use Rattle.hgs_index.specs.Theorems.RevisionLemmas.{nodes_from-append}
use Rattle.hgs_model.specs.History.{History, changeset_nodes, changeset_revision, first_of, history, manifest_with, node_at, with_changeset}
use Rattle.hgs_model.specs.IsRepo.{IsRepo}
use Rattle.hgs_model.specs.Repo.{Changeset, Repo, all_parents, tracked_paths, tree_at, tree_paths}
use Rattle.hgs_model.specs.Step.{new_changeset, nothing_changed, unchanged_from, with_new}
use Rattle.hgs_model.specs.Valid.{new_paths}
use Rattle.hgs_model.specs.declared.command.NewChange.{NewChange}
use Rattle.hgs_model.specs.Theorems.HistoryLemmas.{history-push, length-changelog}
use Rattle.hgs_model.specs.Theorems.ListLemmas.{none-some}
use Rattle.hgs_model.specs.Theorems.ListedLemmas.{length-nodes}
use Rattle.hgs_writer.proofs.TreeLemmas.{new-paths-are}

first-none : (a b : Option ℕ) → first_of a b ≡ None → (a ≡ None) × (b ≡ None)
first-none None b e = (refl, e)
first-none (Some x) b e = none-some x (sym e)

at-last : (xs : List (List ℕ)) (x d : List ℕ) (n : ℕ) → length xs ≡ n → slice_index_or (xs ++ x ∷ []) n d ≡ x
at-last xs x d n e = ap (λ k. slice_index_or (xs ++ x ∷ []) k d) (sym e) ∙ by xs
  where
    by : (ys : List (List ℕ)) → slice_index_or (ys ++ x ∷ []) (length ys) d ≡ x
    by [] = refl
    by (y ∷ ys) = by ys

tree-last : (changesets : List Changeset) (c : Changeset) → tree_at (changesets ++ c ∷ []) (length changesets) ≡ c.tree
tree-last [] c = refl
tree-last (d ∷ changesets) c = tree-last changesets c

-- nothing changed by the tree, and no equal changeset
pub accepted-parts : (r : Repo) (c : Changeset) → nothing_changed r c ≡ None → (unchanged_from r.changesets c.parents.0 c.parents.1 c.tree ≡ None) × (standing (history r.changesets).changelog (changeset_revision (history r.changesets) c).text c.parents ≡ None)
accepted-parts r c e = first-none (unchanged_from r.changesets c.parents.0 c.parents.1 c.tree) (standing (history r.changesets).changelog (changeset_revision (history r.changesets) c).text c.parents) e

module _ (r : Repo) (n : NewChange) (parents : Parents) where
  abbrev pub h : History
  h = history r.changesets

  abbrev pub c : Changeset
  c = new_changeset h parents n

  abbrev pub next : Repo
  next = with_new r c n

  -- the node of the new changeset
  abbrev pub new-node : List ℕ
  new-node = node_after (nodes h.changelog) (changeset_revision h c)

  pub next-manifest : (history next.changesets).manifest ≡ manifest_with h c
  next-manifest = ap (λ (k : History). k.manifest) (history-push r.changesets c)

  pub next-paths : tracked_paths next ≡ new_paths n.files
  next-paths = ap tree_paths (tree-last r.changesets c) ∙ new-paths-are h parents n.files

  pub next-parents : all_parents next.changesets ≡ all_parents r.changesets ++ parents ∷ []
  next-parents = map-append (λ (x : Changeset). x.parents) r.changesets (c ∷ [])

  module _ (new : standing h.changelog (changeset_revision h c).text c.parents ≡ None) where
    log-with : (with_changeset h c).changelog ≡ h.changelog ++ changeset_revision h c ∷ []
    log-with = ap (λ o. with_revision_at o h.changelog (changeset_revision h c)) new

    pub next-log : (history next.changesets).changelog ≡ h.changelog ++ changeset_revision h c ∷ []
    next-log = ap (λ (k : History). k.changelog) (history-push r.changesets c) ∙ log-with

    nodes-with : nodes (h.changelog ++ changeset_revision h c ∷ []) ≡ nodes h.changelog ++ new-node ∷ []
    nodes-with = nodes_from-append [] h.changelog (changeset_revision h c ∷ [])

    pub next-nodes : changeset_nodes next.changesets ≡ changeset_nodes r.changesets ++ new-node ∷ []
    next-nodes = ap nodes next-log ∙ nodes-with

    pub node-is : node_at (with_changeset h c).changelog (number_of h.changelog (changeset_revision h c).text c.parents) ≡ new-node
    node-is =
        (let log = log-with in let number = new in λ i. node_at (log i) (unwrap_or (number i) (length h.changelog)))
        ∙ ap (λ (known : List (List ℕ)). slice_index_or known (length h.changelog) null_node) nodes-with ∙ at-last (nodes h.changelog) new-node null_node (length h.changelog) (length-nodes h.changelog)

    pub next-node : IsRepo r → slice_index_or (changeset_nodes next.changesets) (length r.changesets) null_node ≡ new-node
    next-node is = ap (λ (known : List (List ℕ)). slice_index_or known (length r.changesets) null_node) next-nodes ∙ at-last (nodes h.changelog) new-node null_node (length r.changesets) (length-nodes h.changelog ∙ length-changelog r is)
