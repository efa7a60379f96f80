-- Revisions and their nodes.
use Rattle.std.specs.Prelude.{ℕ, suc, ◌<◌, List, [], ◌∷◌, ◌++◌, Bool, true, false, ◌&&◌, ◌||◌, ◌==◌, length, slice_index_or, Option, Some, None, IfSome, unwrap_or, position}
use Rattle.hgs_bytes.specs.Bytes.{same}
use Rattle.hgs_index.specs.Node.{null_node, node_hash}

-- two parents, each none or the number of an earlier revision
abbrev pub Parents : Type 0
Parents = Option ℕ × Option ℕ

pub record Revision : Type 0 where
  pub text : List ℕ
  pub parents : Parents
  pub link : ℕ

-- the node of a parent among the nodes so far
abbrev pub parent_node : List (List ℕ) → Option ℕ → List ℕ
parent_node known None = null_node
parent_node known (Some rev) = slice_index_or known rev null_node

-- the node of a revision that comes after these nodes
abbrev pub node_after : List (List ℕ) → Revision → List ℕ
node_after known r = node_hash (parent_node known r.parents.0) (parent_node known r.parents.1) r.text

-- the nodes so far, and those of the revisions after them
abbrev pub nodes_from : List (List ℕ) → List Revision → List (List ℕ)
nodes_from known [] = known
nodes_from known (r ∷ revs) = nodes_from (known ++ node_after known r ∷ []) revs

abbrev pub nodes : List Revision → List (List ℕ)
nodes revs = nodes_from [] revs

-- each revision's parents come before it, the first of these having this number
abbrev pub ParentsBefore : ℕ → List Parents → Type 0
ParentsBefore rev [] = Unit {0}
ParentsBefore rev (p ∷ ps) = IfSome p.0 (λ a. a < rev) × IfSome p.1 (λ b. b < rev) × ParentsBefore (suc rev) ps

-- the two parents are the same, in either order
abbrev pub same_parent : Option ℕ → Option ℕ → Bool
same_parent None None = true
same_parent None (Some b) = false
same_parent (Some a) None = false
same_parent (Some a) (Some b) = a == b

abbrev pub same_parents : Parents → Parents → Bool
same_parents p q = (same_parent p.0 q.0 && same_parent p.1 q.1) || (same_parent p.0 q.1 && same_parent p.1 q.0)

-- the revision that has this text and these parents in either order, if one of the list has
abbrev pub is_as : List ℕ → Parents → Revision → Bool
is_as text parents r = same text r.text && same_parents parents r.parents

abbrev pub standing : List Revision → List ℕ → Parents → Option ℕ
standing revs text parents = position (is_as text parents) revs

-- the list with this revision: as it is where one stands already, else with one more
abbrev pub with_revision_at : Option ℕ → List Revision → Revision → List Revision
with_revision_at None revs r = revs ++ r ∷ []
with_revision_at (Some rev) revs r = revs

abbrev pub with_revision : List Revision → Revision → List Revision
with_revision revs r = with_revision_at (standing revs r.text r.parents) revs r

-- the number that this revision has in that list
abbrev pub number_of : List Revision → List ℕ → Parents → ℕ
number_of revs text parents = unwrap_or (standing revs text parents) (length revs)
