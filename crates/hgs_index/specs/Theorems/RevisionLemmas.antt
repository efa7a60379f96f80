-- Lists of revisions that grow.
use Rattle.std.proofs.Common.{◌≡◌, ℕ, ◌+◌, List, [], ◌∷◌, ◌++◌, length, refl, sym, ◌∙◌, arith, append_assoc, append-nil, length-append}
use Rattle.std.specs.Prelude.{Option, Some, None}
use Rattle.hgs_bytes.specs.Bytes.{IsPrefixOf}
use Rattle.hgs_index.specs.Revision.{Revision, node_after, nodes_from, nodes, standing, with_revision_at, with_revision}

at-prefix : (found : Option ℕ) (revs : List Revision) (r : Revision) → IsPrefixOf revs (with_revision_at found revs r)
at-prefix None revs r = (r ∷ [], refl)
at-prefix (Some rev) revs r = ([], sym (append-nil revs))

-- a list with one more revision begins with the list
pub with_revision-prefix : (revs : List Revision) (r : Revision) → IsPrefixOf revs (with_revision revs r)
with_revision-prefix revs r = at-prefix (standing revs r.text r.parents) revs r

-- the nodes of two lists, one after the other
pub nodes_from-append : (known : List (List ℕ)) (xs ys : List Revision) → nodes_from known (xs ++ ys) ≡ nodes_from (nodes_from known xs) ys
nodes_from-append known [] ys = refl
nodes_from-append known (x ∷ xs) ys = nodes_from-append (known ++ node_after known x ∷ []) xs ys

-- the nodes so far stay
pub nodes_from-prefix : (known : List (List ℕ)) (xs : List Revision) → IsPrefixOf known (nodes_from known xs)
nodes_from-prefix known [] = ([], sym (append-nil known))
nodes_from-prefix known (x ∷ xs) =
    let rest = nodes_from-prefix (known ++ node_after known x ∷ []) xs in
    (node_after known x ∷ rest.0, rest.1 ∙ append_assoc known (node_after known x ∷ []) rest.0)

pub nodes-append : (xs ys : List Revision) → IsPrefixOf (nodes xs) (nodes (xs ++ ys))
nodes-append xs ys = let p = nodes_from-prefix (nodes xs) ys in (p.0, nodes_from-append [] xs ys ∙ p.1)

pub length-nodes_from : (known : List (List ℕ)) (xs : List Revision) → length (nodes_from known xs) ≡ length known + length xs
length-nodes_from known [] = omega arith
length-nodes_from known (x ∷ xs) = omega (arith, length-nodes_from (known ++ node_after known x ∷ []) xs, length-append known (node_after known x ∷ []))
