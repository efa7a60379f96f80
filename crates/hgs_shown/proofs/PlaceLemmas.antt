-- Nodes and their places.
use Rattle.std.proofs.Common.{◌≡◌, ℕ, ◌<◌, List, true, false, cond, length, Option, Some, None, Ok, ◌∙◌, ap}
use Rattle.std.specs.Prelude.{IfSome, position, slice_index_or}
use Rattle.hgs_bytes.specs.Bytes.{same, among}
use Rattle.hgs_index.specs.declared.entry.Entry.{Entry}
use Rattle.hgs_index.specs.Node.{null_node}
use Rattle.hgs_index.specs.Revision.{parent_node}
use Rattle.hgs_index.specs.Revlog.{all_different}
use Rattle.hgs_revlog.specs.Log.{nodes_of, place_of}
use Rattle.hgs_load.specs.Marks.{parent_answer, known_parent}
use Rattle.hgs_shown.proofs.Basics.{same-refl}
use Rattle.hgs_shown.specs.Below.{Below}

-- ---- working parents

-- the node of a changeset, or the null node, gives this changeset, or none
pub parent-read : (laws : Below) (entries : List Entry) (known : List (List ℕ)) (o : Option ℕ) → nodes_of entries ≡ known → all_different known ≡ true → among null_node known ≡ false → IfSome o (λ rev. rev < length known) → parent_answer entries (parent_node known o) ≡ Ok o
parent-read laws entries known None is different none lt = ap (λ b. cond b (Ok None) (known_parent (place_of entries null_node))) (same-refl null_node)
parent-read laws entries known (Some rev) is different none lt =
    let node = slice_index_or known rev null_node in
    let place : place_of entries node ≡ Some rev = laws.place entries node ∙ ap (position (λ n. same n node)) is ∙ laws.first_place known rev different lt in
    ap (λ b. cond b (Ok None) (known_parent (place_of entries node))) (laws.not_null known rev none lt) ∙ ap known_parent place
