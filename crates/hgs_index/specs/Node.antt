-- The hash of a revision.
use Rattle.std.specs.Prelude.{◌≡◌, ℕ, List, ◌++◌, length, replicate, if◌then◌else◌}
use Rattle.std.specs.Cmp.Lexicographic.{slice_cmp}
use Rattle.std.specs.Ordering.{nat_cmp, is_gt}
use Rattle.hex.specs.Hex.{IsBytes}
use Rattle.sha1.specs.Sha1.{sha1}

abbrev pub smaller : List ℕ → List ℕ → List ℕ
smaller a b = if is_gt (slice_cmp nat_cmp a b) then b else a

abbrev pub larger : List ℕ → List ℕ → List ℕ
larger a b = if is_gt (slice_cmp nat_cmp a b) then a else b

-- SHA-1 of the smaller parent, the larger parent and the text
abbrev pub node_hash : List ℕ → List ℕ → List ℕ → List ℕ
node_hash p1 p2 text = sha1 (smaller p1 p2 ++ larger p1 p2 ++ text)

-- what stands for no revision
abbrev pub null_node : List ℕ
null_node = replicate 20 0

-- a node is 20 bytes
pub record IsNode (node : List ℕ) : Type 0 where
  pub size : length node ≡ 20
  pub bytes : IsBytes node
