-- Every node has twenty bytes.
use Rattle.std.proofs.Common.{◌≡◌, ℕ, zero, suc, ◌<◌, List, [], ◌∷◌, ◌++◌, length, refl, arith}
use Rattle.std.specs.Prelude.{slice_index, replicate, ◌/◌}
use Rattle.std.specs.Int.{w32, to_be_bytes}
use Rattle.std.specs.List.{AllByRecursion}
use Rattle.sha1.specs.Sha1.{sha1, digest_bytes, hash_after, padded_message}
use Rattle.hex.specs.Hex.{IsBytes}
use Rattle.hgs_index.specs.Node.{null_node, node_hash, smaller, larger}
use Rattle.hgs_index.specs.Revision.{Revision, parent_node, node_after, nodes_from, nodes}
use Rattle.hgs_model.specs.History.{node_at}
use Rattle.hgs_model.specs.Theorems.ListLemmas.{all-push, all-or}

bytes-append : (xs ys : List ℕ) → IsBytes xs → IsBytes ys → IsBytes (xs ++ ys)
bytes-append [] ys a b i = b i
bytes-append (x ∷ xs) ys a b zero = a 0
bytes-append (x ∷ xs) ys a b (suc i) = bytes-append xs ys (λ j. a (suc j)) b i

word-bytes : (n : ℕ) → IsBytes (to_be_bytes w32 n)
word-bytes n zero = omega arith
word-bytes n (suc zero) = omega arith
word-bytes n (suc (suc zero)) = omega arith
word-bytes n (suc (suc (suc zero))) = omega arith
word-bytes n (suc (suc (suc (suc i)))) = omega arith

pub record IsNode (node : List ℕ) : Type 0 where
  pub size : length node ≡ 20
  pub bytes : IsBytes node

digest-node : (h : List ℕ) → IsNode (digest_bytes h 5)
unfolding digest_bytes
digest-node h = record {
  size = refl;
  bytes = bytes-append (to_be_bytes w32 (slice_index h 0) ++ to_be_bytes w32 (slice_index h 1) ++ to_be_bytes w32 (slice_index h 2) ++ to_be_bytes w32 (slice_index h 3)) (to_be_bytes w32 (slice_index h 4)) (bytes-append (to_be_bytes w32 (slice_index h 0) ++ to_be_bytes w32 (slice_index h 1) ++ to_be_bytes w32 (slice_index h 2)) (to_be_bytes w32 (slice_index h 3)) (bytes-append (to_be_bytes w32 (slice_index h 0) ++ to_be_bytes w32 (slice_index h 1)) (to_be_bytes w32 (slice_index h 2))
      (bytes-append (to_be_bytes w32 (slice_index h 0)) (to_be_bytes w32 (slice_index h 1)) (word-bytes _) (word-bytes _)) (word-bytes _)) (word-bytes _)) (word-bytes _);
}

sha1-node : (m : List ℕ) → IsNode (sha1 m)
unfolding sha1
sha1-node m = digest-node (hash_after (padded_message m) (length (padded_message m) / 64))

null-is-node : IsNode null_node
null-is-node = record { size = refl; bytes = at 20 }
  where
    at : (n i : ℕ) → slice_index (replicate n 0) i < 256
    at zero i = omega arith
    at (suc n) zero = omega arith
    at (suc n) (suc i) = at n i

pub node_hash-node : (p1 p2 text : List ℕ) → IsNode (node_hash p1 p2 text)
node_hash-node p1 p2 text = sha1-node (smaller p1 p2 ++ larger p1 p2 ++ text)

nodes_from-nodes : (known : List (List ℕ)) (revs : List Revision) → AllByRecursion IsNode known → AllByRecursion IsNode (nodes_from known revs)
nodes_from-nodes known [] all = all
nodes_from-nodes known (r ∷ revs) all =
    nodes_from-nodes (known ++ node_after known r ∷ []) revs (all-push IsNode known (node_after known r) all (node_hash-node (parent_node known r.parents.0) (parent_node known r.parents.1) r.text))

-- each node of a list of revisions has twenty bytes
pub nodes-nodes : (revs : List Revision) → AllByRecursion IsNode (nodes revs)
nodes-nodes revs = nodes_from-nodes [] revs tt

pub node_at-node : (revs : List Revision) (rev : ℕ) → IsNode (node_at revs rev)
node_at-node revs rev = all-or IsNode (nodes revs) rev null_node (nodes-nodes revs) null-is-node
