-- The entries of a changelog: nodes, and their places.
use Rattle.std.proofs.Common.{◌≡◌, ℕ, zero, suc, ◌+◌, ◌<◌, List, [], ◌∷◌, Bool, true, false, cond, ◌||◌, not, nat_lt, length, Some, None, refl, sym, ◌∙◌, ap, subst, arith}
use Rattle.std.proofs.lemmas.List.{length-map}
use Rattle.std.specs.Prelude.{position, slice_get, slice_index_or}
use Rattle.std.specs.List.{AllByRecursion, position_or_len}
use Rattle.std.proofs.lemmas.Bool.Decides.{nat_tests}
use Rattle.hgs_bytes.specs.Bytes.{same, among}
use Rattle.hgs_bytes.specs.Theorems.ByteLemmas.{same-refl, same-eq}
use Rattle.hgs_index.specs.declared.entry.Entry.{Entry}
use Rattle.hgs_index.specs.Node.{IsNode}
use Rattle.hgs_index.specs.Revision.{ParentsBefore}
use Rattle.hgs_index.specs.Revlog.{all_different}
use Rattle.hgs_model.specs.History.{changeset_nodes, history}
use Rattle.hgs_model.specs.IsRepo.{IsRepo}
use Rattle.hgs_model.specs.Repo.{Repo}
use Rattle.hgs_model.specs.Theorems.BeforeLemmas.{changelog-parents}
use Rattle.hgs_model.specs.Theorems.ListLemmas.{never, none-some, some-same, and-left, and-right}
use Rattle.hgs_model.specs.Theorems.NodeLemmas.{nodes-nodes}
use Rattle.hgs_model.specs.Theorems.NodeLemmas as model
use Rattle.hgs_phases.specs.Changelog.{HaveNodes, HaveOwnNodes, IsChangelog}
use Rattle.hgs_revlog.specs.Log.{nodes_of}
use Rattle.hgs_revlog.specs.Theorems.TailHeldLemmas.{position_map}
use Rattle.hgs_stands.specs.Stands.{changeset_entries}
use Rattle.hgs_stands.specs.Theorems.ListedLemmas.{among-at}
use Rattle.hgs_stands.specs.Theorems.PhaseLemmas.{entries-nodes, entries-parents}

not-true : (b : Bool) → not b ≡ true → b ≡ false
not-true true e = sym e
not-true false e = refl

first-place : (known : List (List ℕ)) (rev : ℕ) (d : List ℕ) → all_different known ≡ true → rev < length known → position_or_len (λ n. same n (slice_index_or known rev d)) known ≡ rev
first-place [] rev d different lt = absurd (omega (arith, lt))
first-place (x ∷ known) zero d different lt = ap (λ b. cond (not b) (1 + position_or_len (λ n. same n x) known) 0) (same-refl x)
first-place (x ∷ known) (suc rev) d different lt = by (same x (slice_index_or known rev d)) refl (first-place known rev d (and-right (not (among x known)) (all_different known) different) (omega (arith, lt)))
  where
    by : (b : Bool) → same x (slice_index_or known rev d) ≡ b → position_or_len (λ n. same n (slice_index_or known rev d)) known ≡ rev
        → cond (not b) (1 + position_or_len (λ n. same n (slice_index_or known rev d)) known) 0 ≡ suc rev
    by true e more = never (sym (ap (λ z. among z known) (same-eq x (slice_index_or known rev d) e) ∙ among-at known rev d (omega (arith, lt))) ∙ not-true (among x known) (and-left (not (among x known)) (all_different known) different))
    by false e more = omega (arith, more)

pub position-there : (known : List (List ℕ)) (rev : ℕ) (d : List ℕ) → all_different known ≡ true → rev < length known → position (λ n. same n (slice_index_or known rev d)) known ≡ Some rev
position-there known rev d different lt = by (position_or_len (λ n. same n (slice_index_or known rev d)) known) (first-place known rev d different lt)
  where
    by : (n : ℕ) → n ≡ rev → cond (nat_lt n (length known)) (Some n) None ≡ Some rev
    by n e = ap (λ b. cond b (Some n) None) (below n e) ∙ ap Some e
      where
        below : (n : ℕ) → n ≡ rev → nat_lt n (length known) ≡ true
        below n e = grind (arith, nat_tests, e, lt)

-- ---- entries

-- the node of an entry stands at its place among the nodes
node-at : (entries : List Entry) (rev : ℕ) (e : Entry) (d : List ℕ) → slice_get entries rev ≡ Some e → (rev < length (nodes_of entries)) × (slice_index_or (nodes_of entries) rev d ≡ e.node.0)
node-at [] rev e d h = none-some e h
node-at (x ∷ entries) zero e d h = (omega arith, ap (λ (z : Entry). z.node.0) (some-same x x e h))
node-at (x ∷ entries) (suc rev) e d h = let r = node-at entries rev e d h in (omega (arith, r.0), r.1)

node-is : (known : List (List ℕ)) (rev : ℕ) (d : List ℕ) → AllByRecursion model.IsNode known → rev < length known → IsNode (slice_index_or known rev d)
node-is [] rev d all lt = absurd (omega (arith, lt))
node-is (x ∷ known) zero d all lt = record { size = all.0.size; bytes = all.0.bytes }
node-is (x ∷ known) (suc rev) d all lt = node-is known rev d all.1 (omega (arith, lt))

pub have-nodes : (r : Repo) → HaveNodes (changeset_entries r.changesets)
have-nodes r rev e h =
    let there = node-at (changeset_entries r.changesets) rev e [] h in
    subst IsNode there.1 (node-is (nodes_of (changeset_entries r.changesets)) rev [] (subst (AllByRecursion model.IsNode) (sym (entries-nodes (history r.changesets).changelog)) (nodes-nodes (history r.changesets).changelog)) there.0)

own-nodes : (entries : List Entry) → all_different (nodes_of entries) ≡ true → HaveOwnNodes entries
own-nodes entries different rev e h =
    let there = node-at entries rev e [] h in
    sym (position_map (λ (x : Entry). x.node.0) (λ n. same n e.node.0) entries)
    ∙ ap (λ node. position (λ n. same n node) (nodes_of entries)) (sym there.1)
    ∙ position-there (nodes_of entries) rev [] different there.0

-- where no two nodes are one, the entries of a repository are those of a changelog
pub is-changelog : (r : Repo) → IsRepo r → all_different (changeset_nodes r.changesets) ≡ true → IsChangelog (changeset_entries r.changesets)
is-changelog r is different = record {
  earlier = subst (ParentsBefore 0) (sym (entries-parents (history r.changesets).changelog ∙ changelog-parents r is)) is.parents;
  own = own-nodes (changeset_entries r.changesets) (ap all_different (entries-nodes (history r.changesets).changelog) ∙ different);
}

-- each entry's node is among all
abbrev pub Within : List (List ℕ) → Entry → Type 0
Within known e = among e.node.0 known ≡ true

nodes-within : (entries : List Entry) (known : List (List ℕ)) → ((node : List ℕ) → among node (nodes_of entries) ≡ true → among node known ≡ true) → AllByRecursion (Within known) entries
nodes-within [] known sub = tt
nodes-within (e ∷ entries) known sub = (sub e.node.0 (ap (λ b. b || among e.node.0 (nodes_of entries)) (same-refl e.node.0)), nodes-within entries known (λ node h. sub node (more (same node e.node.0) (among node (nodes_of entries)) h)))
  where
    more : (a b : Bool) → b ≡ true → (a || b) ≡ true
    more true b h = refl
    more false b h = h

pub entries-within : (r : Repo) → AllByRecursion (Within (changeset_nodes r.changesets)) (changeset_entries r.changesets)
entries-within r = nodes-within (changeset_entries r.changesets) (changeset_nodes r.changesets) (λ node h. sym (ap (among node) (entries-nodes (history r.changesets).changelog)) ∙ h)

pub entries-count : (r : Repo) → length (changeset_entries r.changesets) ≡ length (changeset_nodes r.changesets)
entries-count r = sym (length-map (changeset_entries r.changesets) (λ (e : Entry). e.node.0)) ∙ ap length (entries-nodes (history r.changesets).changelog)
