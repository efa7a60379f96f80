-- The phase roots are read as they are written, and give the phases.
use Rattle.std.proofs.Common.{◌≡◌, ℕ, zero, suc, ◌+◌, ◌<◌, ◌≤◌, List, [], ◌∷◌, ◌++◌, Bool, true, false, cond, ◌&&◌, not, nat_lt, length, map, refl, sym, ◌∙◌, ap, subst, arith}
use Rattle.std.proofs.lemmas.List.{length-map}
use Rattle.std.specs.Prelude.{Option, Some, None, position, slice_get, slice_index, slice_index_or}
use Rattle.std.specs.List.{AllByRecursion, list_all, position_or_len}
use Rattle.hgs_bytes.specs.Bytes.{same, among}
use Rattle.hgs_index.specs.declared.entry.Entry.{Entry}
use Rattle.hgs_index.specs.Node.{IsNode, null_node}
use Rattle.hgs_index.specs.Revision.{Parents, ParentsBefore}
use Rattle.hgs_index.specs.Revlog.{all_different}
use Rattle.hgs_model.specs.declared.phase.Phase.{Phase}
use Rattle.hgs_model.specs.declared.phase.Phase.TheVariants.{Public, Draft, Secret}
use Rattle.hgs_model.specs.History.{changeset_nodes, history}
use Rattle.hgs_model.specs.IsRepo.{IsRepo, phase_at}
use Rattle.hgs_model.specs.Phase.{greater, phase_number}
use Rattle.hgs_model.specs.Repo.{Changeset, Repo, all_parents}
use Rattle.hgs_phases.specs.declared.roots.Root.{Root}
use Rattle.hgs_phases.specs.Changelog.{ArePhases, HaveNodes, HaveOwnNodes, IsChangelog}
use Rattle.hgs_phases.specs.Phases.{history_of, parent_phase}
use Rattle.hgs_phases.specs.Printed.{is_root, root_at, roots_in, written_roots}
use Rattle.hgs_revlog.specs.Log.{nodes_of}
use Rattle.hgs_stands.specs.Stands.{HasPhases, changeset_entries}
use Rattle.hgs_built.specs.Built.{phase_of, tree_of}
use Rattle.hgs_built.proofs.Basics.{none-some, some-same, and-both, among-more, among-first}
use Rattle.hgs_built.proofs.Below.{RevisionLaws, SmallLaws}
use Rattle.hgs_built.proofs.MarkLemmas.{node-count}

-- ---- the entries of a changelog

position-map : {A B : Type 0} (f : A → B) (p : B → Bool) (xs : List A) → position p (map f xs) ≡ position (λ x. p (f x)) xs
position-map {A = A} f p xs = ap (λ n. cond (nat_lt n (length (map f xs))) (Some n) None) (places xs) ∙ ap (λ len. cond (nat_lt (position_or_len (λ x. p (f x)) xs) len) (Some (position_or_len (λ x. p (f x)) xs)) None) (lengths xs)
  where
    lengths : (xs : List A) → length (map f xs) ≡ length xs
    lengths [] = refl
    lengths (x ∷ xs) = ap suc (lengths xs)

    places : (xs : List A) → position_or_len p (map f xs) ≡ position_or_len (λ x. p (f x)) xs
    places [] = refl
    places (x ∷ xs) = ap (λ n. cond (not (p (f x))) (1 + n) 0) (places xs)

-- the node of an entry stands at its place among the nodes
node-at : (entries : List Entry) (rev : ℕ) (e : Entry) → slice_get entries rev ≡ Some e → (rev < length (nodes_of entries)) × (slice_index_or (nodes_of entries) rev null_node ≡ e.node.0)
node-at [] rev e h = none-some e h
node-at (x ∷ entries) zero e h = (omega arith, ap (λ (z : Entry). z.node.0) (some-same x x e h))
node-at (x ∷ entries) (suc rev) e h = let r = node-at entries rev e h in (omega (arith, r.0), r.1)

have-nodes : (laws : RevisionLaws) (r : Repo) → HaveNodes (changeset_entries r.changesets)
have-nodes laws r rev e h =
    let there = node-at (changeset_entries r.changesets) rev e h in
    subst IsNode (ap (λ l. slice_index_or l rev null_node) (sym (laws.entry_nodes (history r.changesets).changelog)) ∙ there.1) (laws.node (history r.changesets).changelog rev)

own-nodes : (laws : RevisionLaws) (entries : List Entry) → all_different (nodes_of entries) ≡ true → HaveOwnNodes entries
own-nodes laws entries different rev e h =
    let there = node-at entries rev e h in
    sym (position-map (λ (x : Entry). x.node.0) (λ n. same n e.node.0) entries)
    ∙ ap (λ node. position (λ n. same n node) (nodes_of entries)) (sym there.1)
    ∙ laws.first_place (nodes_of entries) rev different there.0

is-changelog : (laws : RevisionLaws) (r : Repo) → IsRepo r → all_different (changeset_nodes r.changesets) ≡ true → IsChangelog (changeset_entries r.changesets)
is-changelog laws r is different = record {
  earlier = subst (ParentsBefore 0) (sym (laws.entry_parents (history r.changesets).changelog)) (laws.changelog_before r is);
  own = own-nodes laws (changeset_entries r.changesets) (ap all_different (laws.entry_nodes (history r.changesets).changelog) ∙ different);
}

-- each entry's node is among all
abbrev Within : List (List ℕ) → Entry → Type 0
Within known e = among e.node.0 known ≡ true

nodes-within : (entries : List Entry) (known : List (List ℕ)) → ((node : List ℕ) → among node (nodes_of entries) ≡ true → among node known ≡ true) → AllByRecursion (Within known) entries
nodes-within [] known sub = tt
nodes-within (e ∷ entries) known sub = (sub e.node.0 (among-first e.node.0 (nodes_of entries)), nodes-within entries known (λ node h. sub node (among-more node e.node.0 (nodes_of entries) h)))

entries-within : (laws : RevisionLaws) (r : Repo) → AllByRecursion (Within (changeset_nodes r.changesets)) (changeset_entries r.changesets)
entries-within laws r = nodes-within (changeset_entries r.changesets) (changeset_nodes r.changesets) (λ node h. sym (ap (among node) (laws.entry_nodes (history r.changesets).changelog)) ∙ h)

entries-count : (laws : RevisionLaws) (r : Repo) → length (changeset_entries r.changesets) ≡ length (changeset_nodes r.changesets)
entries-count laws r = sym (length-map (changeset_entries r.changesets) (λ (e : Entry). e.node.0)) ∙ ap length (laws.entry_nodes (history r.changesets).changelog)

-- ---- phases and numbers

number-back : (n : ℕ) → n ≤ 2 → phase_number (phase_of n) ≡ n
number-back zero le = refl
number-back (suc zero) le = refl
number-back (suc (suc zero)) le = refl
number-back (suc (suc (suc n))) le = absurd (omega (arith, le))

numbers-back : (ns : List ℕ) → AllByRecursion (λ n. n ≤ 2) ns → map phase_number (map phase_of ns) ≡ ns
numbers-back [] all = refl
numbers-back (n ∷ ns) all = λ i. number-back n all.0 i ∷ numbers-back ns all.1 i

number-at : (ns : List ℕ) (rev : ℕ) → AllByRecursion (λ n. n ≤ 2) ns → phase_number (slice_index_or (map phase_of ns) rev Public) ≡ slice_index ns rev
number-at [] rev all = refl
number-at (n ∷ ns) zero all = number-back n all.0
number-at (n ∷ ns) (suc rev) all = number-at ns rev all.1

parent-number : (ns : List ℕ) (o : Option ℕ) → AllByRecursion (λ n. n ≤ 2) ns → phase_number (parent_phase (map phase_of ns) o) ≡ phase_at ns o
parent-number ns None all = refl
parent-number ns (Some rev) all = number-at ns rev all

greater-least : (a b : Phase) (n : ℕ) → phase_number a ≤ n → phase_number b ≤ n → phase_number (greater a b) ≤ n
greater-least Public b n p q = q
greater-least Draft Secret n p q = q
greater-least Draft Draft n p q = p
greater-least Draft Public n p q = p
greater-least Secret b n p q = p

get-some : (xs : List Parents) (i : ℕ) → i < length xs → (p : Parents) × (slice_get xs i ≡ Some p)
get-some [] i lt = absurd (omega (arith, lt))
get-some (x ∷ xs) zero lt = (x, refl)
get-some (x ∷ xs) (suc i) lt = get-some xs i (omega (arith, lt))

all-low : (ns : List ℕ) → ((i : ℕ) → i < length ns → slice_index ns i ≤ 2) → AllByRecursion (λ n. n ≤ 2) ns
all-low [] each = tt
all-low (n ∷ ns) each = (each 0 (omega arith), all-low ns (λ i lt. each (suc i) (omega (arith, lt))))

phases-low : (r : Repo) → IsRepo r → AllByRecursion (λ n. n ≤ 2) r.phases
phases-low r is = all-low r.phases (λ i lt. let p = get-some (all_parents r.changesets) i (omega (arith, lt, is.phase_count, length-map r.changesets (λ (c : Changeset). c.parents))) in (is.phases i p.0 p.1).most)

-- ---- the phases of a repository are those of a changelog

history-at : (entries : List Entry) (i : ℕ) (e : Entry) → slice_get entries i ≡ Some e → slice_get (history_of entries) i ≡ Some (e.p1, e.p2)
history-at [] i e h = none-some e h
history-at (x ∷ entries) zero e h = ap (λ (y : Entry). Some (y.p1, y.p2)) (some-same x x e h)
history-at (x ∷ entries) (suc i) e h = history-at entries i e h

are-phases : (laws : RevisionLaws) (r : Repo) → IsRepo r → ArePhases (changeset_entries r.changesets) (map phase_of r.phases)
are-phases laws r is = record {
  count = length-map r.phases phase_of ∙ is.phase_count ∙ sym (node-count laws r is) ∙ sym (entries-count laws r);
  each = λ rev e h. each rev e (sym (ap (λ l. slice_get l rev) (laws.entry_parents (history r.changesets).changelog ∙ laws.parents r is)) ∙ history-at (changeset_entries r.changesets) rev e h);
}
  where
    low : AllByRecursion (λ n. n ≤ 2) r.phases
    low = phases-low r is

    each : (rev : ℕ) (e : Entry) → slice_get (all_parents r.changesets) rev ≡ Some (e.p1, e.p2) → phase_number (greater (parent_phase (map phase_of r.phases) e.p1) (parent_phase (map phase_of r.phases) e.p2)) ≤ phase_number (slice_index_or (map phase_of r.phases) rev Public)
    each rev e h =
        let p = is.phases rev (e.p1, e.p2) h in
        greater-least (parent_phase (map phase_of r.phases) e.p1) (parent_phase (map phase_of r.phases) e.p2) _
        (omega (arith, p.first, number-at r.phases rev low, parent-number r.phases e.p1 low)) (omega (arith, p.second, number-at r.phases rev low, parent-number r.phases e.p2 low))

-- ---- the roots that are written are of known nodes

all-joined : (f : Root → Bool) (xs ys : List Root) → list_all f xs ≡ true → list_all f ys ≡ true → list_all f (xs ++ ys) ≡ true
all-joined f [] ys a b = b
all-joined f (x ∷ xs) ys a b = by (f x) a (all-joined f xs ys)
  where
    by : (z : Bool) → (z && list_all f xs) ≡ true → (list_all f xs ≡ true → list_all f ys ≡ true → list_all f (xs ++ ys) ≡ true) → (z && list_all f (xs ++ ys)) ≡ true
    by true h rec = rec h b
    by false h rec = h

abbrev is_known : List (List ℕ) → Root → Bool
is_known known root = among root.node.0 known

roots-known : (known : List (List ℕ)) (phase : Phase) (phases : List Phase) (rev : ℕ) (entries : List Entry) → AllByRecursion (Within known) entries → list_all (is_known known) (roots_in phase phases rev entries) ≡ true
roots-known known phase phases rev [] all = refl
roots-known known phase phases rev (e ∷ entries) all = all-joined (is_known known) (root_at phase phases rev e) (roots_in phase phases (rev + 1) entries) (one (is_root phase phases rev e)) (roots-known known phase phases (rev + 1) entries all.1)
  where
    one : (b : Bool) → list_all (is_known known) (cond b (record { phase = phase; node = e.node } ∷ []) []) ≡ true
    one true = and-both _ _ all.0 refl
    one false = refl

written-known : (laws : RevisionLaws) (r : Repo) → list_all (is_known (changeset_nodes r.changesets)) (written_roots (map phase_of r.phases) (changeset_entries r.changesets)) ≡ true
written-known laws r =
    all-joined (is_known (changeset_nodes r.changesets)) (roots_in Draft (map phase_of r.phases) 0 (changeset_entries r.changesets)) (roots_in Secret (map phase_of r.phases) 0 (changeset_entries r.changesets))
    (roots-known (changeset_nodes r.changesets) Draft (map phase_of r.phases) 0 (changeset_entries r.changesets) (entries-within laws r)) (roots-known (changeset_nodes r.changesets) Secret (map phase_of r.phases) 0 (changeset_entries r.changesets) (entries-within laws r))

pub phases-built : (laws : RevisionLaws) (small : SmallLaws) (r : Repo) → IsRepo r → all_different (changeset_nodes r.changesets) ≡ true → HasPhases (tree_of r) r
phases-built laws small r is different = record {
  roots = written_roots (map phase_of r.phases) (changeset_entries r.changesets);
  text = small.roots_back (changeset_entries r.changesets) (map phase_of r.phases) (have-nodes laws r);
  known = written-known laws r;
  phases = ap (map phase_number) (small.roots_same (changeset_entries r.changesets) (map phase_of r.phases) (is-changelog laws r is different) (are-phases laws r is)) ∙ numbers-back r.phases (phases-low r is);
}
