-- The phase roots, as they are written.
use Rattle.std.proofs.Common.{◌≡◌, ℕ, zero, suc, ◌+◌, ◌<◌, ◌≤◌, List, [], ◌∷◌, ◌++◌, Bool, true, false, cond, ◌&&◌, length, map, refl, sym, ◌∙◌, ap, arith}
use Rattle.std.proofs.lemmas.List.{length-map}
use Rattle.std.specs.Prelude.{Option, Some, None, slice_get, slice_index, slice_index_or}
use Rattle.std.specs.List.{AllByRecursion, list_all}
use Rattle.hgs_bytes.specs.Bytes.{among}
use Rattle.hgs_files.specs.Tree.{Tree}
use Rattle.hgs_files.specs.Theorems.TreeLemmas.{bytes_at-is}
use Rattle.hgs_index.specs.declared.entry.Entry.{Entry}
use Rattle.hgs_index.specs.Revision.{Parents}
use Rattle.hgs_index.specs.Revlog.{all_different}
use Rattle.hgs_model.specs.declared.phase.Phase.{Phase}
use Rattle.hgs_model.specs.declared.phase.Phase.TheVariants.{Public, Draft, Secret}
use Rattle.hgs_model.specs.History.{history, changeset_nodes}
use Rattle.hgs_model.specs.IsRepo.{IsRepo, phase_at}
use Rattle.hgs_model.specs.Phase.{greater, phase_number}
use Rattle.hgs_model.specs.Repo.{Changeset, Repo, all_parents}
use Rattle.hgs_model.specs.Theorems.BeforeLemmas.{changelog-parents}
use Rattle.hgs_model.specs.Theorems.ListLemmas.{and-both}
use Rattle.hgs_model.specs.Theorems.StepLemmas.{length-changeset_nodes}
use Rattle.hgs_phases.specs.declared.roots.Root.{Root}
use Rattle.hgs_phases.specs.Changelog.{ArePhases}
use Rattle.hgs_phases.specs.Phases.{parent_phase}
use Rattle.hgs_phases.specs.Printed.{is_root, root_at, roots_in, written_roots}
use Rattle.hgs_phases.specs.Roots.{read_roots}
use Rattle.hgs_phases.specs.Theorems.PhaseLemmas.{history-at}
use Rattle.hgs_phases.specs.Theorems.WrittenLemmas.{written_read, written_same}
use Rattle.hgs_stands.specs.Places.{roots_path}
use Rattle.hgs_stands.specs.Stands.{HasPhases, changeset_entries}
use Rattle.hgs_stands.specs.Theorems.PhaseLemmas.{entries-parents}
use Rattle.hgs_ops.specs.Replaced.{phase_numbered, roots_of}
use Rattle.hgs_ops.specs.Theorems.NodeLemmas.{Within, entries-count, entries-within, have-nodes, is-changelog}

-- ---- phases and numbers

number-back : (n : ℕ) → n ≤ 2 → phase_number (phase_numbered n) ≡ n
number-back zero le = refl
number-back (suc zero) le = refl
number-back (suc (suc zero)) le = refl
number-back (suc (suc (suc n))) le = absurd (omega (arith, le))

pub numbers-back : (ns : List ℕ) → AllByRecursion (λ n. n ≤ 2) ns → map phase_number (map phase_numbered ns) ≡ ns
numbers-back [] all = refl
numbers-back (n ∷ ns) all = λ i. number-back n all.0 i ∷ numbers-back ns all.1 i

pub number-at : (ns : List ℕ) (rev : ℕ) → AllByRecursion (λ n. n ≤ 2) ns → phase_number (slice_index_or (map phase_numbered ns) rev Public) ≡ slice_index ns rev
number-at [] rev all = refl
number-at (n ∷ ns) zero all = number-back n all.0
number-at (n ∷ ns) (suc rev) all = number-at ns rev all.1

pub parent-number : (ns : List ℕ) (o : Option ℕ) → AllByRecursion (λ n. n ≤ 2) ns → phase_number (parent_phase (map phase_numbered ns) o) ≡ phase_at ns o
parent-number ns None all = refl
parent-number ns (Some rev) all = number-at ns rev all

pub greater-least : (a b : Phase) (n : ℕ) → phase_number a ≤ n → phase_number b ≤ n → phase_number (greater a b) ≤ n
greater-least Public b n p q = q
greater-least Draft Secret n p q = q
greater-least Draft Draft n p q = p
greater-least Draft Public n p q = p
greater-least Secret b n p q = p

get-some : (xs : List Parents) (i : ℕ) → i < length xs → (p : Parents) × (slice_get xs i ≡ Some p)
get-some [] i lt = absurd (omega (arith, lt))
get-some (x ∷ xs) zero lt = (x, refl)
get-some (x ∷ xs) (suc i) lt = get-some xs i (omega (arith, lt))

all-low : (ns : List ℕ) → ((i : ℕ) → i < length ns → slice_index ns i ≤ 2) → AllByRecursion (λ n. n ≤ 2) ns
all-low [] each = tt
all-low (n ∷ ns) each = (each 0 (omega arith), all-low ns (λ i lt. each (suc i) (omega (arith, lt))))

pub phases-low : (r : Repo) → IsRepo r → AllByRecursion (λ n. n ≤ 2) r.phases
phases-low r is = all-low r.phases (λ i lt. let p = get-some (all_parents r.changesets) i (omega (arith, lt, is.phase_count, length-map r.changesets (λ (c : Changeset). c.parents))) in (is.phases i p.0 p.1).most)

-- ---- the phases of a repository are those of a changelog

pub are-phases : (r : Repo) → IsRepo r → ArePhases (changeset_entries r.changesets) (map phase_numbered r.phases)
are-phases r is = record {
  count = length-map r.phases phase_numbered ∙ is.phase_count ∙ sym (length-changeset_nodes r is) ∙ sym (entries-count r);
  each = λ rev e h. each rev e (sym (ap (λ l. slice_get l rev) (entries-parents (history r.changesets).changelog ∙ changelog-parents r is)) ∙ history-at (changeset_entries r.changesets) rev e h);
}
  where
    low : AllByRecursion (λ n. n ≤ 2) r.phases
    low = phases-low r is

    each : (rev : ℕ) (e : Entry) → slice_get (all_parents r.changesets) rev ≡ Some (e.p1, e.p2) → phase_number (greater (parent_phase (map phase_numbered r.phases) e.p1) (parent_phase (map phase_numbered r.phases) e.p2)) ≤ phase_number (slice_index_or (map phase_numbered r.phases) rev Public)
    each rev e h =
        let p = is.phases rev (e.p1, e.p2) h in
        greater-least (parent_phase (map phase_numbered r.phases) e.p1) (parent_phase (map phase_numbered r.phases) e.p2) _
        (omega (arith, p.first, number-at r.phases rev low, parent-number r.phases e.p1 low)) (omega (arith, p.second, number-at r.phases rev low, parent-number r.phases e.p2 low))

-- ---- the roots that are written are of known nodes

all-joined : (f : Root → Bool) (xs ys : List Root) → list_all f xs ≡ true → list_all f ys ≡ true → list_all f (xs ++ ys) ≡ true
all-joined f [] ys a b = b
all-joined f (x ∷ xs) ys a b = by (f x) a (all-joined f xs ys)
  where
    by : (z : Bool) → (z && list_all f xs) ≡ true → (list_all f xs ≡ true → list_all f ys ≡ true → list_all f (xs ++ ys) ≡ true) → (z && list_all f (xs ++ ys)) ≡ true
    by true h rec = rec h b
    by false h rec = h

abbrev pub is_known : List (List ℕ) → Root → Bool
is_known known root = among root.node.0 known

roots-known : (known : List (List ℕ)) (phase : Phase) (phases : List Phase) (rev : ℕ) (entries : List Entry) → AllByRecursion (Within known) entries → list_all (is_known known) (roots_in phase phases rev entries) ≡ true
roots-known known phase phases rev [] all = refl
roots-known known phase phases rev (e ∷ entries) all = all-joined (is_known known) (root_at phase phases rev e) (roots_in phase phases (rev + 1) entries) (one (is_root phase phases rev e)) (roots-known known phase phases (rev + 1) entries all.1)
  where
    one : (b : Bool) → list_all (is_known known) (cond b (record { phase = phase; node = e.node } ∷ []) []) ≡ true
    one true = and-both _ _ all.0 refl
    one false = refl

-- the roots that are written of a repository are of its changesets
pub written-known : (r : Repo) → list_all (is_known (changeset_nodes r.changesets)) (written_roots (map phase_numbered r.phases) (changeset_entries r.changesets)) ≡ true
written-known r =
    all-joined (is_known (changeset_nodes r.changesets)) (roots_in Draft (map phase_numbered r.phases) 0 (changeset_entries r.changesets)) (roots_in Secret (map phase_numbered r.phases) 0 (changeset_entries r.changesets))
    (roots-known (changeset_nodes r.changesets) Draft (map phase_numbered r.phases) 0 (changeset_entries r.changesets) (entries-within r)) (roots-known (changeset_nodes r.changesets) Secret (map phase_numbered r.phases) 0 (changeset_entries r.changesets) (entries-within r))

pub written-phases : (u : Tree) (next : Repo) → IsRepo next → all_different (changeset_nodes next.changesets) ≡ true → u roots_path ≡ Some (roots_of next) → HasPhases u next
written-phases u next is different e = record {
  roots = written_roots (map phase_numbered next.phases) (changeset_entries next.changesets);
  text = ap read_roots (bytes_at-is u roots_path (roots_of next) e) ∙ written_read (changeset_entries next.changesets) (map phase_numbered next.phases) (have-nodes next);
  known = written-known next;
  phases = ap (map phase_number) (written_same (changeset_entries next.changesets) (map phase_numbered next.phases) (is-changelog next is different) (are-phases next is)) ∙ numbers-back next.phases (phases-low next is);
}
