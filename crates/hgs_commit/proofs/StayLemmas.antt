-- The phase roots that are written stay where the new changeset is none.
use Rattle.std.proofs.Common.{◌≡◌, ℕ, zero, suc, ◌+◌, ◌<◌, List, [], ◌∷◌, ◌++◌, Bool, true, false, cond, ◌&&◌, length, Option, Some, None, Result, Ok, Err, refl, sym, ◌∙◌, ap, subst, arith, slice_get, append-nil, true≢false}
use Rattle.std.specs.Prelude.{◌==◌, IfSome, IsOk, nat_le, nat_lt, slice_index_or}
use Rattle.std.proofs.lemmas.Bool.Decides.{nat_tests}
use Rattle.hgs_bytes.specs.Bytes.{same}
use Rattle.hgs_bytes.specs.Theorems.ByteLemmas.{same-refl}
use Rattle.hgs_commit.specs.Commit.{new_roots, with_parsed}
use Rattle.hgs_commit.specs.Roots.{AreBefore, inherited}
use Rattle.hgs_index.specs.declared.entry.Entry.{Entry}
use Rattle.hgs_index.specs.declared.kinds.Which.TheVariants.{Changesets}
use Rattle.hgs_model.specs.Phase.{greater, phase_number}
use Rattle.hgs_model.specs.declared.phase.Phase.{Phase}
use Rattle.hgs_model.specs.declared.phase.Phase.TheVariants.{Public, Draft, Secret}
use Rattle.hgs_ops.specs.Theorems.RootsStay.{or-front}
use Rattle.hgs_phases.specs.Phases.{parent_phase}
use Rattle.hgs_phases.specs.Printed.{root_at, roots_in, written_roots}
use Rattle.hgs_phases.specs.declared.roots.Root.{Root}
use Rattle.hgs_phases.specs.Roots.{roots_text}
use Rattle.hgs_phases.specs.Theorems.WrittenLemmas.{parents_low}
use Rattle.hgs_revlog.specs.Load.{checked, entry_behind, fault_of, is_above, most_revisions, separate_at, unless}
use Rattle.hgs_revlog.specs.Loaded.{AreEntries}
use Rattle.hgs_revlog.specs.Theorems.LoadLemmas.{faultless}
use Rattle.hgs_revlog.specs.declared.fault.RevFault.{RevFault}
use Rattle.hgs_revlog.specs.declared.fault.RevFault.TheVariants.{Limit}
use Rattle.hgs_steps.specs.Steps.{roots_replacing}
use Rattle.hgs_steps.specs.declared.loaded.Loaded.{Loaded}
use Rattle.hgs_transaction.specs.declared.parts.Replacing.{Replacing}

module _ (phases : List Phase) (p : Phase) where
  at-front : (rev : ℕ) → rev < length phases → slice_index_or (phases ++ p ∷ []) rev Public ≡ slice_index_or phases rev Public
  at-front rev lt = or-front phases (p ∷ []) rev Public lt

  parent-front : (o : Option ℕ) → IfSome o (λ r. r < length phases) → parent_phase (phases ++ p ∷ []) o ≡ parent_phase phases o
  parent-front None h = refl
  parent-front (Some rev) h = at-front rev h

  inherited-front : (e : Entry) → AreBefore (length phases) e → inherited (phases ++ p ∷ []) e ≡ inherited phases e
  inherited-front e h = λ i. greater (parent-front e.p1 h.0 i) (parent-front e.p2 h.1 i)

  abbrev node_root : Phase → Entry → List Root
  node_root q e = record { phase = q; node = e.node } ∷ []

  root-front : (q : Phase) (rev : ℕ) (e : Entry) → rev < length phases → AreBefore (length phases) e → root_at q (phases ++ p ∷ []) rev e ≡ root_at q phases rev e
  root-front q rev e lt h = λ i. cond ((phase_number (at-front rev lt i) == phase_number q) && nat_lt (phase_number (inherited-front e h i)) (phase_number q)) (node_root q e) []

  at-end : (rev : ℕ) → rev ≡ length phases → slice_index_or (phases ++ p ∷ []) rev Public ≡ p
  at-end rev e = ends phases rev e
    where
      ends : (l : List Phase) (k : ℕ) → k ≡ length l → slice_index_or (l ++ p ∷ []) k Public ≡ p
      ends [] zero e = refl
      ends [] (suc k) e = absurd (omega (arith, e))
      ends (x ∷ l) zero e = absurd (omega (arith, e))
      ends (x ∷ l) (suc k) e = ends l k (omega (arith, e))

  -- a changeset of no greater phase than a parent's is no root of any phase
  no-root : (q : Phase) (rev : ℕ) (e : Entry) → rev ≡ length phases → AreBefore (length phases) e → nat_lt (phase_number (inherited phases e)) (phase_number p) ≡ false → root_at q (phases ++ p ∷ []) rev e ≡ []
  no-root q rev e last h low =
      (λ i. cond ((phase_number (at-end rev last i) == phase_number q) && nat_lt (phase_number (inherited-front e h i)) (phase_number q)) (node_root q e) [])
      ∙ ap (λ b. cond b (node_root q e) []) (by (phase_number p) (phase_number q) low)
    where
      by : (a b : ℕ) → nat_lt (phase_number (inherited phases e)) a ≡ false → ((a == b) && nat_lt (phase_number (inherited phases e)) b) ≡ false
      by a b k = grind (arith, nat_tests, k)

  roots-front : (q : Phase) (rev : ℕ) (xs : List Entry) (e : Entry) → rev + length xs ≡ length phases → ((i : ℕ) (x : Entry) → slice_get xs i ≡ Some x → AreBefore (length phases) x) → AreBefore (length phases) e → nat_lt (phase_number (inherited phases e)) (phase_number p) ≡ false
      → roots_in q (phases ++ p ∷ []) rev (xs ++ e ∷ []) ≡ roots_in q phases rev xs
  roots-front q rev [] e size all h low = append-nil (root_at q (phases ++ p ∷ []) rev e) ∙ no-root q rev e (omega (arith, size)) h low
  roots-front q rev (x ∷ xs) e size all h low =
      λ i. root-front q rev x (omega (arith, size)) (all 0 x refl) i ++ roots-front q (rev + 1) xs e (omega (arith, size)) (λ k y at. all (suc k) y at) h low i

  pub roots-stay : (xs : List Entry) (e : Entry) → length xs ≡ length phases → ((i : ℕ) (x : Entry) → slice_get xs i ≡ Some x → AreBefore (length phases) x) → AreBefore (length phases) e → nat_lt (phase_number (inherited phases e)) (phase_number p) ≡ false
      → written_roots (phases ++ p ∷ []) (xs ++ e ∷ []) ≡ written_roots phases xs
  roots-stay xs e size all h low = λ i. roots-front Draft 0 xs e (omega (arith, size)) all h low i ++ roots-front Secret 0 xs e (omega (arith, size)) all h low i

-- ---- the new entry

no-fault : (r : Result Entry RevFault) (f : RevFault) → r ≡ Err f → IsOk r → ⊥
no-fault (Ok e) f is k = cc
no-fault (Err g) f is k = true≢false (sym k)

-- bytes that are taken as an entry are it, and it has no fault
pub taken : (before : List Entry) (bytes : List ℕ) (e : Entry) → IsOk (entry_behind before bytes) → separate_at bytes (length before) ≡ Ok e → (entry_behind before bytes ≡ Ok e) × (fault_of before e ≡ None)
taken before bytes e ok is = by (nat_le most_revisions (length before)) (fault_of before e) refl refl ok
  where
    by : (b : Bool) (o : Option RevFault) → nat_le most_revisions (length before) ≡ b → fault_of before e ≡ o → IsOk (entry_behind before bytes) → (entry_behind before bytes ≡ Ok e) × (fault_of before e ≡ None)
    by true o t f k = absurd (no-fault (entry_behind before bytes) (Limit Changesets) (ap (λ c. cond c (Err (Limit Changesets)) (checked before (separate_at bytes (length before)))) t) k)
    by false None t f k = (ap (λ c. cond c (Err (Limit Changesets)) (checked before (separate_at bytes (length before)))) t ∙ ap (checked before) is ∙ ap (λ x. unless x e) f, f)
    by false (Some fault) t f k = absurd (no-fault (entry_behind before bytes) fault (ap (λ c. cond c (Err (Limit Changesets)) (checked before (separate_at bytes (length before)))) t ∙ ap (checked before) is ∙ ap (λ x. unless x e) f) k)

pub new-before : (before : List Entry) (bytes : List ℕ) (e : Entry) → IsOk (entry_behind before bytes) → separate_at bytes (length before) ≡ Ok e → AreBefore (length before) e
new-before before bytes e ok is = let f = faultless before e (taken before bytes e ok is).1 in (low e.p1 f.first, low e.p2 f.second)
  where
    below : (a b : ℕ) → nat_le a b ≡ false → b < a
    below a b k = grind (arith, nat_tests, k)

    low : (o : Option ℕ) → is_above (length before) o ≡ false → IfSome o (λ r. r < length before)
    low None h = tt
    low (Some p) h = below (length before) p h

-- the same roots are written
pub old-roots : (l : Loaded) (p : Phase) (bytes : List ℕ) (e : Entry) → AreEntries l.changelog.entries → length l.phases ≡ length l.changelog.entries → IsOk (entry_behind l.changelog.entries bytes) → separate_at bytes (length l.changelog.entries) ≡ Ok e → nat_lt (phase_number (inherited l.phases e)) (phase_number p) ≡ false → new_roots l p bytes ≡ None
old-roots l p bytes e are fit ok is low =
    (λ i. replaced (roots_text (written_roots (l.phases ++ p ∷ []) (with_parsed entries (both.0 i)))))
    ∙ ap (λ r. replaced (roots_text r)) (roots-stay l.phases p entries e (sym fit) all front low)
    ∙ ap (λ (b : Bool). let o : Option Replacing = cond b None (Some (roots_replacing l (roots_text (written_roots l.phases entries)))) in o) (same-refl (roots_text (written_roots l.phases entries)))
  where
    entries : List Entry
    entries = l.changelog.entries

    replaced : List ℕ → Option Replacing
    replaced text = cond (same (roots_text (written_roots l.phases entries)) text) None (Some (roots_replacing l text))

    both : (entry_behind entries bytes ≡ Ok e) × (fault_of entries e ≡ None)
    both = taken entries bytes e ok is

    lower : (n : ℕ) (o : Option ℕ) → n < length l.phases → IfSome o (λ r. r < n) → IfSome o (λ r. r < length l.phases)
    lower n None lt h = tt
    lower n (Some r) lt h = omega (arith, lt, h)

    within : (i : ℕ) (xs : List Entry) (x : Entry) → slice_get xs i ≡ Some x → i < length xs
    within i [] x h = cc
    within zero (y ∷ xs) x h = omega arith
    within (suc i) (y ∷ xs) x h = let n = within i xs x h in omega (arith, n)

    all : (i : ℕ) (x : Entry) → slice_get entries i ≡ Some x → AreBefore (length l.phases) x
    all i x at =
        let n = within i entries x at in
        let lt : i < length l.phases = omega (arith, n, fit) in
        let h = parents_low entries i x are.earlier at in
        (lower i x.p1 lt h.0, lower i x.p2 lt h.1)

    front : AreBefore (length l.phases) e
    front = subst (λ n. AreBefore n e) (sym fit) (new-before entries bytes e ok is)
