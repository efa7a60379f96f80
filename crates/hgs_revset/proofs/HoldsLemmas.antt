-- The test of members says what the relation does.
use Rattle.std.proofs.Common.{◌≡◌, ◌<◌, ◌≤◌, ℕ, zero, suc, ◌+◌, Bool, true, false, List, [], ◌∷◌, length, Option, Some, None, refl, sym, ◌∙◌, ap, subst, inl, inr, arith}
use Rattle.std.specs.Prelude.{◌⊎◌, ◌↔◌, ◌==◌, ◌&&◌, ◌||◌, not, slice_get, slice_index_or}
use Rattle.std.specs.List.{list_any, range_with_len}
use Rattle.std.proofs.lemmas.Bool.Decides.{nat_tests}
use Rattle.hgs_index.specs.Ancestor.{IsAncestor, IsParent, is_ancestor}
use Rattle.hgs_index.specs.Revision.{Parents, ParentsBefore}
use Rattle.hgs_index.specs.Theorems.AncestorTestLemmas.{is_ancestor-decides}
use Rattle.hgs_model.specs.Phase.{phase_number}
use Rattle.hgs_revset.specs.Members.{Set, Name, Marked, All, InPhase, Not, Ancestors, Descendants, Heads, Roots, And, Or, Story, Has}
use Rattle.hgs_revset.specs.Text.{any_of, holds, is_at, is_parent}

false_is_not : {A : Type 0} → false ≡ true → A
false_is_not e = absurd (by e)
  where
    by : false ≡ true → ⊥
    by k = cc

-- ---- tests

same-number : (a : ℕ) → (a == a) ≡ true
same-number a = grind (arith, nat_tests)

number-same : (a b : ℕ) → (a == b) ≡ true → a ≡ b
number-same a b h = grind (arith, nat_tests)

some-same : (m n : ℕ) → Some m ≡ Some n → m ≡ n
some-same m n e = cc

none-some : (n : ℕ) → None ≡ Some n → ⊥
none-some n e = cc

at-is : (o : Option ℕ) (rev : ℕ) → (is_at o rev ≡ true ↔ o ≡ Some rev)
at-is None rev = (λ h. false_is_not h, λ h. absurd (none-some rev h))
at-is (Some n) rev = (λ h. ap (λ k. Some k) (number-same n rev h), λ h. ap (λ k. n == k) (sym (some-same n rev h)) ∙ same-number n)

and-first : (a b : Bool) → (a && b) ≡ true → a ≡ true
and-first true b h = refl
and-first false b h = h

and-second : (a b : Bool) → (a && b) ≡ true → b ≡ true
and-second true b h = h
and-second false b h = false_is_not h

and-both : (a b : Bool) → a ≡ true → b ≡ true → (a && b) ≡ true
and-both true b h k = k
and-both false b h k = h

or-either : (a b : Bool) → (a || b) ≡ true → (a ≡ true) ⊎ (b ≡ true)
or-either true b h = inl refl
or-either false b h = inr h

or-first : (a b : Bool) → a ≡ true → (a || b) ≡ true
or-first true b h = refl
or-first false b h = false_is_not h

or-second : (a b : Bool) → b ≡ true → (a || b) ≡ true
or-second true b h = refl
or-second false b h = h

not-is : (b : Bool) → (not b ≡ true ↔ (b ≡ true → ⊥))
not-is true = (λ h k. false_is_not h, λ h. absurd (h refl))
not-is false = (λ h k. false_is_not k, λ h. refl)

-- ---- one of so many

any-from : (a n : ℕ) (test : ℕ → Bool) → list_any test (range_with_len a n) ≡ true → (m : ℕ) × (m < a + n) × (test m ≡ true)
any-from a zero test h = false_is_not h
any-from a (suc n) test h = elim (or-either (test a) (list_any test (range_with_len (a + 1) n)) h) [
  | inl k ↦ (a, omega arith, k)
  | inr k ↦ (let m = any-from (a + 1) n test k in let lt = m.1 in (m.0, omega (arith, lt), m.2))
]

from-any : (a n : ℕ) (test : ℕ → Bool) (m : ℕ) → a ≤ m → m < a + n → test m ≡ true → list_any test (range_with_len a n) ≡ true
from-any a zero test m low high h = absurd (omega (arith, low, high))
from-any a (suc n) test m low high h = elim (here-or-behind a m low) [
  | inl e ↦ or-first (test a) (list_any test (range_with_len (a + 1) n)) (ap test (sym e) ∙ h)
  | inr lt ↦ or-second (test a) (list_any test (range_with_len (a + 1) n)) (from-any (a + 1) n test m lt (omega (arith, high)) h)
]
  where
    here-or-behind : (a m : ℕ) → a ≤ m → (m ≡ a) ⊎ (a + 1 ≤ m)
    here-or-behind zero zero le = inl refl
    here-or-behind zero (suc m) le = inr (omega arith)
    here-or-behind (suc a) zero le = absurd (omega (arith, le))
    here-or-behind (suc a) (suc m) le = elim (here-or-behind a m (omega (arith, le))) [ inl e ↦ inl (ap suc e) | inr l ↦ inr (omega (arith, l)) ]

any-is : (count : ℕ) (test : ℕ → Bool) → (any_of count test ≡ true ↔ (m : ℕ) × (m < count) × (test m ≡ true))
any-is count test = (
  λ h. (let k = any-from 0 count test h in let lt = k.1 in (k.0, omega (arith, lt), k.2)),
  λ k. (let lt = k.1 in from-any 0 count test k.0 (omega arith) (omega (arith, lt)) k.2),
)

-- ---- parents

there : (history : List Parents) (b : ℕ) → b < length history → slice_get history b ≡ Some (slice_index_or history b (None, None))
there [] b lt = absurd (omega (arith, lt))
there (p ∷ history) zero lt = refl
there (p ∷ history) (suc b) lt = there history b (omega (arith, lt))

parents-same : (p q : Parents) → Some p ≡ Some q → p ≡ q
parents-same p q e = cc

parent-is : (history : List Parents) (p b : ℕ) → b < length history → (is_parent history p b ≡ true ↔ IsParent history p b)
parent-is history p b lt =
    let parents = slice_index_or history b (None, None) in (
      λ h. (parents, there history b lt, elim (or-either (is_at parents.0 p) (is_at parents.1 p) h) [ inl k ↦ inl ((at-is parents.0 p).0 k) | inr k ↦ inr ((at-is parents.1 p).0 k) ]),
      λ h. (let e : h.0 ≡ parents = parents-same h.0 parents (sym h.1 ∙ there history b lt) in elim h.2 [
        | inl k ↦ or-first (is_at parents.0 p) (is_at parents.1 p) ((at-is parents.0 p).1 (ap (λ (q : Parents). q.0) (sym e) ∙ k))
        | inr k ↦ or-second (is_at parents.0 p) (is_at parents.1 p) ((at-is parents.1 p).1 (ap (λ (q : Parents). q.1) (sym e) ∙ k))
      ]),
    )

-- ---- sets

abbrev IsExact : Story → Set → Type 0
IsExact s a = (rev : ℕ) → rev < length s.parents → (holds s a rev ≡ true ↔ Has s a rev)

not-exact : (s : Story) (a : Set) → IsExact s a → IsExact s (Not a)
not-exact s a e rev lt =
    let n = not-is (holds s a rev) in
    let x = e rev lt in
    (λ h k. n.0 h (x.1 k), λ none. n.1 (λ k. none (x.0 k)))

ancestors-exact : (s : Story) (a : Set) → ParentsBefore 0 s.parents → IsExact s a → IsExact s (Ancestors a)
ancestors-exact s a before e rev lt =
    let any = any-is (length s.parents) (λ m. holds s a m && is_ancestor s.parents rev m) in (
      λ h. (let k = any.0 h in let m = k.0 in (m, k.1, (e m k.1).0 (and-first (holds s a m) (is_ancestor s.parents rev m) k.2), (is_ancestor-decides s.parents before rev m k.1).0 (and-second (holds s a m) (is_ancestor s.parents rev m) k.2))),
      λ h. any.1 (h.0, h.1, and-both (holds s a h.0) (is_ancestor s.parents rev h.0) ((e h.0 h.1).1 h.2) ((is_ancestor-decides s.parents before rev h.0 h.1).1 h.3)),
    )

descendants-exact : (s : Story) (a : Set) → ParentsBefore 0 s.parents → IsExact s a → IsExact s (Descendants a)
descendants-exact s a before e rev lt =
    let any = any-is (length s.parents) (λ m. holds s a m && is_ancestor s.parents m rev) in (
      λ h. (let k = any.0 h in let m = k.0 in (m, k.1, (e m k.1).0 (and-first (holds s a m) (is_ancestor s.parents m rev) k.2), (is_ancestor-decides s.parents before m rev lt).0 (and-second (holds s a m) (is_ancestor s.parents m rev) k.2))),
      λ h. any.1 (h.0, h.1, and-both (holds s a h.0) (is_ancestor s.parents h.0 rev) ((e h.0 h.1).1 h.2) ((is_ancestor-decides s.parents before h.0 rev lt).1 h.3)),
    )

heads-exact : (s : Story) (a : Set) → IsExact s a → IsExact s (Heads a)
heads-exact s a e rev lt =
    let test : ℕ → Bool = λ child. holds s a child && is_parent s.parents rev child in
    let any = any-is (length s.parents) test in
    let n = not-is (any_of (length s.parents) test) in (
      λ h. (
        (e rev lt).0 (and-first (holds s a rev) (not (any_of (length s.parents) test)) h),
        λ child low has parent. n.0 (and-second (holds s a rev) (not (any_of (length s.parents) test)) h) (any.1 (child, low, and-both (holds s a child) (is_parent s.parents rev child) ((e child low).1 has) ((parent-is s.parents rev child low).1 parent))),
      ),
      λ h. and-both (holds s a rev) (not (any_of (length s.parents) test)) ((e rev lt).1 h.0)
          (n.1 (λ k. (let m = any.0 k in h.1 m.0 m.1 ((e m.0 m.1).0 (and-first (holds s a m.0) (is_parent s.parents rev m.0) m.2)) ((parent-is s.parents rev m.0 m.1).0 (and-second (holds s a m.0) (is_parent s.parents rev m.0) m.2))))),
    )

roots-exact : (s : Story) (a : Set) → IsExact s a → IsExact s (Roots a)
roots-exact s a e rev lt =
    let test : ℕ → Bool = λ p. holds s a p && is_parent s.parents p rev in
    let any = any-is (length s.parents) test in
    let n = not-is (any_of (length s.parents) test) in (
      λ h. (
        (e rev lt).0 (and-first (holds s a rev) (not (any_of (length s.parents) test)) h),
        λ p low has parent. n.0 (and-second (holds s a rev) (not (any_of (length s.parents) test)) h) (any.1 (p, low, and-both (holds s a p) (is_parent s.parents p rev) ((e p low).1 has) ((parent-is s.parents p rev lt).1 parent))),
      ),
      λ h. and-both (holds s a rev) (not (any_of (length s.parents) test)) ((e rev lt).1 h.0)
          (n.1 (λ k. (let m = any.0 k in h.1 m.0 m.1 ((e m.0 m.1).0 (and-first (holds s a m.0) (is_parent s.parents m.0 rev) m.2)) ((parent-is s.parents m.0 rev lt).0 (and-second (holds s a m.0) (is_parent s.parents m.0 rev) m.2))))),
    )

and-exact : (s : Story) (a b : Set) → IsExact s a → IsExact s b → IsExact s (And a b)
and-exact s a b e f rev lt = (
  λ h. ((e rev lt).0 (and-first (holds s a rev) (holds s b rev) h), (f rev lt).0 (and-second (holds s a rev) (holds s b rev) h)),
  λ h. and-both (holds s a rev) (holds s b rev) ((e rev lt).1 h.0) ((f rev lt).1 h.1),
)

or-exact : (s : Story) (a b : Set) → IsExact s a → IsExact s b → IsExact s (Or a b)
or-exact s a b e f rev lt = (
  λ h. elim (or-either (holds s a rev) (holds s b rev) h) [ inl k ↦ inl ((e rev lt).0 k) | inr k ↦ inr ((f rev lt).0 k) ],
  λ h. elim h [ inl k ↦ or-first (holds s a rev) (holds s b rev) ((e rev lt).1 k) | inr k ↦ or-second (holds s a rev) (holds s b rev) ((f rev lt).1 k) ],
)

exact : (s : Story) → ParentsBefore 0 s.parents → (a : Set) → IsExact s a
exact s before (Name n) = λ rev lt. at-is (s.named n) rev
exact s before (Marked n) = λ rev lt. at-is (s.marked n) rev
exact s before All = λ rev lt. (λ h. tt, λ h. refl)
exact s before (InPhase p) = λ rev lt. at-is (slice_get s.phases rev) (phase_number p)
exact s before (Not a) = not-exact s a (exact s before a)
exact s before (Ancestors a) = ancestors-exact s a before (exact s before a)
exact s before (Descendants a) = descendants-exact s a before (exact s before a)
exact s before (Heads a) = heads-exact s a (exact s before a)
exact s before (Roots a) = roots-exact s a (exact s before a)
exact s before (And a b) = and-exact s a b (exact s before a) (exact s before b)
exact s before (Or a b) = or-exact s a b (exact s before a) (exact s before b)

pub holds_exactly : (s : Story) (a : Set) (rev : ℕ) → ParentsBefore 0 s.parents → rev < length s.parents → (holds s a rev ≡ true ↔ Has s a rev)
holds_exactly s a rev before lt = exact s before a rev lt
