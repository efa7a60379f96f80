-- A tree has one report at most.
use Rattle.std.proofs.Common.{◌≡◌, ◌⊎◌, ℕ, List, [], ◌∷◌, Bool, true, false, ◌&&◌, ◌||◌, refl, sym, ◌∙◌, ap, subst, inl, inr, arith}
use Rattle.std.specs.Prelude.{Option, Some, None, ◌==◌, nat_lt}
use Rattle.std.specs.List.{AllByRecursion, list_any}
use Rattle.std.proofs.lemmas.Bool.Decides.{nat_tests}
use Rattle.hgs_bytes.specs.Bytes.{same, is_below}
use Rattle.hgs_files.specs.Tree.{Tree}
use Rattle.hgs_findings.specs.Findings.{IsFinding, Finding, is_rev_below, is_same_rev, is_finding_below, rise, is_finding, IsReport}
use Rattle.hgs_findings.proofs.Basics.{same-eq, same-refl, bool, never, and-left, and-right, below-trans}
use Rattle.hgs_findings.proofs.NamingLemmas.{eq-test, eq-itself}
use Rattle.hgs_findings.proofs.OrderLemmas.{below-differs}

abbrev is_it : Finding → Finding → Bool
is_it f g = is_finding f.path f.rev f.kind g

same-rev-is : (a b : Option ℕ) → is_same_rev a b ≡ true → a ≡ b
same-rev-is None None e = refl
same-rev-is None (Some b) e = never (sym e)
same-rev-is (Some a) None e = never (sym e)
same-rev-is (Some a) (Some b) e = ap Some (eq-test a b e)

it-is : (f g : Finding) → is_it f g ≡ true → g ≡ f
it-is f g e =
    let first = and-left (same g.path f.path && is_same_rev g.rev f.rev) (g.kind == f.kind) e in
    let path = same-eq g.path f.path (and-left (same g.path f.path) (is_same_rev g.rev f.rev) first) in
    let rev = same-rev-is g.rev f.rev (and-right (same g.path f.path) (is_same_rev g.rev f.rev) first) in
    let kind = eq-test g.kind f.kind (and-right (same g.path f.path && is_same_rev g.rev f.rev) (g.kind == f.kind) e) in
    λ i. record { path = path i; rev = rev i; kind = kind i }

rev-itself : (a : Option ℕ) → is_same_rev a a ≡ true
rev-itself None = refl
rev-itself (Some a) = eq-itself a

it-itself : (f : Finding) → is_it f f ≡ true
it-itself f = ap (λ b. b && is_same_rev f.rev f.rev && (f.kind == f.kind)) (same-refl f.path) ∙ ap (λ b. b && (f.kind == f.kind)) (rev-itself f.rev) ∙ eq-itself f.kind

lt-no : (a : ℕ) → nat_lt a a ≡ false
lt-no a = grind (arith, nat_tests)

lt-on : (a b c : ℕ) → nat_lt a b ≡ true → nat_lt b c ≡ true → nat_lt a c ≡ true
lt-on a b c e f = grind (arith, nat_tests)

rev-no : (a : Option ℕ) → is_rev_below a a ≡ false
rev-no None = refl
rev-no (Some a) = lt-no a

rev-on : (a b c : Option ℕ) → is_rev_below a b ≡ true → is_rev_below b c ≡ true → is_rev_below a c ≡ true
rev-on None None c e f = never (sym e)
rev-on None (Some b) None e f = never (sym f)
rev-on None (Some b) (Some c) e f = refl
rev-on (Some a) None c e f = never (sym e)
rev-on (Some a) (Some b) None e f = never (sym f)
rev-on (Some a) (Some b) (Some c) e f = lt-on a b c e f

-- why a finding is below another
data IsUnder (f g : Finding) : Type 0 where
  by_path : is_below f.path g.path ≡ true → IsUnder f g
  by_rev : f.path ≡ g.path → is_rev_below f.rev g.rev ≡ true → IsUnder f g
  by_kind : f.path ≡ g.path → f.rev ≡ g.rev → nat_lt f.kind g.kind ≡ true → IsUnder f g

under : (f g : Finding) → is_finding_below f g ≡ true → IsUnder f g
under f g e = by (bool (is_below f.path g.path))
  where
    inner : f.path ≡ g.path → (is_rev_below f.rev g.rev || (is_same_rev f.rev g.rev && nat_lt f.kind g.kind)) ≡ true → IsUnder f g
    inner p h = rev (bool (is_rev_below f.rev g.rev))
      where
        rev : (is_rev_below f.rev g.rev ≡ true) ⊎ (is_rev_below f.rev g.rev ≡ false) → IsUnder f g
        rev (inl t) = by_rev p t
        rev (inr t) =
            let k : (is_same_rev f.rev g.rev && nat_lt f.kind g.kind) ≡ true = sym (ap (λ b. b || (is_same_rev f.rev g.rev && nat_lt f.kind g.kind)) t) ∙ h in
            by_kind p (same-rev-is f.rev g.rev (and-left (is_same_rev f.rev g.rev) (nat_lt f.kind g.kind) k)) (and-right (is_same_rev f.rev g.rev) (nat_lt f.kind g.kind) k)

    by : (is_below f.path g.path ≡ true) ⊎ (is_below f.path g.path ≡ false) → IsUnder f g
    by (inl t) = by_path t
    by (inr t) =
        let k : (same f.path g.path && (is_rev_below f.rev g.rev || (is_same_rev f.rev g.rev && nat_lt f.kind g.kind))) ≡ true = sym (ap (λ b. b || (same f.path g.path && (is_rev_below f.rev g.rev || (is_same_rev f.rev g.rev && nat_lt f.kind g.kind)))) t) ∙ e in
        inner (same-eq f.path g.path (and-left (same f.path g.path) _ k)) (and-right (same f.path g.path) _ k)

not-under-itself : (f : Finding) → IsUnder f f → ⊥
not-under-itself f (by_path e) = never (sym (same-refl f.path) ∙ below-differs f.path f.path e)
not-under-itself f (by_rev p e) = never (sym e ∙ rev-no f.rev)
not-under-itself f (by_kind p r e) = never (sym e ∙ lt-no f.kind)

under-on : (f g h : Finding) → IsUnder f g → IsUnder g h → IsUnder f h
under-on f g h (by_path a) (by_path b) = by_path (below-trans f.path g.path h.path a b)
under-on f g h (by_path a) (by_rev p b) = by_path (ap (is_below f.path) (sym p) ∙ a)
under-on f g h (by_path a) (by_kind p r b) = by_path (ap (is_below f.path) (sym p) ∙ a)
under-on f g h (by_rev p a) (by_path b) = by_path (ap (λ x. is_below x h.path) p ∙ b)
under-on f g h (by_kind p r a) (by_path b) = by_path (ap (λ x. is_below x h.path) p ∙ b)
under-on f g h (by_rev p a) (by_rev q b) = by_rev (p ∙ q) (rev-on f.rev g.rev h.rev a b)
under-on f g h (by_rev p a) (by_kind q r b) = by_rev (p ∙ q) (ap (is_rev_below f.rev) (sym r) ∙ a)
under-on f g h (by_kind p r a) (by_rev q b) = by_rev (p ∙ q) (ap (λ x. is_rev_below x h.rev) r ∙ b)
under-on f g h (by_kind p r a) (by_kind q u b) = by_kind (p ∙ q) (r ∙ u) (lt-on f.kind g.kind h.kind a b)

-- the first of a report is under each behind it
all-under : (f : Finding) (fs : List Finding) → rise (f ∷ fs) ≡ true → AllByRecursion (IsUnder f) fs
all-under f [] e = tt
all-under f (g ∷ fs) e =
    let first = under f g (and-left (is_finding_below f g) (rise (g ∷ fs)) e) in
    (first, onto fs (all-under g fs (and-right (is_finding_below f g) (rise (g ∷ fs)) e)))
  where
    onto : (xs : List Finding) → AllByRecursion (IsUnder g) xs → AllByRecursion (IsUnder f) xs
    onto [] all = tt
    onto (x ∷ xs) all = (under-on f g x (under f g (and-left (is_finding_below f g) (rise (g ∷ fs)) e)) all.0, onto xs all.1)

rise-tail : (f : Finding) (fs : List Finding) → rise (f ∷ fs) ≡ true → rise fs ≡ true
rise-tail f [] e = refl
rise-tail f (g ∷ fs) e = and-right (is_finding_below f g) (rise (g ∷ fs)) e

abbrev stands : Finding → List Finding → Bool
stands f fs = list_any (is_it f) fs

absent-under : (f : Finding) (fs : List Finding) → AllByRecursion (IsUnder f) fs → stands f fs ≡ false
absent-under f [] all = refl
absent-under f (g ∷ fs) all = ap (λ b. b || stands f fs) (other (bool (is_it f g))) ∙ absent-under f fs all.1
  where
    other : (is_it f g ≡ true) ⊎ (is_it f g ≡ false) → is_it f g ≡ false
    other (inr e) = e
    other (inl e) = absurd (not-under-itself f (subst (IsUnder f) (it-is f g e) all.0))

-- what stands in a list behind is the first or behind it
split-stands : (f g : Finding) (fs : List Finding) → stands f (g ∷ fs) ≡ true → (g ≡ f) ⊎ (stands f fs ≡ true)
split-stands f g fs e = by (bool (is_it f g))
  where
    by : (is_it f g ≡ true) ⊎ (is_it f g ≡ false) → (g ≡ f) ⊎ (stands f fs ≡ true)
    by (inl t) = inl (it-is f g t)
    by (inr t) = inr (sym (ap (λ b. b || stands f fs) t) ∙ e)

under-of : (f g : Finding) (fs : List Finding) → AllByRecursion (IsUnder f) fs → stands g fs ≡ true → IsUnder f g
under-of f g [] all e = never (sym e)
under-of f g (x ∷ fs) all e = elim (split-stands g x fs e) [
  | inl is ↦ subst (IsUnder f) is all.0
  | inr more ↦ under-of f g fs all.1 more
]

pub lists-same : (xs ys : List Finding) → rise xs ≡ true → rise ys ≡ true → AllByRecursion (λ f. stands f ys ≡ true) xs → AllByRecursion (λ f. stands f xs ≡ true) ys → xs ≡ ys
lists-same [] [] a b p q = refl
lists-same [] (y ∷ ys) a b p q = never (sym q.0)
lists-same (x ∷ xs) [] a b p q = never (sym p.0)
lists-same (x ∷ xs) (y ∷ ys) a b p q =
    let is = first (split-stands x y ys p.0) (split-stands y x xs q.0) in
    let rest = lists-same xs ys (rise-tail x xs a) (rise-tail y ys b) (left xs (all-under x xs a) p.1 is) (right ys (all-under y ys b) q.1 is) in
    λ i. is i ∷ rest i
  where
    first : (y ≡ x) ⊎ (stands x ys ≡ true) → (x ≡ y) ⊎ (stands y xs ≡ true) → x ≡ y
    first (inl e) f = sym e
    first (inr e) (inl f) = f
    first (inr e) (inr f) = absurd (not-under-itself x (under-on x y x (under-of x y xs (all-under x xs a) f) (under-of y x ys (all-under y ys b) e)))

    left : (us : List Finding) → AllByRecursion (IsUnder x) us → AllByRecursion (λ f. stands f (y ∷ ys) ≡ true) us → x ≡ y → AllByRecursion (λ f. stands f ys ≡ true) us
    left [] u s is = tt
    left (w ∷ us) u s is = (behind (split-stands w y ys s.0), left us u.1 s.1 is)
      where
        behind : (y ≡ w) ⊎ (stands w ys ≡ true) → stands w ys ≡ true
        behind (inr e) = e
        behind (inl e) = absurd (not-under-itself x (subst (IsUnder x) (sym e ∙ sym is) u.0))

    right : (us : List Finding) → AllByRecursion (IsUnder y) us → AllByRecursion (λ f. stands f (x ∷ xs) ≡ true) us → x ≡ y → AllByRecursion (λ f. stands f xs ≡ true) us
    right [] u s is = tt
    right (w ∷ us) u s is = (behind (split-stands w x xs s.0), right us u.1 s.1 is)
      where
        behind : (x ≡ w) ⊎ (stands w xs ≡ true) → stands w xs ≡ true
        behind (inr e) = e
        behind (inl e) = absurd (not-under-itself y (subst (IsUnder y) (sym e ∙ is) u.0))

-- a tree has one report at most
pub report-same : (t : Tree) (xs ys : List Finding) (a b c d : ℕ) → IsReport t xs a b → IsReport t ys c d → xs ≡ ys
report-same t xs ys a b c d p q = lists-same xs ys p.ordered q.ordered (each xs p.found ys q.complete) (each ys q.found xs p.complete)
  where
    each : (us : List Finding) → AllByRecursion (λ (f : Finding). IsFinding t f.path f.rev f.kind) us → (vs : List Finding) → ((path : List ℕ) (rev : Option ℕ) (kind : ℕ) → IsFinding t path rev kind → list_any (is_finding path rev kind) vs ≡ true) → AllByRecursion (λ f. stands f vs ≡ true) us
    each [] all vs h = tt
    each (u ∷ us) all vs h = (h u.path u.rev u.kind all.0, each us all.1 vs h)
