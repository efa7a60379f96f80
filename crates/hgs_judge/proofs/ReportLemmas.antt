-- Findings that were sorted, and of which equal ones were dropped.
use Rattle.std.proofs.Common.{◌≡◌, ℕ, zero, suc, ◌+◌, ◌++◌, take, append_assoc, append-nil, Bool, true, false, cond, ◌&&◌, ◌||◌, List, [], ◌∷◌, get_or, refl, sym, ◌∙◌, ap, subst, arith}
use Rattle.std.specs.Prelude.{Option, Some, None, nat_lt, slice_get, ◌==◌}
use Rattle.std.specs.List.{list_any, dedup, dedup_from}
use Rattle.std.specs.List.Sorted.{IsSorted, IsPermutation}
use Rattle.std.specs.declared.cmp.Ordering.{Ordering}
use Rattle.std.specs.declared.cmp.Ordering.TheVariants.{Less, Equal, Greater}
use Rattle.std.specs.Ordering.{nat_cmp, is_eq, is_lt, ordering_reverse, ordering_then}
use Rattle.std.specs.Option.{option_cmp}
use Rattle.std.specs.Cmp.{then_flip, tied_then, unsigned_ties}
use Rattle.std.specs.Cmp.Lexicographic.{bytes_decides, options_total, slice_cmp, texts_ties}
use Rattle.std.proofs.lemmas.Bool.Decides.{nat_tests}
use Rattle.std.proofs.lemmas.Cmp.{nat_cmp_total, nat_list_cmp_total}
use Rattle.std.proofs.lemmas.List.Sorted.{list_any-IsPermutation}
use Rattle.hgs_bytes.specs.Bytes.{same, is_below}
use Rattle.hgs_findings.specs.Findings as findings
use Rattle.hgs_findings.specs.Findings.{is_rev_below, is_same_rev, is_finding_below, rise}
use Rattle.hgs_judge.specs.declared.report.Finding.{Finding}
use Rattle.hgs_judge.specs.Report.{each_from, finding_in, findings_in}
use Rattle.hgs_judge.proofs.Basics.{never, eq-test}

-- ---- the order of findings

abbrev pub by_parts : Finding → Finding → Ordering
by_parts f g = ordering_then (slice_cmp nat_cmp f.path g.path) (ordering_then (option_cmp nat_cmp f.rev g.rev) (nat_cmp f.kind g.kind))

abbrev pub are_same : Finding → Finding → Bool
are_same f g = same f.path g.path && (is_same_rev f.rev g.rev && (f.kind == g.kind))

lt-then : (a b : Ordering) → is_lt (ordering_then a b) ≡ (is_lt a || (is_eq a && is_lt b))
lt-then Less b = refl
lt-then Equal b = refl
lt-then Greater b = refl

nat-below : (a b : ℕ) → nat_lt a b ≡ is_lt (nat_cmp a b)
nat-below a b = grind (arith, nat_tests)

rev-below : (a b : Option ℕ) → is_rev_below a b ≡ is_lt (option_cmp nat_cmp a b)
rev-below None None = refl
rev-below None (Some b) = refl
rev-below (Some a) None = refl
rev-below (Some a) (Some b) = nat-below a b

rev-same : (a b : Option ℕ) → is_same_rev a b ≡ is_eq (option_cmp nat_cmp a b)
rev-same None None = refl
rev-same None (Some b) = refl
rev-same (Some a) None = refl
rev-same (Some a) (Some b) = unsigned_ties a b

below-is : (f g : Finding) → is_finding_below (finding_in f) (finding_in g) ≡ is_lt (by_parts f g)
below-is f g =
    ap (λ b. is_below f.path g.path || (b && (is_rev_below f.rev g.rev || (is_same_rev f.rev g.rev && nat_lt f.kind g.kind)))) (texts_ties f.path g.path)
    ∙ ap (λ b. is_below f.path g.path || (is_eq (slice_cmp nat_cmp f.path g.path) && b)) inner
    ∙ sym (lt-then (slice_cmp nat_cmp f.path g.path) (ordering_then (option_cmp nat_cmp f.rev g.rev) (nat_cmp f.kind g.kind)))
  where
    inner : (is_rev_below f.rev g.rev || (is_same_rev f.rev g.rev && nat_lt f.kind g.kind)) ≡ is_lt (ordering_then (option_cmp nat_cmp f.rev g.rev) (nat_cmp f.kind g.kind))
    inner =
        ap (λ b. b || (is_same_rev f.rev g.rev && nat_lt f.kind g.kind)) (rev-below f.rev g.rev)
        ∙ ap (λ b. is_lt (option_cmp nat_cmp f.rev g.rev) || (b && nat_lt f.kind g.kind)) (rev-same f.rev g.rev)
        ∙ ap (λ b. is_lt (option_cmp nat_cmp f.rev g.rev) || (is_eq (option_cmp nat_cmp f.rev g.rev) && b)) (nat-below f.kind g.kind)
        ∙ sym (lt-then (option_cmp nat_cmp f.rev g.rev) (nat_cmp f.kind g.kind))

same-is : (f g : Finding) → are_same f g ≡ is_eq (by_parts f g)
same-is f g =
    ap (λ b. b && (is_same_rev f.rev g.rev && (f.kind == g.kind))) (texts_ties f.path g.path)
    ∙ ap (λ b. is_eq (slice_cmp nat_cmp f.path g.path) && b) (ap (λ b. b && (f.kind == g.kind)) (rev-same f.rev g.rev) ∙ ap (λ b. is_eq (option_cmp nat_cmp f.rev g.rev) && b) (unsigned_ties f.kind g.kind) ∙ tied_then (option_cmp nat_cmp f.rev g.rev) (nat_cmp f.kind g.kind))
    ∙ tied_then (slice_cmp nat_cmp f.path g.path) (ordering_then (option_cmp nat_cmp f.rev g.rev) (nat_cmp f.kind g.kind))

turned : (f g : Finding) → by_parts f g ≡ ordering_reverse (by_parts g f)
turned f g =
    ap (λ o. ordering_then o (ordering_then (option_cmp nat_cmp f.rev g.rev) (nat_cmp f.kind g.kind))) (nat_list_cmp_total.antisymm f.path g.path)
    ∙ ap (ordering_then (ordering_reverse (slice_cmp nat_cmp g.path f.path)))
    (ap (λ o. ordering_then o (nat_cmp f.kind g.kind)) ((options_total nat_cmp_total).antisymm f.rev g.rev)
    ∙ ap (ordering_then (ordering_reverse (option_cmp nat_cmp g.rev f.rev))) (nat_cmp_total.antisymm f.kind g.kind)
    ∙ then_flip (option_cmp nat_cmp g.rev f.rev) (nat_cmp g.kind f.kind))
    ∙ then_flip (slice_cmp nat_cmp g.path f.path) (ordering_then (option_cmp nat_cmp g.rev f.rev) (nat_cmp g.kind f.kind))

-- of two that differ, one is below the other
below-other : (f g : Finding) → are_same g f ≡ false → is_lt (by_parts g f) ≡ false → is_finding_below (finding_in f) (finding_in g) ≡ true
below-other f g other not_below = below-is f g ∙ ap is_lt (turned f g) ∙ by (by_parts g f) (sym (same-is g f) ∙ other) not_below
  where
    by : (o : Ordering) → is_eq o ≡ false → is_lt o ≡ false → is_lt (ordering_reverse o) ≡ true
    by Less a b = never b
    by Equal a b = never a
    by Greater a b = refl

and-true : (a b : Bool) → (a && b) ≡ true → (a ≡ true) × (b ≡ true)
and-true true b e = (refl, e)
and-true false b e = never (sym e)

rev-is : (a b : Option ℕ) → is_same_rev a b ≡ true → a ≡ b
rev-is None None e = refl
rev-is None (Some b) e = never (sym e)
rev-is (Some a) None e = never (sym e)
rev-is (Some a) (Some b) e = ap Some (eq-test a b e)

same-finding : (f g : Finding) → are_same f g ≡ true → f ≡ g
same-finding f g e =
    let a = and-true (same f.path g.path) (is_same_rev f.rev g.rev && (f.kind == g.kind)) e in
    let b = and-true (is_same_rev f.rev g.rev) (f.kind == g.kind) a.1 in
    let p = (bytes_decides f.path g.path).0 a.0 in
    let r = rev-is f.rev g.rev b.0 in
    let k = eq-test f.kind g.kind b.1 in
    λ i. record { path = p i; rev = r i; kind = k i }

-- ---- lists of findings

abbrev Weak : List Finding → Type 0
Weak [] = Unit {0}
Weak (f ∷ []) = Unit {0}
Weak (f ∷ g ∷ list) = (is_lt (by_parts g f) ≡ false) × Weak (g ∷ list)

weak : (list : List Finding) → IsSorted by_parts list → Weak list
weak [] s = tt
weak (f ∷ []) s = tt
weak (f ∷ g ∷ list) s = (s 0 f (omega arith) (omega arith), weak (g ∷ list) (λ k d low lt. let e : suc (k + 1) ≡ suc k + 1 = omega arith in ap (λ n. is_lt (by_parts (get_or (f ∷ g ∷ list) n d) (get_or (g ∷ list) k d))) e ∙ s (suc k) d (omega arith) (omega (arith, lt))))

record Headed (k : Finding) (list : List Finding) : Type 0 where
  rest : List Finding
  is : list ≡ k ∷ rest

headed : (E : Finding → Finding → Bool) (k : Finding) (list : List Finding) → Headed k (dedup_from E k list)
headed E k [] = record { rest = []; is = refl }
headed E k (x ∷ list) = by (E x k) (headed E k list)
  where
    by : (b : Bool) → Headed k (dedup_from E k list) → Headed k (cond b (dedup_from E k list) (k ∷ dedup_from E x list))
    by true h = h
    by false h = record { rest = dedup_from E x list; is = refl }

rise-from : (E : Finding → Finding → Bool) → ((f g : Finding) → E f g ≡ are_same f g) → (k : Finding) (list : List Finding) → Weak (k ∷ list) → rise (findings_in (dedup_from E k list)) ≡ true
rise-from E is k [] w = refl
rise-from E is k (x ∷ list) w = by (E x k) refl (λ e. rise-from E is k list (subst (λ y. Weak (y ∷ list)) (same-finding x k (sym (is x k) ∙ e)) w.1)) (rise-from E is x list w.1)
  where
    by : (b : Bool) → E x k ≡ b → (E x k ≡ true → rise (findings_in (dedup_from E k list)) ≡ true) → rise (findings_in (dedup_from E x list)) ≡ true → rise (findings_in (cond b (dedup_from E k list) (k ∷ dedup_from E x list))) ≡ true
    by true e keep next = keep e
    by false e keep next =
        let h = headed E x list in
        ap (λ l. rise (findings_in (k ∷ l))) h.is
        ∙ ap (λ b. b && rise (findings_in (x ∷ h.rest))) (below-other k x (sym (is x k) ∙ e) w.0)
        ∙ ap (λ l. rise (findings_in l)) (sym h.is)
        ∙ next

pub dedup-rise : (E : Finding → Finding → Bool) → ((f g : Finding) → E f g ≡ are_same f g) → (list : List Finding) → IsSorted by_parts list → rise (findings_in (dedup E list)) ≡ true
dedup-rise E is [] s = refl
dedup-rise E is (f ∷ list) s = rise-from E is f list (weak (f ∷ list) s)

any-mapped : (p : findings.Finding → Bool) (list : List Finding) → list_any p (findings_in list) ≡ list_any (λ f. p (finding_in f)) list
any-mapped p [] = refl
any-mapped p (f ∷ list) = ap (λ b. p (finding_in f) || b) (any-mapped p list)

any-from : (E : Finding → Finding → Bool) → ((f g : Finding) → E f g ≡ are_same f g) → (q : Finding → Bool) (k : Finding) (list : List Finding) → list_any q (dedup_from E k list) ≡ (q k || list_any q list)
any-from E is q k [] = refl
any-from E is q k (x ∷ list) = by (E x k) refl (any-from E is q k list) (any-from E is q x list)
  where
    twice : (a b : Bool) → (a || b) ≡ (a || (a || b))
    twice true b = refl
    twice false b = refl

    by : (b : Bool) → E x k ≡ b → list_any q (dedup_from E k list) ≡ (q k || list_any q list) → list_any q (dedup_from E x list) ≡ (q x || list_any q list) → list_any q (cond b (dedup_from E k list) (k ∷ dedup_from E x list)) ≡ (q k || (q x || list_any q list))
    by true e keep next = keep ∙ twice (q k) (list_any q list) ∙ ap (λ y. q k || (q y || list_any q list)) (sym (same-finding x k (sym (is x k) ∙ e)))
    by false e keep next = ap (λ b. q k || b) next

any-dedup : (E : Finding → Finding → Bool) → ((f g : Finding) → E f g ≡ are_same f g) → (q : Finding → Bool) (list : List Finding) → list_any q (dedup E list) ≡ list_any q list
any-dedup E is q [] = refl
any-dedup E is q (f ∷ list) = any-from E is q f list

pub same-findings : (E : Finding → Finding → Bool) → ((f g : Finding) → E f g ≡ are_same f g) → (p : findings.Finding → Bool) (list sorted : List Finding) → IsPermutation list sorted → list_any p (findings_in (dedup E sorted)) ≡ list_any p (findings_in list)
same-findings E is p list sorted moved =
    any-mapped p (dedup E sorted)
    ∙ any-dedup E is (λ f. p (finding_in f)) sorted
    ∙ sym (list_any-IsPermutation (λ f. p (finding_in f)) list sorted moved)
    ∙ sym (any-mapped p list)

-- ---- the findings of a path

-- those of one more element
pub each-more : {A : Type 0} (f : ℕ → A → List findings.Finding) (k : ℕ) (xs : List A) (i : ℕ) (x : A) → slice_get xs i ≡ Some x → each_from f k (take (suc i) xs) ≡ each_from f k (take i xs) ++ f (k + i) x
each-more f k [] i x at = absurd (no_x at)
  where
    no_x : None ≡ Some x → ⊥
    no_x h = cc
each-more {A = A} f k (y ∷ xs) zero x at = append-nil (f k y) ∙ ap (f k) (some-same y x at) ∙ ap (λ n. f n x) (let e : k ≡ k + 0 = omega arith in e)
  where
    some-same : (a b : A) → Some a ≡ Some b → a ≡ b
    some-same a b h = ap (elim [ None ↦ a | Some z ↦ z ]) h
each-more f k (y ∷ xs) (suc i) x at =
    ap (λ l. f k y ++ l) (each-more f (suc k) xs i x at)
    ∙ sym (append_assoc (f k y) (each_from f (suc k) (take i xs)) (f (suc k + i) x))
    ∙ ap (λ n. (f k y ++ each_from f (suc k) (take i xs)) ++ f n x) (let e : suc k + i ≡ k + suc i = omega arith in e)

pub added : {A : Type 0} (f : ℕ → A → List findings.Finding) (xs : List A) (i : ℕ) (x : A) (start now new : List findings.Finding) → slice_get xs i ≡ Some x → now ≡ start ++ each_from f 0 (take i xs) → new ≡ now ++ f i x → new ≡ start ++ each_from f 0 (take (i + 1) xs)
added f xs i x start now new at before one =
    one
    ∙ ap (λ l. l ++ f i x) before
    ∙ append_assoc start (each_from f 0 (take i xs)) (f i x)
    ∙ ap (λ n. start ++ (each_from f 0 (take i xs) ++ f n x)) (let e : i ≡ 0 + i = omega arith in e)
    ∙ ap (λ l. start ++ l) (sym (each-more f 0 xs i x at))
    ∙ ap (λ n. start ++ each_from f 0 (take n xs)) (let e : suc i ≡ i + 1 = omega arith in e)

pub three-added : (now one two three a b c : List findings.Finding) → one ≡ now ++ a → two ≡ one ++ b → three ≡ two ++ c → three ≡ now ++ (a ++ (b ++ c))
three-added now one two three a b c p q r =
    r ∙ ap (λ l. l ++ c) (q ∙ ap (λ l. l ++ b) p)
    ∙ append_assoc (now ++ a) b c
    ∙ append_assoc now a (b ++ c)
