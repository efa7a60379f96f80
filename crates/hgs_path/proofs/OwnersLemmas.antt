-- The owners of a name that are kept.
use Rattle.std.proofs.Common.{◌≡◌, ℕ, Bool, true, false, ◌&&◌, ◌||◌, not, List, Option, Some, None, refl, sym, ap, ◌∙◌}
use Rattle.std.proofs.lemmas.Bool.{false_from_ne_true}
use Rattle.hgs_bytes.specs.Bytes.{same}
use Rattle.hgs_bytes.specs.Theorems.ByteLemmas.{same-eq, same-refl}
use Rattle.hgs_files.specs.Tree.{same_path}
use Rattle.hgs_files.specs.Theorems.TreeLemmas.{same_path-refl, same_path-eq}
use Rattle.hgs_path.specs.Owners.{is_kept, with_owner, IsOther}

pub and-parts : (a b : Bool) → (a && b) ≡ true → (a ≡ true) × (b ≡ true)
and-parts true b h = (refl, h)
and-parts false b h = cc

pub not-true : (b : Bool) → not b ≡ true → b ≡ false
not-true true h = cc
not-true false h = refl

pub or-first : (a b : Bool) → a ≡ true → (a || b) ≡ true
or-first true b h = refl
or-first false b h = cc

pub or-last : (a b : Bool) → b ≡ true → (a || b) ≡ true
or-last true b h = refl
or-last false b h = h

or-not : (a b : Bool) → b ≡ false → (a || not (b || a)) ≡ true
or-not true b h = refl
or-not false true h = cc
or-not false false h = refl

or-kept : (a b : Bool) → (a || not b) ≡ true → (a || not (b || a)) ≡ true
or-kept true b h = refl
or-kept false true h = cc
or-kept false false h = refl

pub and-both : (a b : Bool) → a ≡ true → b ≡ true → (a && b) ≡ true
and-both true b h k = k
and-both false b h k = cc

and-never : (a b : Bool) → (b || not a) ≡ true → (a && not b) ≡ false
and-never true true h = refl
and-never true false h = cc
and-never false b h = refl

and-none : (a b : Bool) → a ≡ false → (a && b) ≡ false
and-none true b h = cc
and-none false b h = refl

-- different either way round
pub same-not : (p q : List ℕ) → same p q ≡ false → same q p ≡ false
same-not p q h = false_from_ne_true (same q p) (λ e. let is = same-eq q p e in let yes : same p q ≡ true = ap (same p) is ∙ same-refl p in cc)

module _ (own : List ℕ → Bool) (path : List ℕ) where
  abbrev Kept : (List ℕ → Bool) → Option (List ℕ) → Option (List ℕ) → Type 0
  Kept o f s = (q : List ℕ) → is_kept o f s q ≡ true

  abbrev more : List ℕ → Bool
  more q = own q || same q path

  owned : (p : List ℕ) (s : Option (List ℕ)) → Kept own (Some p) s → own p ≡ true
  owned p None h = (and-parts (own p) _ (h p)).0
  owned p (Some r) h = (and-parts (own p) _ (h p)).0

  -- no path owned the name
  pub first-here : (s : Option (List ℕ)) → Kept own None s → Kept more (Some path) s
  first-here None h q = and-both (more path) _ (or-last (own path) (same path path) (same-refl path)) (or-not (same q path) (own q) (not-true (own q) (and-parts (not (own q)) true (h q)).0))
  first-here (Some r) h q = let e : false ≡ true = (and-parts (not (own q)) false (h q)).1 in cc

  -- another path did
  pub second-here : (p : List ℕ) (s : Option (List ℕ)) → Kept own (Some p) s → same p path ≡ false → Kept more (Some p) (Some path)
  second-here p s h e q =
      and-both (more p) _ (or-first (own p) (same p path) (owned p s h))
      (and-both (more path) _ (or-last (own path) (same path path) (same-refl path)) (ap not (same-not p path e)))

  -- the path did
  pub again-here : (p : List ℕ) (s : Option (List ℕ)) → Kept own (Some p) s → same p path ≡ true → Kept more (Some p) s
  again-here p None h e q =
      let is = same-eq p path e in
      and-both (more p) _ (or-first (own p) (same p path) (owned p None h))
      (ap (λ x. same q p || not (own q || same q x)) (sym is) ∙ or-kept (same q p) (own q) (and-parts (own p) _ (h q)).1)
  again-here p (Some r) h e q =
      let two = and-parts (own r) _ (and-parts (own p) _ (h q)).1 in
      and-both (more p) _ (or-first (own p) (same p path) (owned p (Some r) h)) (and-both (more r) _ (or-first (own r) (same r path) two.0) two.1)

  -- what a search finds
  pub first-other : (f s : Option (List ℕ)) (p r : List ℕ) → Kept own f s → f ≡ Some p → r ≡ p → same r path ≡ false → (own r && not (same r path)) ≡ true
  first-other f s p r h is at e = and-both (own r) _ (ap own at ∙ owned p s (λ q. ap (λ x. is_kept own x s q) (sym is) ∙ h q)) (ap not e)

  by-path : (f s : Option (List ℕ)) (p r : List ℕ) → Kept own f s → f ≡ Some p → r ≡ p → same r path ≡ true → Kept own (Some path) s
  by-path f s p r h is at e q = ap (λ x. is_kept own x s q) (ap Some (sym (same-eq r path e) ∙ at) ∙ sym is) ∙ h q

  pub second-other : (f s : Option (List ℕ)) (p r b x : List ℕ) → Kept own f s → f ≡ Some p → r ≡ p → same r path ≡ true → s ≡ Some b → x ≡ b → (own x && not (same x path)) ≡ true
  second-other f s p r b x h is at e two bat =
      let k : is_kept own (Some path) (Some x) x ≡ true = ap (λ y. is_kept own (Some path) y x) (ap Some bat ∙ sym two) ∙ by-path f s p r h is at e x in
      (and-parts (own path) _ k).1

  pub no-second : (f s : Option (List ℕ)) (p r : List ℕ) → Kept own f s → f ≡ Some p → r ≡ p → same r path ≡ true → s ≡ None → IsOther own path None
  no-second f s p r h is at e two q =
      let k : is_kept own (Some path) None q ≡ true = ap (λ y. is_kept own (Some path) y q) (sym two) ∙ by-path f s p r h is at e q in
      and-never (own q) (same q path) (and-parts (own path) _ k).1

  pub no-first : (f s : Option (List ℕ)) → Kept own f s → f ≡ None → IsOther own path None
  no-first f s h is q =
      let k : is_kept own None s q ≡ true = ap (λ x. is_kept own x s q) (sym is) ∙ h q in
      and-none (own q) _ (not-true (own q) (and-parts (not (own q)) _ k).0)

or-and-true : (a b c : Bool) → c ≡ true → (a || (b && c)) ≡ (a || b)
or-and-true true b c h = refl
or-and-true false true c h = h
or-and-true false false c h = refl

pub or-and-false : (a b c : Bool) → c ≡ false → (a || (b && c)) ≡ a
or-and-false true b c h = refl
or-and-false false true c h = h
or-and-false false false c h = refl

module _ (owns : List ℕ → List ℕ → Bool) (name path : List ℕ) where
  here : with_owner owns name path name ≡ (λ q. owns name q || same q path)
  here = λ i q. or-and-true (owns name q) (same q path) (same name name) (same-refl name) i

  aside : (n : List ℕ) → same_path name n ≡ false → with_owner owns name path n ≡ owns n
  aside n e =
      let apart = false_from_ne_true (same name n) (λ h. let is = same-eq name n h in let yes : same_path name n ≡ true = ap (same_path name) (sym is) ∙ same_path-refl name in cc) in
      λ i q. or-and-false (owns n q) (same q path) (same name n) apart i

  -- Where the name is told from the others, what is kept at each of these stays.
  module _ (f s g t : List ℕ → Option (List ℕ)) (old : (n q : List ℕ) → is_kept (owns n) (f n) (s n) q ≡ true)
      (others : (n : List ℕ) → same_path name n ≡ false → (g n ≡ f n) × (t n ≡ s n))
      (at : (q : List ℕ) → is_kept (λ r. owns name r || same r path) (g name) (t name) q ≡ true) where
    pub added : (n q : List ℕ) → is_kept (with_owner owns name path n) (g n) (t n) q ≡ true
    added n q = by (same_path name n) refl
      where
        by : (b : Bool) → same_path name n ≡ b → is_kept (with_owner owns name path n) (g n) (t n) q ≡ true
        by true e = ap (λ m. is_kept (with_owner owns name path m) (g m) (t m) q) (sym (same_path-eq name n e)) ∙ ap (λ o. is_kept o (g name) (t name) q) here ∙ at q
        by false e =
            let apart = others n e in
            ap (λ o. is_kept o (g n) (t n) q) (aside n e) ∙ ap (λ x. is_kept (owns n) x (t n) q) apart.0 ∙ ap (λ x. is_kept (owns n) (f n) x q) apart.1 ∙ old n q
