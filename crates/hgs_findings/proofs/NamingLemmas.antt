-- Where nothing is wrong with a list of revisions, each changeset names a revision that stands, or the next one.
use Rattle.std.proofs.Common.{◌≡◌, ◌⊎◌, ℕ, zero, suc, ◌+◌, ◌<◌, ◌≤◌, List, [], ◌∷◌, ◌++◌, Bool, true, false, cond, ◌&&◌, ◌||◌, not, length, refl, sym, ◌∙◌, ap, subst, inl, inr, arith}
use Rattle.std.specs.Prelude.{Option, Some, None, is_none, slice_get, ◌==◌, nat_lt, max}
use Rattle.std.specs.List.{list_all}
use Rattle.std.proofs.lemmas.Bool.Decides.{nat_tests}
use Rattle.hgs_index.specs.Revision.{Parents, Revision, same_parent, same_parents}
use Rattle.hgs_model.specs.History.{text_at}
use Rattle.hgs_findings.specs.Built.{above, IsOld, IsNew}
use Rattle.hgs_findings.specs.Namings.{Rule, keeps, makes, untold, Naming, names, first_use, any_below, is_after, is_misplaced_at, with_given, given, in_order, has_other_parents, keeps_other, is_in_place_of_kept, FollowsRules}
use Rattle.hgs_findings.proofs.Basics.{there, bool, never, some-same, none-some, and-left, and-right}

pub eq-test : (a b : ℕ) → (a == b) ≡ true → a ≡ b
eq-test a b e = grind (arith, nat_tests)

pub eq-itself : (a : ℕ) → (a == a) ≡ true
eq-itself a = grind (arith, nat_tests)

pub or-none : (a b : Bool) → (a || b) ≡ false → (a ≡ false) × (b ≡ false)
or-none true b e = never e
or-none false b e = (refl, e)

pub not-none : (a : Bool) → not a ≡ false → a ≡ true
not-none true e = refl
not-none false e = never e

pub above-push : (front : List (Option Naming)) (n : Naming) → above (front ++ Some n ∷ []) ≡ max (above front) (suc n.rev)
above-push [] n = omega arith
above-push (None ∷ front) n = above-push front n
above-push (Some m ∷ front) n = omega (arith, above-push front n)

pub above-none : (front : List (Option Naming)) → above (front ++ None ∷ []) ≡ above front
above-none [] = refl
above-none (None ∷ front) = above-none front
above-none (Some m ∷ front) = ap (max (suc m.rev)) (above-none front)

-- ---- first uses

use-from : (at : ℕ) (namings : List (Option Naming)) (rev c : ℕ) → first_use at namings rev ≡ Some c → at ≤ c
use-from at [] rev c e = none-some c e
use-from at (n ∷ namings) rev c e = by (names rev n) (use-from (suc at) namings rev c) e
  where
    by : (b : Bool) → (first_use (suc at) namings rev ≡ Some c → suc at ≤ c) → cond b (Some at) (first_use (suc at) namings rev) ≡ Some c → at ≤ c
    by true rec h = omega (arith, some-same 0 at c h)
    by false rec h = omega (arith, rec h)

-- what is first used among the first changesets is below what these name at most
early : (at : ℕ) (front rest : List (Option Naming)) (rev c : ℕ) → first_use at (front ++ rest) rev ≡ Some c → c < at + length front → rev < above front
early at [] rest rev c e lt = absurd (omega (arith, use-from at rest rev c e, lt))
early at (None ∷ front) rest rev c e lt = early (suc at) front rest rev c e (omega (arith, lt))
early at (Some n ∷ front) rest rev c e lt = by (n.rev == rev) refl (λ h. early (suc at) front rest rev c h (omega (arith, lt))) e
  where
    by : (b : Bool) → (n.rev == rev) ≡ b → (first_use (suc at) (front ++ rest) rev ≡ Some c → rev < above front) → cond b (Some at) (first_use (suc at) (front ++ rest) rev) ≡ Some c → rev < max (suc n.rev) (above front)
    by true t rec h = omega (arith, eq-test n.rev rev t)
    by false t rec h = omega (arith, rec h)

-- what they name at most is first used among them
record Attained (at : ℕ) (front rest : List (Option Naming)) (rev : ℕ) : Type 0 where
  most : ℕ
  use_at : ℕ
  least : rev ≤ most
  used : first_use at (front ++ rest) most ≡ Some use_at
  soon : use_at < at + length front

attained : (at : ℕ) (front rest : List (Option Naming)) (rev : ℕ) → rev < above front → Attained at front rest rev
attained at [] rest rev lt = absurd (omega (arith, lt))
attained at (None ∷ front) rest rev lt =
    let a = attained (suc at) front rest rev lt in
    record { most = a.most; use_at = a.use_at; least = a.least; used = a.used; soon = omega (arith, a.soon) }
attained at (Some n ∷ front) rest rev lt = by (bool (nat_lt (above front) (suc n.rev))) (attained (suc at) front rest rev)
  where
    later : Attained (suc at) front rest rev → Attained at (Some n ∷ front) rest rev
    later a = here (n.rev == a.most) refl
      where
        here : (b : Bool) → (n.rev == a.most) ≡ b → Attained at (Some n ∷ front) rest rev
        here true t = record { most = a.most; use_at = at; least = a.least; used = ap (λ b. cond b (Some at) (first_use (suc at) (front ++ rest) a.most)) t; soon = omega arith }
        here false t = record { most = a.most; use_at = a.use_at; least = a.least; used = ap (λ b. cond b (Some at) (first_use (suc at) (front ++ rest) a.most)) t ∙ a.used; soon = omega (arith, a.soon) }

    by : (nat_lt (above front) (suc n.rev) ≡ true) ⊎ (nat_lt (above front) (suc n.rev) ≡ false) → (rev < above front → Attained (suc at) front rest rev) → Attained at (Some n ∷ front) rest rev
    by (inl t) rec = record { most = n.rev; use_at = at; least = (let g : above front < suc n.rev = grind (arith, nat_tests) in omega (arith, lt, g)); used = ap (λ b. cond b (Some at) (first_use (suc at) (front ++ rest) n.rev)) (eq-itself n.rev); soon = omega arith }
    by (inr t) rec = later (rec (let g : suc n.rev ≤ above front = grind (arith, nat_tests) in omega (arith, lt, g)))

-- a changeset that names a revision is its first use, or that comes earlier
pub used-by : (at : ℕ) (front rest : List (Option Naming)) (n : Naming) → (c : ℕ) × (first_use at (front ++ Some n ∷ rest) n.rev ≡ Some c) × (c ≤ at + length front)
used-by at [] rest n = (at, ap (λ b. cond b (Some at) (first_use (suc at) rest n.rev)) (eq-itself n.rev), omega arith)
used-by at (None ∷ front) rest n = let u = used-by (suc at) front rest n in (u.0, u.1, omega (arith, u.2))
used-by at (Some m ∷ front) rest n = by (m.rev == n.rev) (used-by (suc at) front rest n)
  where
    by : (b : Bool) → (c : ℕ) × (first_use (suc at) (front ++ Some n ∷ rest) n.rev ≡ Some c) × (c ≤ suc at + length front) → (c : ℕ) × (cond b (Some at) (first_use (suc at) (front ++ Some n ∷ rest) n.rev) ≡ Some c) × (c ≤ at + suc (length front))
    by true u = (at, refl, omega arith)
    by false u = (u.0, u.1, omega (arith, u.2))

-- the changeset of a first use names the revision
use-names : (at : ℕ) (front rest : List (Option Naming)) (n : Naming) (rev : ℕ) → first_use at (front ++ Some n ∷ rest) rev ≡ Some (at + length front) → n.rev ≡ rev
use-names at [] rest n rev e = by (n.rev == rev) refl e
  where
    by : (b : Bool) → (n.rev == rev) ≡ b → cond b (Some at) (first_use (suc at) rest rev) ≡ Some (at + 0) → n.rev ≡ rev
    by true t h = eq-test n.rev rev t
    by false t h = absurd (omega (arith, use-from (suc at) rest rev (at + 0) h))
use-names at (None ∷ front) rest n rev e = use-names (suc at) front rest n rev (e ∙ ap Some (omega arith))
use-names at (Some m ∷ front) rest n rev e = by (m.rev == rev) (use-names (suc at) front rest n rev) e
  where
    by : (b : Bool) → (first_use (suc at) (front ++ Some n ∷ rest) rev ≡ Some (suc at + length front) → n.rev ≡ rev) → cond b (Some at) (first_use (suc at) (front ++ Some n ∷ rest) rev) ≡ Some (at + suc (length front)) → n.rev ≡ rev
    by true rec h = absurd (omega (arith, some-same 0 at (at + suc (length front)) h))
    by false rec h = rec (h ∙ ap Some (omega arith))

-- ---- the tests

any-none : (f : ℕ → Bool) (n k : ℕ) → any_below f n ≡ false → k < n → f k ≡ false
any-none f zero k e lt = absurd (omega (arith, lt))
any-none f (suc n) k e lt = by (bool (k == n)) (or-none (f n) (any_below f n) e) (any-none f n k)
  where
    by : ((k == n) ≡ true) ⊎ ((k == n) ≡ false) → (f n ≡ false) × (any_below f n ≡ false) → (any_below f n ≡ false → k < n → f k ≡ false) → f k ≡ false
    by (inl t) h rec = ap f (eq-test k n t) ∙ h.0
    by (inr t) h rec = rec h.1 (grind (arith, nat_tests))

same-parent-is : (a b : Option ℕ) → same_parent a b ≡ true → a ≡ b
same-parent-is None None e = refl
same-parent-is None (Some b) e = never (sym e)
same-parent-is (Some a) None e = never (sym e)
same-parent-is (Some a) (Some b) e = ap Some (eq-test a b e)

pub in-order-is : (p q : Parents) → in_order p q ≡ true → p ≡ q
in-order-is p q e =
    let a = same-parent-is p.0 q.0 (and-left (same_parent p.0 q.0) (same_parent p.1 q.1) e) in
    let b = same-parent-is p.1 q.1 (and-right (same_parent p.0 q.0) (same_parent p.1 q.1) e) in
    λ i. (a i, b i)

in-order-same : (p q : Parents) → in_order p q ≡ true → same_parents p q ≡ true
in-order-same p q e = ap (λ b. b || (same_parent p.0 q.1 && same_parent p.1 q.0)) e

-- the facts of a list that follows the rules
module _ (log : List Revision) (namings : List (Option Naming)) (f : FollowsRules log namings) where
  is-used : (rev : ℕ) (r : Revision) → slice_get log rev ≡ Some r → (c : ℕ) × (first_use 0 namings rev ≡ Some c)
  is-used rev r e = by (first_use 0 namings rev) refl (f.needed rev r e)
    where
      by : (o : Option ℕ) → first_use 0 namings rev ≡ o → is_none o ≡ false → (c : ℕ) × (first_use 0 namings rev ≡ Some c)
      by None u h = never h
      by (Some c) u h = (c, u)

  -- its link is its first use, and no earlier one is first used later
  record IsPlaced (rev : ℕ) (r : Revision) (c : ℕ) : Type 0 where
    link : r.link ≡ c
    behind : (earlier d : ℕ) → earlier < rev → first_use 0 namings earlier ≡ Some d → d ≤ c

  is-placed : (rev : ℕ) (r : Revision) (c : ℕ) → slice_get log rev ≡ Some r → first_use 0 namings rev ≡ Some c → IsPlaced rev r c
  is-placed rev r c e u =
      let h = or-none (not (r.link == c)) (any_below (λ earlier. is_after c (first_use 0 namings earlier)) rev) (ap (is_misplaced_at namings rev r.link) (sym u) ∙ f.placed rev r e) in
      record {
        link = eq-test r.link c (not-none (r.link == c) h.0);
        behind = λ earlier d lt v. at_most c d (ap (is_after c) (sym v) ∙ any-none (λ k. is_after c (first_use 0 namings k)) rev earlier h.1 lt);
      }
    where
      at_most : (c d : ℕ) → nat_lt c d ≡ false → d ≤ c
      at_most c d t = grind (arith, nat_tests)

  order : (rev other c d : ℕ) (r : Revision) → slice_get log rev ≡ Some r → other ≤ rev → first_use 0 namings rev ≡ Some c → first_use 0 namings other ≡ Some d → d ≤ c
  order rev other c d r e le u v = by (bool (other == rev))
    where
      by : ((other == rev) ≡ true) ⊎ ((other == rev) ≡ false) → d ≤ c
      by (inl t) = omega (arith, some-same 0 c d (sym u ∙ ap (first_use 0 namings) (sym (eq-test other rev t)) ∙ v))
      by (inr t) = (is-placed rev r c e u).behind other d (grind (arith, nat_tests)) v

  -- what the first changesets name at most, and all below it, is first used by them
  below-used : (front rest : List (Option Naming)) → namings ≡ front ++ rest → ((rev : ℕ) → rev < above namings → rev < length log) → (rev c : ℕ) → rev < above front → first_use 0 namings rev ≡ Some c → c < length front
  below-used front rest is inside rev c lt u =
      let a = attained 0 front rest rev lt in
      let used : first_use 0 namings a.most ≡ Some a.use_at = ap (λ l. first_use 0 l a.most) is ∙ a.used in
      let most : a.most < above front = early 0 front rest a.most a.use_at a.used a.soon in
      let at = there log a.most (inside a.most (subst (λ l. a.most < above l) (sym is) (above-more front rest a.most most))) in
      omega (arith, a.soon, order a.most rev a.use_at c at.0 at.1 a.least used u)
    where
      above-more : (front rest : List (Option Naming)) (rev : ℕ) → rev < above front → rev < above (front ++ rest)
      above-more [] rest rev lt = absurd (omega (arith, lt))
      above-more (None ∷ front) rest rev lt = above-more front rest rev lt
      above-more (Some n ∷ front) rest rev lt = by (bool (nat_lt rev (above front))) (above-more front rest rev)
        where
          by : (nat_lt rev (above front) ≡ true) ⊎ (nat_lt rev (above front) ≡ false) → (rev < above front → rev < above (front ++ rest)) → rev < max (suc n.rev) (above (front ++ rest))
          by (inl t) rec = (let l : rev < above (front ++ rest) = rec (grind (arith, nat_tests)) in omega (arith, l))
          by (inr t) rec = (let l : above front ≤ rev = grind (arith, nat_tests) in omega (arith, l, lt))

-- ---- what a changeset does to the list

given-front : (front rest : List (Option Naming)) (rev : ℕ) → above front ≤ rev → given (front ++ rest) rev ≡ given rest rev
given-front [] rest rev le = refl
given-front (None ∷ front) rest rev le = given-front front rest rev le
given-front (Some n ∷ front) rest rev le = by (n.rev == rev) refl (given-front front rest rev (omega (arith, le)))
  where
    by : (b : Bool) → (n.rev == rev) ≡ b → given (front ++ rest) rev ≡ given rest rev → with_given b n.rule (given (front ++ rest) rev) ≡ given rest rev
    by true t rec = absurd (omega (arith, eq-test n.rev rev t, le))
    by false t rec = rec

-- parents that the rules give at one of the changesets
has-given : (ps qs : List Parents) (p has : Parents) → has_other_parents (ps ++ p ∷ qs) has ≡ false → same_parents p has ≡ true
has-given [] qs p has e = in-order-same p has (not-none (in_order p has) (or-none (not (in_order p has)) (not (list_all (λ q. same_parents q has) qs)) e).0)
has-given (first ∷ ps) qs p has e = within ps (not-none (list_all (λ q. same_parents q has) (ps ++ p ∷ qs)) (or-none (not (in_order first has)) (not (list_all (λ q. same_parents q has) (ps ++ p ∷ qs))) e).1)
  where
    within : (xs : List Parents) → list_all (λ q. same_parents q has) (xs ++ p ∷ qs) ≡ true → same_parents p has ≡ true
    within [] h = and-left (same_parents p has) (list_all (λ q. same_parents q has) qs) h
    within (x ∷ xs) h = within xs (and-right (same_parents x has) (list_all (λ q. same_parents q has) (xs ++ p ∷ qs)) h)

given-at : (front rest : List (Option Naming)) (n : Naming) (p : Parents) → n.rule ≡ makes p → (ps : List Parents) × (given (front ++ Some n ∷ rest) n.rev ≡ ps ++ p ∷ given rest n.rev)
given-at [] rest n p e = ([], ap (λ b. with_given b n.rule (given rest n.rev)) (eq-itself n.rev) ∙ ap (λ r. with_given true r (given rest n.rev)) e)
given-at (None ∷ front) rest n p e = given-at front rest n p e
given-at (Some m ∷ front) rest n p e = by (m.rev == n.rev) m.rule (given-at front rest n p e)
  where
    by : (b : Bool) (rule : Rule) → (ps : List Parents) × (given (front ++ Some n ∷ rest) n.rev ≡ ps ++ p ∷ given rest n.rev) → (ps : List Parents) × (with_given b rule (given (front ++ Some n ∷ rest) n.rev) ≡ ps ++ p ∷ given rest n.rev)
    by false rule g = g
    by true (keeps kept) g = g
    by true (makes q) g = (q ∷ g.0, ap (λ l. q ∷ l) g.1)
    by true untold g = g

kept-at : (front rest : List (Option Naming)) (n : Naming) (kept : ℕ) → n.rule ≡ keeps kept → is_in_place_of_kept (front ++ Some n ∷ rest) n.rev ≡ false → kept ≡ n.rev
kept-at [] rest n kept e h =
    let o = or-none ((n.rev == n.rev) && keeps_other n.rev n.rule) (is_in_place_of_kept rest n.rev) h in
    eq-test kept n.rev (not-none (kept == n.rev) (ap (keeps_other n.rev) (sym e) ∙ ap (λ b. b && keeps_other n.rev n.rule) (sym (eq-itself n.rev)) ∙ o.0))
kept-at (None ∷ front) rest n kept e h = kept-at front rest n kept e h
kept-at (Some m ∷ front) rest n kept e h = kept-at front rest n kept e (or-none ((m.rev == n.rev) && keeps_other n.rev m.rule) (is_in_place_of_kept (front ++ Some n ∷ rest) n.rev) h).1

pub made-step : (log : List Revision) (namings : List (Option Naming)) → FollowsRules log namings → ((rev : ℕ) → rev < above namings → rev < length log) → (front rest : List (Option Naming)) (n : Naming) (p : Parents)
    → namings ≡ front ++ Some n ∷ rest → n.rule ≡ makes p → IsOld log front n p ⊎ IsNew log front n p
made-step log namings f inside front rest n p is rule = by (bool (nat_lt n.rev (above front)))
  where
    within : (xs : List (Option Naming)) → n.rev < above (xs ++ Some n ∷ rest)
    within [] = omega arith
    within (None ∷ xs) = within xs
    within (Some m ∷ xs) = (let w : n.rev < above (xs ++ Some n ∷ rest) = within xs in omega (arith, w))

    at : (r : Revision) × (slice_get log n.rev ≡ Some r) × (r.text ≡ text_at log n.rev)
    at = there log n.rev (inside n.rev (subst (λ l. n.rev < above l) (sym is) (within front)))

    others : has_other_parents (given namings n.rev) at.0.parents ≡ false
    others = (or-none (has_other_parents (given namings n.rev) at.0.parents) (is_in_place_of_kept namings n.rev) (f.made n.rev at.0 at.1)).0

    first_at : (c : ℕ) × (first_use 0 namings n.rev ≡ Some c) × (c ≤ length front)
    first_at = let u = used-by 0 front rest n in (u.0, ap (λ l. first_use 0 l n.rev) is ∙ u.1, omega (arith, u.2))

    by : (nat_lt n.rev (above front) ≡ true) ⊎ (nat_lt n.rev (above front) ≡ false) → IsOld log front n p ⊎ IsNew log front n p
    by (inl t) =
        let g = given-at front rest n p rule in
        inl (record {
          r = at.0;
          there = at.1;
          below = grind (arith, nat_tests);
          parents = has-given g.0 (given rest n.rev) p at.0.parents (ap (λ l. has_other_parents l at.0.parents) (sym (ap (λ l. given l n.rev) is ∙ g.1)) ∙ others);
        })
    by (inr t) =
        let least : above front ≤ n.rev = grind (arith, nat_tests) in
        let first : first_at.0 ≡ length front = ends (bool (nat_lt first_at.0 (length front))) least in
        let exact : given namings n.rev ≡ p ∷ given rest n.rev = ap (λ l. given l n.rev) is ∙ given-front front (Some n ∷ rest) n.rev least ∙ ap (λ b. with_given b n.rule (given rest n.rev)) (eq-itself n.rev) ∙ ap (λ r. with_given true r (given rest n.rev)) rule in
        inr (record {
          r = at.0;
          there = at.1;
          is = next least first (bool (nat_lt (above front) n.rev));
          parents = sym (in-order-is p at.0.parents (not-none (in_order p at.0.parents) (or-none (not (in_order p at.0.parents)) _ (ap (λ l. has_other_parents l at.0.parents) (sym exact) ∙ others)).0));
          link = (is-placed log namings f n.rev at.0 first_at.0 at.1 first_at.1).link ∙ first;
        })
      where
        ends : (nat_lt first_at.0 (length front) ≡ true) ⊎ (nat_lt first_at.0 (length front) ≡ false) → above front ≤ n.rev → first_at.0 ≡ length front
        ends (inl u) least = absurd (omega (arith, least, early 0 front (Some n ∷ rest) n.rev first_at.0 (ap (λ l. first_use 0 l n.rev) (sym is) ∙ first_at.1) (grind (arith, nat_tests))))
        ends (inr u) least = (let l : length front ≤ first_at.0 = grind (arith, nat_tests) in omega (arith, l, first_at.2))

        -- a lesser revision that no changeset before names would be first used here too
        next : above front ≤ n.rev → first_at.0 ≡ length front → (nat_lt (above front) n.rev ≡ true) ⊎ (nat_lt (above front) n.rev ≡ false) → n.rev ≡ above front
        next least first (inr u) = (let l : n.rev ≤ above front = grind (arith, nat_tests) in omega (arith, l, least))
        next least first (inl u) =
            let lt : above front < n.rev = grind (arith, nat_tests) in
            let mid = there log (above front) (inside (above front) (omega (arith, lt, subst (λ l. n.rev < above l) (sym is) (within front)))) in
            let used = is-used log namings f (above front) mid.0 mid.1 in
            let soon : used.0 ≤ first_at.0 = order log namings f n.rev (above front) first_at.0 used.0 at.0 at.1 (omega (arith, lt)) first_at.1 used.1 in
            let there_used : first_use 0 (front ++ Some n ∷ rest) (above front) ≡ Some used.0 = ap (λ l. first_use 0 l (above front)) (sym is) ∙ used.1 in
            which used.0 soon there_used (bool (nat_lt used.0 (length front)))
          where
            which : (d : ℕ) → d ≤ first_at.0 → first_use 0 (front ++ Some n ∷ rest) (above front) ≡ Some d → (nat_lt d (length front) ≡ true) ⊎ (nat_lt d (length front) ≡ false) → n.rev ≡ above front
            which d le e (inl v) = absurd (let l : d < length front = grind (arith, nat_tests) in omega (arith, early 0 front (Some n ∷ rest) (above front) d e (omega (arith, l))))
            which d le e (inr v) = (let l : length front ≤ d = grind (arith, nat_tests) in use-names 0 front rest n (above front) (e ∙ ap Some (omega (arith, l, le, first))))

-- where the rules keep a revision, the changeset names it
pub kept-step : (log : List Revision) (namings : List (Option Naming)) → FollowsRules log namings → (front rest : List (Option Naming)) (n : Naming) (kept : ℕ) (r : Revision) → slice_get log n.rev ≡ Some r
    → namings ≡ front ++ Some n ∷ rest → n.rule ≡ keeps kept → kept ≡ n.rev
kept-step log namings f front rest n kept r at is rule =
    kept-at front rest n kept rule (ap (λ l. is_in_place_of_kept l n.rev) (sym is) ∙ (or-none (has_other_parents (given namings n.rev) r.parents) (is_in_place_of_kept namings n.rev) (f.made n.rev r at)).1)

-- all changesets together name each revision
pub all-named : (log : List Revision) (namings : List (Option Naming)) → FollowsRules log namings → ((rev : ℕ) → rev < above namings → rev < length log) → above namings ≡ length log
all-named log namings f inside = by (bool (nat_lt (above namings) (length log))) (bool (nat_lt (length log) (above namings)))
  where
    used-below : (at : ℕ) (xs : List (Option Naming)) (rev c : ℕ) → first_use at xs rev ≡ Some c → rev < above xs
    used-below at [] rev c e = none-some c e
    used-below at (None ∷ xs) rev c e = used-below (suc at) xs rev c e
    used-below at (Some n ∷ xs) rev c e = step_on (n.rev == rev) refl (used-below (suc at) xs rev c) e
      where
        step_on : (b : Bool) → (n.rev == rev) ≡ b → (first_use (suc at) xs rev ≡ Some c → rev < above xs) → cond b (Some at) (first_use (suc at) xs rev) ≡ Some c → rev < max (suc n.rev) (above xs)
        step_on true t rec h = omega (arith, eq-test n.rev rev t)
        step_on false t rec h = (let l : rev < above xs = rec h in omega (arith, l))

    by : (nat_lt (above namings) (length log) ≡ true) ⊎ (nat_lt (above namings) (length log) ≡ false) → (nat_lt (length log) (above namings) ≡ true) ⊎ (nat_lt (length log) (above namings) ≡ false) → above namings ≡ length log
    by (inl t) u =
        let r = there log (above namings) (grind (arith, nat_tests)) in
        let used = is-used log namings f (above namings) r.0 r.1 in
        absurd (omega (arith, used-below 0 namings (above namings) used.0 used.1))
    by (inr t) (inl u) = absurd (let l : length log < above namings = grind (arith, nat_tests) in omega (arith, inside (length log) l))
    by (inr t) (inr u) = (let l : length log ≤ above namings = grind (arith, nat_tests) in let m : above namings ≤ length log = grind (arith, nat_tests) in omega (arith, l, m))
