-- A list of revisions that was built changeset by changeset follows the rules.
use Rattle.std.proofs.Common.{◌≡◌, ◌⊎◌, ℕ, zero, suc, ◌<◌, ◌≤◌, List, [], ◌∷◌, ◌++◌, Bool, true, false, cond, ◌&&◌, ◌||◌, not, length, refl, sym, ◌∙◌, ap, inl, inr, arith, length-append, append_assoc, append-nil}
use Rattle.std.specs.Prelude.{Option, Some, None, is_none, slice_get, ◌==◌, nat_lt, max}
use Rattle.std.specs.List.{list_all}
use Rattle.std.proofs.lemmas.Bool.Decides.{nat_tests}
use Rattle.std.proofs.lemmas.Option.{slice_get_within}
use Rattle.hgs_index.specs.Revision.{Parents, Revision, same_parent, same_parents}
use Rattle.hgs_findings.specs.Built.{above, IsGood, IsBuilt, IsToldBy, AreToldFrom, AreTold}
use Rattle.hgs_findings.specs.Namings.{Rule, keeps, makes, untold, Naming, first_use, any_below, is_after, is_misplaced, is_misplaced_at, with_given, given, in_order, has_other_parents, keeps_other, is_in_place_of_kept, FollowsRules}
use Rattle.hgs_findings.proofs.Basics.{bool, some-same, there}
use Rattle.hgs_findings.proofs.NamingLemmas.{eq-test, eq-itself, above-push, above-none, made-step, kept-step, all-named}

-- ---- revisions that stand already

-- what later changesets say of a revision that stands
record IsLater (rest : List (Option Naming)) (rev : ℕ) (has : Parents) : Type 0 where
  parents : list_all (λ p. same_parents p has) (given rest rev) ≡ true
  kept : is_in_place_of_kept rest rev ≡ false

parent-itself : (a : Option ℕ) → same_parent a a ≡ true
parent-itself None = refl
parent-itself (Some a) = eq-itself a

order-itself : (p : Parents) → in_order p p ≡ true
order-itself p = ap (λ b. b && same_parent p.1 p.1) (parent-itself p.0) ∙ parent-itself p.1

same-itself : (p q : Parents) → q ≡ p → same_parents p q ≡ true
same-itself p q e = ap (same_parents p) e ∙ ap (λ b. b || (same_parent p.0 p.1 && same_parent p.1 p.0)) (order-itself p)

one-of : {A : Type 0} (d x y : A) → Some x ≡ Some y → x ≡ y
one-of d x y e = some-same d x y e

-- the parents that a good naming gives are those of its revision, in some order
good-parents : (log : List Revision) (front : List (Option Naming)) (n : Naming) (r : Revision) → slice_get log n.rev ≡ Some r → (rule : Rule) → IsGood log front n rule → (more : List Parents) → list_all (λ p. same_parents p r.parents) more ≡ true
    → list_all (λ p. same_parents p r.parents) (with_given true rule more) ≡ true
good-parents log front n r at (keeps kept) g more e = e
good-parents log front n r at untold g more e = absurd g
good-parents log front n r at (makes p) (inl old) more e =
    let same_one : old.r ≡ r = one-of r old.r r (sym old.there ∙ at) in
    ap (λ b. b && list_all (λ q. same_parents q r.parents) more) (ap (λ (x : Revision). same_parents p x.parents) (sym same_one) ∙ old.parents) ∙ e
good-parents log front n r at (makes p) (inr new) more e =
    let same_one : new.r ≡ r = one-of r new.r r (sym new.there ∙ at) in
    ap (λ b. b && list_all (λ q. same_parents q r.parents) more) (same-itself p r.parents (ap (λ (x : Revision). x.parents) (sym same_one) ∙ new.parents)) ∙ e

good-kept : (log : List Revision) (front : List (Option Naming)) (n : Naming) (rule : Rule) → IsGood log front n rule → keeps_other n.rev rule ≡ false
good-kept log front n (keeps kept) g = ap (λ k. not (k == n.rev)) g.0 ∙ ap not (eq-itself n.rev)
good-kept log front n (makes p) g = refl
good-kept log front n untold g = absurd g

later : (log : List Revision) (front rest : List (Option Naming)) → IsBuilt log front rest → (rev : ℕ) (r : Revision) → slice_get log rev ≡ Some r → IsLater rest rev r.parents
later log front [] built rev r at = record { parents = refl; kept = refl }
later log front (None ∷ rest) built rev r at = let l = later log (front ++ None ∷ []) rest built rev r at in record { parents = l.parents; kept = l.kept }
later log front (Some n ∷ rest) built rev r at = by (n.rev == rev) refl (later log (front ++ Some n ∷ []) rest built.1 rev r at)
  where
    by : (b : Bool) → (n.rev == rev) ≡ b → IsLater rest rev r.parents → IsLater (Some n ∷ rest) rev r.parents
    by false t l = record {
      parents = ap (λ b. list_all (λ p. same_parents p r.parents) (with_given b n.rule (given rest rev))) t ∙ l.parents;
      kept = ap (λ b. (b && keeps_other rev n.rule) || is_in_place_of_kept rest rev) t ∙ l.kept;
    }
    by true t l =
        let is : n.rev ≡ rev = eq-test n.rev rev t in
        record {
          parents = ap (λ b. list_all (λ p. same_parents p r.parents) (with_given b n.rule (given rest rev))) t ∙ good-parents log front n r (ap (slice_get log) is ∙ at) n.rule built.0 (given rest rev) l.parents;
          kept = ap (λ b. (b && keeps_other rev n.rule) || is_in_place_of_kept rest rev) t ∙ ap (λ k. keeps_other k n.rule || is_in_place_of_kept rest rev) (sym is) ∙ ap (λ b. b || is_in_place_of_kept rest rev) (good-kept log front n n.rule built.0) ∙ l.kept;
        }

-- ---- revisions that come

record IsComing (start : ℕ) (front rest : List (Option Naming)) (rev : ℕ) (r : Revision) : Type 0 where
  use_at : ℕ
  used : first_use start rest rev ≡ Some use_at
  since : start ≤ use_at
  link : r.link ≡ use_at
  parents : has_other_parents (given rest rev) r.parents ≡ false
  kept : is_in_place_of_kept rest rev ≡ false
  behind : (earlier d : ℕ) → earlier < rev → above front ≤ earlier → first_use start rest earlier ≡ Some d → d ≤ use_at

coming : (log : List Revision) (start : ℕ) (front rest : List (Option Naming)) → start ≡ length front → IsBuilt log front rest → (rev : ℕ) (r : Revision) → above front ≤ rev → slice_get log rev ≡ Some r → IsComing start front rest rev r
coming log start front [] len built rev r le at = absurd (omega (arith, le, built, slice_get_within log rev r at))
coming log start front (None ∷ rest) len built rev r le at =
    let same_above : above (front ++ None ∷ []) ≡ above front = above-none front in
    let c = coming log (suc start) (front ++ None ∷ []) rest (omega (arith, len, length-append front (None ∷ []))) built rev r (omega (arith, le, same_above)) at in
    record { use_at = c.use_at; used = c.used; since = omega (arith, c.since); link = c.link; parents = c.parents; kept = c.kept; behind = λ earlier d lt low e. c.behind earlier d lt (omega (arith, low, same_above)) e }
coming log start front (Some n ∷ rest) len built rev r le at = by n.rule refl built.0
    (λ low. coming log (suc start) (front ++ Some n ∷ []) rest (omega (arith, len, length-append front (Some n ∷ []))) built.1 rev r (omega (arith, low, above-push front n)) at)
  where
    grown : above (front ++ Some n ∷ []) ≡ max (above front) (suc n.rev)
    grown = above-push front n

    -- another revision is named, or one that stands
    pass : n.rev < rev → IsComing (suc start) (front ++ Some n ∷ []) rest rev r → IsComing start front (Some n ∷ rest) rev r
    pass lt c = record {
      use_at = c.use_at;
      used = ap (λ b. cond b (Some start) (first_use (suc start) rest rev)) other ∙ c.used;
      since = omega (arith, c.since);
      link = c.link;
      parents = ap (λ b. has_other_parents (with_given b n.rule (given rest rev)) r.parents) other ∙ c.parents;
      kept = ap (λ b. (b && keeps_other rev n.rule) || is_in_place_of_kept rest rev) other ∙ c.kept;
      behind = behind;
    }
      where
        other : (n.rev == rev) ≡ false
        other = grind (arith, nat_tests)

        behind : (earlier d : ℕ) → earlier < rev → above front ≤ earlier → first_use start (Some n ∷ rest) earlier ≡ Some d → d ≤ c.use_at
        behind earlier d lt2 low e = step_on (n.rev == earlier) refl e
          where
            step_on : (b : Bool) → (n.rev == earlier) ≡ b → cond b (Some start) (first_use (suc start) rest earlier) ≡ Some d → d ≤ c.use_at
            step_on true t h = omega (arith, c.since, some-same 0 start d h)
            step_on false t h = past (bool (nat_lt earlier n.rev)) h
              where
                past : (nat_lt earlier n.rev ≡ true) ⊎ (nat_lt earlier n.rev ≡ false) → first_use (suc start) rest earlier ≡ Some d → d ≤ c.use_at
                past (inr u) g = c.behind earlier d lt2 (let l : n.rev < earlier = grind (arith, nat_tests) in omega (arith, low, l, grown)) g
                past (inl u) g = absurd (skips n.rule refl built.0)
                  where
                    less : earlier < n.rev
                    less = grind (arith, nat_tests)

                    skips : (rule : Rule) → n.rule ≡ rule → IsGood log front n rule → ⊥
                    skips (keeps kept) e2 g2 = omega (arith, low, less, g2.1)
                    skips (makes p) e2 (inl old) = omega (arith, low, less, old.below)
                    skips (makes p) e2 (inr new) = omega (arith, low, less, new.is)
                    skips untold e2 g2 = g2

    by : (rule : Rule) → n.rule ≡ rule → IsGood log front n rule → (max (above front) (suc n.rev) ≤ rev → IsComing (suc start) (front ++ Some n ∷ []) rest rev r) → IsComing start front (Some n ∷ rest) rev r
    by (keeps kept) e g rec = pass (omega (arith, le, g.1)) (rec (omega (arith, le, g.1)))
    by untold e g rec = absurd g
    by (makes p) e (inl old) rec = pass (omega (arith, le, old.below)) (rec (omega (arith, le, old.below)))
    by (makes p) e (inr new) rec = which (bool (nat_lt n.rev rev))
      where
        here : n.rev ≡ rev → IsComing start front (Some n ∷ rest) rev r
        here is =
            let l = later log (front ++ Some n ∷ []) rest built.1 rev r at in
            let one : new.r ≡ r = one-of r new.r r (sym new.there ∙ ap (slice_get log) is ∙ at) in
            let test : (n.rev == rev) ≡ true = ap (λ k. n.rev == k) (sym is) ∙ eq-itself n.rev in
            let exact : in_order p r.parents ≡ true = ap (in_order p) (ap (λ (x : Revision). x.parents) (sym one) ∙ new.parents) ∙ order-itself p in
            record {
              use_at = start;
              used = ap (λ b. cond b (Some start) (first_use (suc start) rest rev)) test;
              since = omega arith;
              link = ap (λ (x : Revision). x.link) (sym one) ∙ new.link ∙ sym len;
              parents =
                  ap (λ b. has_other_parents (with_given b n.rule (given rest rev)) r.parents) test ∙ ap (λ x. has_other_parents (with_given true x (given rest rev)) r.parents) e
                  ∙ ap (λ b. not b || not (list_all (λ q. same_parents q r.parents) (given rest rev))) exact ∙ ap not l.parents;
              kept =
                  ap (λ b. (b && keeps_other rev n.rule) || is_in_place_of_kept rest rev) test ∙ ap (λ x. keeps_other rev x || is_in_place_of_kept rest rev) e ∙ l.kept;
              behind = λ earlier d lt low h. absurd (omega (arith, lt, low, is, new.is));
            }

        which : (nat_lt n.rev rev ≡ true) ⊎ (nat_lt n.rev rev ≡ false) → IsComing start front (Some n ∷ rest) rev r
        which (inl t) = (let lt : n.rev < rev = grind (arith, nat_tests) in pass lt (rec (omega (arith, le, lt))))
        which (inr t) = (let ge : rev ≤ n.rev = grind (arith, nat_tests) in here (omega (arith, ge, le, new.is)))

-- a list that was built follows the rules
pub built-follows : (log : List Revision) (namings : List (Option Naming)) → IsBuilt log [] namings → FollowsRules log namings
built-follows log namings built = record {
  needed = λ rev r at. (let c = come rev r at in ap is_none c.used);
  placed = placed;
  made = λ rev r at. (let c = come rev r at in ap (λ b. b || is_in_place_of_kept namings rev) c.parents ∙ c.kept);
}
  where
    come : (rev : ℕ) (r : Revision) → slice_get log rev ≡ Some r → IsComing 0 [] namings rev r
    come rev r at = coming log 0 [] namings refl built rev r (omega arith) at

    none-below : (f : ℕ → Bool) (n : ℕ) → ((k : ℕ) → k < n → f k ≡ false) → any_below f n ≡ false
    none-below f zero h = refl
    none-below f (suc n) h = ap (λ b. b || any_below f n) (h n (omega arith)) ∙ none-below f n (λ k lt. h k (omega (arith, lt)))

    placed : (rev : ℕ) (r : Revision) → slice_get log rev ≡ Some r → is_misplaced namings rev r.link ≡ false
    placed rev r at =
        let c = come rev r at in
        ap (is_misplaced_at namings rev r.link) c.used
        ∙ ap (λ b. not b || any_below (λ earlier. is_after c.use_at (first_use 0 namings earlier)) rev) (ap (λ l. l == c.use_at) c.link ∙ eq-itself c.use_at)
        ∙ none-below (λ earlier. is_after c.use_at (first_use 0 namings earlier)) rev (λ k lt. early k lt (first_use 0 namings k) refl)
      where
        early : (k : ℕ) → k < rev → (o : Option ℕ) → first_use 0 namings k ≡ o → is_after (come rev r at).use_at o ≡ false
        early k lt None e = refl
        early k lt (Some d) e = (let b : d ≤ (come rev r at).use_at = (come rev r at).behind k d lt (omega arith) e in at_most (come rev r at).use_at d b)
          where
            at_most : (c d : ℕ) → d ≤ c → nat_lt c d ≡ false
            at_most c d le = grind (arith, nat_tests)

-- ---- the other way

pub follows-built : (log : List Revision) (namings : List (Option Naming)) → FollowsRules log namings → AreTold log namings → IsBuilt log [] namings
follows-built log namings f told = go [] namings refl told
  where
    inside-from : (front rest : List (Option Naming)) → above front ≤ length log → AreToldFrom log front rest → above (front ++ rest) ≤ length log
    inside-from front [] le t = (let e = ap above (append-nil front) in omega (arith, e, le))
    inside-from front (None ∷ rest) le t = (let e = ap above (append_assoc front (None ∷ []) rest) in let r = inside-from (front ++ None ∷ []) rest (omega (arith, le, above-none front)) t in omega (arith, e, r))
    inside-from front (Some n ∷ rest) le t = (let e = ap above (append_assoc front (Some n ∷ []) rest) in let r = inside-from (front ++ Some n ∷ []) rest (omega (arith, le, above-push front n, t.0)) t.2 in omega (arith, e, r))

    inside : (rev : ℕ) → rev < above namings → rev < length log
    inside rev lt = omega (arith, lt, inside-from [] namings (omega arith) told)

    good : (front rest : List (Option Naming)) (n : Naming) → namings ≡ front ++ Some n ∷ rest → n.rev < length log → (rule : Rule) → n.rule ≡ rule → IsToldBy log front n rule → IsGood log front n rule
    good front rest n is lt (keeps kept) e t =
        let r = there log n.rev lt in
        let k : kept ≡ n.rev = kept-step log namings f front rest n kept r.0 r.1 is e in
        (k, omega (arith, k, t))
    good front rest n is lt (makes p) e t = made-step log namings f inside front rest n p is e
    good front rest n is lt untold e t = t

    go : (front rest : List (Option Naming)) → namings ≡ front ++ rest → AreToldFrom log front rest → IsBuilt log front rest
    go front [] is t = ap above (sym (is ∙ append-nil front)) ∙ all-named log namings f inside
    go front (None ∷ rest) is t = go (front ++ None ∷ []) rest (is ∙ sym (append_assoc front (None ∷ []) rest)) t
    go front (Some n ∷ rest) is t = (good front rest n is t.0 n.rule refl t.1, go (front ++ Some n ∷ []) rest (is ∙ sym (append_assoc front (Some n ∷ []) rest)) t.2)
