-- Phase roots that stay: what they give where one more changeset stands behind the others.
use Rattle.std.proofs.Common.{◌≡◌, ◌⊎◌, ℕ, zero, suc, ◌+◌, ◌<◌, List, [], ◌∷◌, ◌++◌, Bool, true, false, cond, ◌&&◌, ◌||◌, not, length, map, refl, sym, ◌∙◌, ap, subst, inl, inr, arith, append_assoc, append-nil, length-append}
use Rattle.std.specs.Prelude.{◌==◌, nat_lt, Option, Some, None, IfSome, slice_get, slice_index_or}
use Rattle.std.specs.List.{list_all, list_any, position_or_len, range_with_len}
use Rattle.std.proofs.lemmas.Bool.Decides.{nat_tests}
use Rattle.std.proofs.lemmas.List.{length-map}
use Rattle.hgs_bytes.specs.Bytes.{same, among}
use Rattle.hgs_index.specs.declared.entry.Entry.{Entry}
use Rattle.hgs_index.specs.Ancestor.{ancestors_at, ancestors_from, is_ancestor}
use Rattle.hgs_index.specs.Revision.{Parents, ParentsBefore}
use Rattle.hgs_index.specs.Theorems.RevlogLemmas.{map-append}
use Rattle.hgs_model.specs.declared.phase.Phase.{Phase}
use Rattle.hgs_model.specs.declared.phase.Phase.TheVariants.{Public}
use Rattle.hgs_model.specs.Phase.{greater}
use Rattle.hgs_model.specs.Theorems.ListLemmas.{never, and-left, and-right}
use Rattle.hgs_phases.specs.declared.roots.Root.{Root}
use Rattle.hgs_phases.specs.Phases.{history_of, own_phase, parent_phase, phase_by, phases_by, reaches, stands_at}
use Rattle.hgs_phases.specs.Theorems.PhaseLemmas.{by_place, earlier, history-at, phase_of_parent, phase_step}
use Rattle.hgs_phases.specs.Theorems.WrittenLemmas.{earlier-all}
use Rattle.hgs_revlog.specs.Log.{nodes_of, place_of}
use Rattle.hgs_revlog.specs.Theorems.LogLemmas.{position_push_some}
use Rattle.hgs_revlog.specs.Theorems.TailHeldLemmas.{position_map}
use Rattle.hgs_stands.specs.Theorems.ListedLemmas.{slice_get-last}
use Rattle.hgs_ops.specs.Theorems.Touch.{bool, same-sym}
use Rattle.hgs_ops.specs.Theorems.RootsLemmas.{is_known}

-- ---- a known node stands at a place

low : (known : List (List ℕ)) (node : List ℕ) → among node known ≡ true → position_or_len (λ n. same n node) known < length known
low [] node e = never (sym e)
low (x ∷ known) node e = by (bool (same x node)) (low known node)
  where
    by : (same x node ≡ true) ⊎ (same x node ≡ false) → (among node known ≡ true → position_or_len (λ n. same n node) known < length known) → position_or_len (λ n. same n node) (x ∷ known) < length (x ∷ known)
    by (inl h) rec = let at : cond (not (same x node)) (1 + position_or_len (λ n. same n node) known) 0 ≡ 0 = ap (λ b. cond (not b) (1 + position_or_len (λ n. same n node) known) 0) h in omega (arith, at)
    by (inr h) rec =
        let at : cond (not (same x node)) (1 + position_or_len (λ n. same n node) known) 0 ≡ 1 + position_or_len (λ n. same n node) known = ap (λ b. cond (not b) (1 + position_or_len (λ n. same n node) known) 0) h in
        let more : among node known ≡ true = sym (ap (λ b. b || among node known) (same-sym x node h)) ∙ e in
        omega (arith, at, rec more)

place-known : (entries : List Entry) (node : List ℕ) → among node (nodes_of entries) ≡ true → (i : ℕ) × (place_of entries node ≡ Some i) × (i < length entries)
place-known entries node e =
    let n : ℕ = position_or_len (λ x. same x node) (nodes_of entries) in
    let lt : n < length (nodes_of entries) = low (nodes_of entries) node e in
    (n, sym (position_map (λ (x : Entry). x.node.0) (λ x. same x node) entries) ∙ ap (λ b. cond b (Some n) None) (is n (length (nodes_of entries)) lt), omega (arith, lt, length-map entries (λ (x : Entry). x.node.0)))
  where
    is : (a b : ℕ) → a < b → nat_lt a b ≡ true
    is a b h = grind (arith, nat_tests, h)

-- ---- ancestors of earlier changesets

from-push : (known : List (List ℕ)) (hist : List Parents) (p : Parents) → ancestors_from known (hist ++ p ∷ []) ≡ ancestors_from known hist ++ (length (ancestors_from known hist) ∷ ancestors_at (ancestors_from known hist) p.0 ++ ancestors_at (ancestors_from known hist) p.1) ∷ []
from-push known [] p = refl
from-push known (q ∷ hist) p = from-push (known ++ (length known ∷ ancestors_at known q.0 ++ ancestors_at known q.1) ∷ []) hist p

from-length : (known : List (List ℕ)) (hist : List Parents) → length (ancestors_from known hist) ≡ length known + length hist
from-length known [] = omega arith
from-length known (q ∷ hist) = omega (arith, from-length (known ++ (length known ∷ ancestors_at known q.0 ++ ancestors_at known q.1) ∷ []) hist, length-append known ((length known ∷ ancestors_at known q.0 ++ ancestors_at known q.1) ∷ []))

pub or-front : {A : Type 0} (xs ys : List A) (i : ℕ) (d : A) → i < length xs → slice_index_or (xs ++ ys) i d ≡ slice_index_or xs i d
or-front [] ys i d lt = absurd (omega (arith, lt))
or-front (x ∷ xs) ys zero d lt = refl
or-front (x ∷ xs) ys (suc i) d lt = or-front xs ys i d (omega (arith, lt))

or-last : {A : Type 0} (xs : List A) (x : A) (i : ℕ) (d : A) → i ≡ length xs → slice_index_or (xs ++ x ∷ []) i d ≡ x
or-last [] x zero d e = refl
or-last [] x (suc i) d e = absurd (omega (arith, e))
or-last (y ∷ xs) x zero d e = absurd (omega (arith, e))
or-last (y ∷ xs) x (suc i) d e = or-last xs x i d (omega (arith, e))

ancestor-front : (hist : List Parents) (p : Parents) (a b : ℕ) → b < length hist → is_ancestor (hist ++ p ∷ []) a b ≡ is_ancestor hist a b
ancestor-front hist p a b lt =
    ap (λ l. list_any (λ x. x == a) (slice_index_or l b [])) (from-push [] hist p)
    ∙ ap (λ l. list_any (λ x. x == a) l) (or-front (ancestors_from [] hist) ((length (ancestors_from [] hist) ∷ ancestors_at (ancestors_from [] hist) p.0 ++ ancestors_at (ancestors_from [] hist) p.1) ∷ []) b [] (omega (arith, lt, from-length [] hist)))

-- ---- the phases that roots of known nodes give

map-at : {A : Type 0} (f : ℕ → A) (k n i : ℕ) (d : A) → i < n → slice_index_or (map f (range_with_len k n)) i d ≡ f (k + i)
map-at f k zero i d lt = absurd (omega (arith, lt))
map-at f k (suc n) zero d lt = let e : k ≡ k + 0 = omega arith in ap f e
map-at f k (suc n) (suc i) d lt = map-at f (k + 1) n i d (omega (arith, lt)) ∙ (let e : (k + 1) + i ≡ k + suc i = omega arith in ap f e)

pub phase-at : (roots : List Root) (entries : List Entry) (rev : ℕ) → rev < length entries → slice_index_or (phases_by roots entries) rev Public ≡ phase_by roots entries rev
phase-at roots entries rev lt = map-at (phase_by roots entries) 0 (length entries) rev Public lt ∙ (let z : 0 + rev ≡ rev = omega arith in ap (phase_by roots entries) z)

history-push : (entries : List Entry) (e : Entry) → history_of (entries ++ e ∷ []) ≡ history_of entries ++ (e.p1, e.p2) ∷ []
history-push [] e = refl
history-push (x ∷ entries) e = ap (λ l. (x.p1, x.p2) ∷ l) (history-push entries e)

pub history-count : (entries : List Entry) → length (history_of entries) ≡ length entries
history-count entries = length-map entries (λ (x : Entry). (x.p1, x.p2))

phase-front : (roots : List Root) (entries : List Entry) (e : Entry) (rev : ℕ) → rev < length entries → list_all (is_known (nodes_of entries)) roots ≡ true → phase_by roots (entries ++ e ∷ []) rev ≡ phase_by roots entries rev
phase-front [] entries e rev lt known = refl
phase-front (r ∷ roots) entries e rev lt known =
    ap (λ b. greater (cond b r.phase Public) (phase_by roots (entries ++ e ∷ []) rev)) first
    ∙ ap (greater (cond (reaches (history_of entries) (place_of entries r.node.0) rev) r.phase Public)) (phase-front roots entries e rev lt (and-right (is_known (nodes_of entries) r) _ known))
  where
    place : (i : ℕ) × (place_of entries r.node.0 ≡ Some i) × (i < length entries)
    place = place-known entries r.node.0 (and-left _ _ known)

    first : reaches (history_of (entries ++ e ∷ [])) (place_of (entries ++ e ∷ []) r.node.0) rev ≡ reaches (history_of entries) (place_of entries r.node.0) rev
    first =
        ap (λ o. reaches (history_of (entries ++ e ∷ [])) o rev) (position_push_some (λ (x : Entry). same x.node.0 r.node.0) entries e place.0 place.1)
        ∙ ap (λ h. is_ancestor h place.0 rev) (history-push entries e)
        ∙ ancestor-front (history_of entries) (e.p1, e.p2) place.0 rev (omega (arith, lt, history-count entries))
        ∙ ap (λ o. reaches (history_of entries) o rev) (sym place.1)

own-none : (roots : List Root) (entries : List Entry) (e : Entry) (n : ℕ) → n ≡ length entries → list_all (is_known (nodes_of entries)) roots ≡ true → own_phase roots (entries ++ e ∷ []) n ≡ Public
own-none [] entries e n is known = refl
own-none (r ∷ roots) entries e n is known =
    ap (λ o. greater (cond (stands_at o n) r.phase Public) (own_phase roots (entries ++ e ∷ []) n)) (position_push_some (λ (x : Entry). same x.node.0 r.node.0) entries e place.0 place.1)
    ∙ ap (λ b. greater (cond b r.phase Public) (own_phase roots (entries ++ e ∷ []) n)) (other place.0 n place.2 is)
    ∙ own-none roots entries e n is (and-right (is_known (nodes_of entries) r) _ known)
  where
    place : (i : ℕ) × (place_of entries r.node.0 ≡ Some i) × (i < length entries)
    place = place-known entries r.node.0 (and-left _ _ known)

    other : (i m : ℕ) → i < length entries → m ≡ length entries → (i == m) ≡ false
    other i m lt h = grind (arith, nat_tests, lt, h)

-- the greatest of the phases of the parents
abbrev pub inherited : List Phase → Entry → Phase
inherited phases e = greater (parent_phase phases e.p1) (parent_phase phases e.p2)

pub phases-more : (roots : List Root) (entries : List Entry) (e : Entry) → list_all (is_known (nodes_of entries)) roots ≡ true → IfSome e.p1 (λ a. a < length entries) → IfSome e.p2 (λ b. b < length entries)
    → phases_by roots (entries ++ e ∷ []) ≡ phases_by roots entries ++ inherited (phases_by roots entries) e ∷ []
phases-more roots entries e known first second =
    sym (by_place Public (phase_by roots (entries ++ e ∷ [])) (phases_by roots entries ++ inherited (phases_by roots entries) e ∷ []) 0 (length (entries ++ e ∷ [])) count each)
  where
    counted : length (phases_by roots entries) ≡ length entries
    counted = length-map (range_with_len 0 (length entries)) (phase_by roots entries) ∙ range-count 0 (length entries)
      where
        range-count : (k n : ℕ) → length (range_with_len k n) ≡ n
        range-count k zero = refl
        range-count k (suc n) = ap suc (range-count (k + 1) n)

    count : length (phases_by roots entries ++ inherited (phases_by roots entries) e ∷ []) ≡ length (entries ++ e ∷ [])
    count = omega (arith, counted, length-append (phases_by roots entries) (inherited (phases_by roots entries) e ∷ []), length-append entries (e ∷ []))

    parent : (n : ℕ) → n ≡ length entries → (o : Option ℕ) → IfSome o (λ a. a < length entries) → phase_of_parent roots (entries ++ e ∷ []) (earlier n o) ≡ parent_phase (phases_by roots entries) o
    parent n is o lt = ap (phase_of_parent roots (entries ++ e ∷ [])) (earlier-all n o (subst (λ m. IfSome o (λ a. a < m)) (sym is) lt)) ∙ at o lt
      where
        at : (o : Option ℕ) → IfSome o (λ a. a < length entries) → phase_of_parent roots (entries ++ e ∷ []) o ≡ parent_phase (phases_by roots entries) o
        at None h = refl
        at (Some q) h = phase-front roots entries e q h known ∙ sym (phase-at roots entries q h)

    last : (n : ℕ) → n ≡ length entries → phase_by roots (entries ++ e ∷ []) n ≡ inherited (phases_by roots entries) e
    last n is =
        phase_step roots (entries ++ e ∷ []) n (e.p1, e.p2) (history-at (entries ++ e ∷ []) n e (ap (slice_get (entries ++ e ∷ [])) is ∙ slice_get-last entries e))
        ∙ ap (λ x. greater x (greater (phase_of_parent roots (entries ++ e ∷ []) (earlier n e.p1)) (phase_of_parent roots (entries ++ e ∷ []) (earlier n e.p2)))) (own-none roots entries e n is known)
        ∙ (λ i. greater (parent n is e.p1 first i) (parent n is e.p2 second i))

    cases : (i : ℕ) → i < length (entries ++ e ∷ []) → (i < length entries) ⊎ (i ≡ length entries)
    cases i lt = by (nat_lt i (length entries)) refl
      where
        whole : length (entries ++ e ∷ []) ≡ length entries + 1
        whole = length-append entries (e ∷ [])

        by : (b : Bool) → nat_lt i (length entries) ≡ b → (i < length entries) ⊎ (i ≡ length entries)
        by true h = inl (grind (arith, nat_tests, h))
        by false h = inr (grind (arith, nat_tests, h, lt, whole))

    each : (i : ℕ) → i < length (entries ++ e ∷ []) → slice_index_or (phases_by roots entries ++ inherited (phases_by roots entries) e ∷ []) i Public ≡ phase_by roots (entries ++ e ∷ []) (0 + i)
    each i lt = at i lt ∙ (let z : i ≡ 0 + i = omega arith in ap (phase_by roots (entries ++ e ∷ [])) z)
      where
        at : (i : ℕ) → i < length (entries ++ e ∷ []) → slice_index_or (phases_by roots entries ++ inherited (phases_by roots entries) e ∷ []) i Public ≡ phase_by roots (entries ++ e ∷ []) i
        at i lt = elim (cases i lt) [
          | inl old ↦ or-front (phases_by roots entries) (inherited (phases_by roots entries) e ∷ []) i Public (omega (arith, old, counted)) ∙ phase-at roots entries i old ∙ sym (phase-front roots entries e i old known)
          | inr new ↦ or-last (phases_by roots entries) (inherited (phases_by roots entries) e) i Public (omega (arith, new, counted)) ∙ sym (last i new)
        ]

-- ---- more changesets behind

among-more : (x : List ℕ) (xs ys : List (List ℕ)) → among x xs ≡ true → among x (xs ++ ys) ≡ true
among-more x [] ys e = never (sym e)
among-more x (y ∷ xs) ys e = by (same x y) (among-more x xs ys) e
  where
    by : (z : Bool) → (among x xs ≡ true → among x (xs ++ ys) ≡ true) → (z || among x xs) ≡ true → (z || among x (xs ++ ys)) ≡ true
    by true rec g = refl
    by false rec g = rec g

and-both : (a b : Bool) → a ≡ true → b ≡ true → (a && b) ≡ true
and-both true b e f = f
and-both false b e f = e

pub roots-known : (known more : List (List ℕ)) (roots : List Root) → list_all (is_known known) roots ≡ true → list_all (is_known (known ++ more)) roots ≡ true
roots-known known more [] e = refl
roots-known known more (m ∷ roots) e = and-both _ _ (among-more m.node.0 known more (and-left _ _ e)) (roots-known known more roots (and-right (among m.node.0 known) _ e))

entry-before : (n : ℕ) (xs ys : List Entry) (e : Entry) → ParentsBefore n (history_of (xs ++ e ∷ ys)) → IfSome e.p1 (λ a. a < n + length xs) × IfSome e.p2 (λ b. b < n + length xs)
entry-before n [] ys e before = (narrow e.p1 before.0, narrow e.p2 before.1)
  where
    narrow : (o : Option ℕ) → IfSome o (λ a. a < n) → IfSome o (λ a. a < n + 0)
    narrow None h = tt
    narrow (Some a) h = omega arith
entry-before n (x ∷ xs) ys e before = let h = entry-before (suc n) xs ys e before.2 in (narrow e.p1 h.0, narrow e.p2 h.1)
  where
    narrow : (o : Option ℕ) → IfSome o (λ a. a < suc n + length xs) → IfSome o (λ a. a < n + suc (length xs))
    narrow None h = tt
    narrow (Some a) h = omega arith

from-none : (n : ℕ) (o : Option ℕ) → IfSome o (λ a. a < 0 + n) → IfSome o (λ a. a < n)
from-none n None h = tt
from-none n (Some a) h = omega arith

-- roots of known nodes that give the same phases do so with more changesets behind
pub phases-many : (a b : List Root) (entries more : List Entry) → list_all (is_known (nodes_of entries)) a ≡ true → list_all (is_known (nodes_of entries)) b ≡ true → ParentsBefore 0 (history_of (entries ++ more)) → phases_by a entries ≡ phases_by b entries
    → phases_by a (entries ++ more) ≡ phases_by b (entries ++ more)
phases-many a b entries [] ka kb before e = ap (phases_by a) (append-nil entries) ∙ e ∙ sym (ap (phases_by b) (append-nil entries))
phases-many a b entries (x ∷ more) ka kb before e =
    let two = entry-before 0 entries more x before in
    let next : phases_by a (entries ++ x ∷ []) ≡ phases_by b (entries ++ x ∷ []) = phases-more a entries x ka (from-none (length entries) x.p1 two.0) (from-none (length entries) x.p2 two.1) ∙ (λ i. e i ++ inherited (e i) x ∷ []) ∙ sym (phases-more b entries x kb (from-none (length entries) x.p1 two.0) (from-none (length entries) x.p2 two.1)) in
    let known : nodes_of (entries ++ x ∷ []) ≡ nodes_of entries ++ x.node.0 ∷ [] = map-append (λ (y : Entry). y.node.0) entries (x ∷ []) in
    let joined : (entries ++ x ∷ []) ++ more ≡ entries ++ x ∷ more = append_assoc entries (x ∷ []) more in
    ap (phases_by a) (sym joined)
    ∙ phases-many a b (entries ++ x ∷ []) more
    (ap (λ ns. list_all (is_known ns) a) known ∙ roots-known (nodes_of entries) (x.node.0 ∷ []) a ka) (ap (λ ns. list_all (is_known ns) b) known ∙ roots-known (nodes_of entries) (x.node.0 ∷ []) b kb)
    (subst (λ (l : List Entry). ParentsBefore 0 (history_of l)) (sym joined) before) next
    ∙ ap (phases_by b) joined
