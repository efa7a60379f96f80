-- Links ascend, and each history adds revisions with the links of its own changesets.
use Rattle.std.proofs.Common.{◌≡◌, ◌⊎◌, ℕ, zero, suc, ◌+◌, ◌<◌, ◌≤◌, List, [], ◌∷◌, ◌++◌, Bool, true, false, cond, length, take, drop, refl, sym, ◌∙◌, ap, subst, inl, inr, arith, append_assoc, append-nil, length-append, take-append-drop, take_all, length-take-le}
use Rattle.std.specs.Prelude.{Some, None, filter, nat_le, nat_lt, slice_get}
use Rattle.std.proofs.lemmas.Bool.{lt-ltb, ltb-true}
use Rattle.hgs_bytes.specs.Bytes.{IsPrefixOf}
use Rattle.hgs_index.specs.Revision.{Revision}
use Rattle.hgs_links.specs.Links.{IsParted, LinksAscend, linked_below}
use Rattle.hgs_model.specs.History.{History, changeset_revision, file_revision, history, history_from, manifest_revision, no_history, placed_of, with_changeset}
use Rattle.hgs_model.specs.IsRepo.{IsRepo}
use Rattle.hgs_model.specs.Repo.{Changeset, Repo}
use Rattle.hgs_model.specs.Theorems.CountLemmas.{IsWithOne, filelog-one, length-placed, with-one}
use Rattle.hgs_model.specs.Theorems.HistoryLemmas.{history_from-append, length-changelog}

-- links from n on, each greater than the one before it, and all below m
abbrev pub Climbs : ℕ → List Revision → ℕ → Type 0
Climbs n [] m = n ≤ m
Climbs n (r ∷ revisions) m = (n ≤ r.link) × Climbs (suc r.link) revisions m

climbs-least : (n : ℕ) (revisions : List Revision) (m : ℕ) → Climbs n revisions m → n ≤ m
climbs-least n [] m c = c
climbs-least n (r ∷ revisions) m c = omega (arith, c.0, climbs-least (suc r.link) revisions m c.1)

climbs-from : (n k : ℕ) (revisions : List Revision) (m : ℕ) → n ≤ k → Climbs k revisions m → Climbs n revisions m
climbs-from n k [] m le c = omega (arith, le, c)
climbs-from n k (r ∷ revisions) m le c = (omega (arith, le, c.0), c.1)

climbs-to : (n : ℕ) (revisions : List Revision) (m k : ℕ) → m ≤ k → Climbs n revisions m → Climbs n revisions k
climbs-to n [] m k le c = omega (arith, le, c)
climbs-to n (r ∷ revisions) m k le c = (c.0, climbs-to (suc r.link) revisions m k le c.1)

climbs-join : (n : ℕ) (xs : List Revision) (m : ℕ) (ys : List Revision) (k : ℕ) → Climbs n xs m → Climbs m ys k → Climbs n (xs ++ ys) k
climbs-join n [] m ys k a b = climbs-from n m ys k a b
climbs-join n (x ∷ xs) m ys k a b = (a.0, climbs-join (suc x.link) xs m ys k a.1 b)

some-is : (x y : Revision) → Some x ≡ Some y → x ≡ y
some-is x y e = ap (λ o. elim o [ None ↦ x | Some z ↦ z ]) e

none-some : {A : Type 0} (x : Revision) → None ≡ Some x → A
none-some x e = absurd (no e)
  where
    no : None ≡ Some x → ⊥
    no h = cc

pub climbs-at-least : (n : ℕ) (revisions : List Revision) (m rev : ℕ) (r : Revision) → Climbs n revisions m → slice_get revisions rev ≡ Some r → n ≤ r.link
climbs-at-least n [] m rev r c e = none-some r e
climbs-at-least n (x ∷ revisions) m zero r c e = let same = ap (λ (y : Revision). y.link) (some-is x r e) in omega (arith, c.0, same)
climbs-at-least n (x ∷ revisions) m (suc rev) r c e = omega (arith, c.0, climbs-at-least (suc x.link) revisions m rev r c.1 e)

pub climbs-below : (n : ℕ) (revisions : List Revision) (m rev : ℕ) (r : Revision) → Climbs n revisions m → slice_get revisions rev ≡ Some r → r.link < m
climbs-below n [] m rev r c e = none-some r e
climbs-below n (x ∷ revisions) m zero r c e = let same = ap (λ (y : Revision). y.link) (some-is x r e) in omega (arith, climbs-least (suc x.link) revisions m c.1, same)
climbs-below n (x ∷ revisions) m (suc rev) r c e = climbs-below (suc x.link) revisions m rev r c.1 e

pub climbs-ascend : (n : ℕ) (revisions : List Revision) (m : ℕ) → Climbs n revisions m → LinksAscend revisions
climbs-ascend n [] m c i j a b lt e f = none-some a e
climbs-ascend n (x ∷ revisions) m c i zero a b lt e f = absurd (omega (arith, lt))
climbs-ascend n (x ∷ revisions) m c zero (suc j) a b lt e f = let same = ap (λ (y : Revision). y.link) (some-is x a e) in omega (arith, climbs-at-least (suc x.link) revisions m j b c.1 f, same)
climbs-ascend n (x ∷ revisions) m c (suc i) (suc j) a b lt e f = climbs-ascend (suc x.link) revisions m c.1 i j a b (omega (arith, lt)) e f

-- ---- one list that goes on from another

-- The list goes on from the old one by revisions with links from n on and below m.
pub record Added (old all : List Revision) (n m : ℕ) : Type 0 where
  pub more : List Revision
  pub is : all ≡ old ++ more
  pub climbs : Climbs n more m

added-none : (old all : List Revision) (n m : ℕ) → n ≤ m → all ≡ old → Added old all n m
added-none old all n m le e = record { more = []; is = e ∙ sym (append-nil old); climbs = le }

added-last : (old all : List Revision) (r : Revision) (n m : ℕ) → r.link ≡ n → n < m → all ≡ old ++ r ∷ [] → Added old all n m
added-last old all r n m link lt e = record { more = r ∷ []; is = e; climbs = (omega (arith, link), omega (arith, link, lt)) }

added-one : (old all : List Revision) (r : Revision) (n m : ℕ) → r.link ≡ n → n < m → IsWithOne old all r → Added old all n m
added-one old all r n m link lt (inl e) = added-none old all n m (omega (arith, lt)) e
added-one old all r n m link lt (inr e) = added-last old all r n m link lt e

added-then : (a b c : List Revision) (n m k : ℕ) → Added a b n m → Added b c m k → Added a c n k
added-then a b c n m k x y = record {
  more = x.more ++ y.more;
  is = y.is ∙ ap (λ l. l ++ y.more) x.is ∙ append_assoc a x.more y.more;
  climbs = climbs-join n x.more m y.more k x.climbs y.climbs;
}

pub record GoesOn (h k : History) : Type 0 where
  pub filelogs : (path : List ℕ) → Added (h.filelog path) (k.filelog path) (length h.placed) (length k.placed)
  pub manifest : Added h.manifest k.manifest (length h.placed) (length k.placed)
  pub changelog : Added h.changelog k.changelog (length h.placed) (length k.placed)

goes-on-one : (h : History) (c : Changeset) → GoesOn h (with_changeset h c)
goes-on-one h c = record {
  filelogs = λ path. elim (filelog-one h c path) [
    | inl e ↦ added-none (h.filelog path) ((with_changeset h c).filelog path) (length h.placed) (length (with_changeset h c).placed) (omega (arith, longer)) e
    | inr (f, found, e) ↦ added-last (h.filelog path) ((with_changeset h c).filelog path) (file_revision h c f) (length h.placed) (length (with_changeset h c).placed) refl longer e
  ];
  manifest = added-one h.manifest (with_changeset h c).manifest (manifest_revision h c) (length h.placed) (length (with_changeset h c).placed) refl longer (with-one h.manifest (manifest_revision h c));
  changelog = added-one h.changelog (with_changeset h c).changelog (changeset_revision h c) (length h.placed) (length (with_changeset h c).placed) refl longer (with-one h.changelog (changeset_revision h c));
}
  where
    longer : length h.placed < length (with_changeset h c).placed
    longer = omega (arith, length-append h.placed (placed_of h c ∷ []))

goes-on-from : (h : History) (changesets : List Changeset) → GoesOn h (history_from h changesets)
goes-on-from h [] = record {
  filelogs = λ path. added-none (h.filelog path) (h.filelog path) (length h.placed) (length h.placed) (omega arith) refl;
  manifest = added-none h.manifest h.manifest (length h.placed) (length h.placed) (omega arith) refl;
  changelog = added-none h.changelog h.changelog (length h.placed) (length h.placed) (omega arith) refl;
}
goes-on-from h (c ∷ changesets) =
    let one = goes-on-one h c in
    let rest = goes-on-from (with_changeset h c) changesets in
    let k : History = history_from h (c ∷ changesets) in record {
      filelogs = λ path. added-then (h.filelog path) ((with_changeset h c).filelog path) (k.filelog path) (length h.placed) (length (with_changeset h c).placed) (length k.placed) (one.filelogs path) (rest.filelogs path);
      manifest = added-then h.manifest (with_changeset h c).manifest k.manifest (length h.placed) (length (with_changeset h c).placed) (length k.placed) one.manifest rest.manifest;
      changelog = added-then h.changelog (with_changeset h c).changelog k.changelog (length h.placed) (length (with_changeset h c).placed) (length k.placed) one.changelog rest.changelog;
    }

-- ---- whole histories

counted : (old all : List Revision) (n m a b : ℕ) → n ≡ a → m ≡ b → Added old all n m → Added old all a b
counted old all n m a b e f x = subst (λ k. Added old all k b) e (subst (λ k. Added old all n k) f x)

-- a history that goes on adds revisions linked to its new changesets
pub record AddsLinks (front all : List Changeset) : Type 0 where
  pub filelogs : (path : List ℕ) → Added ((history front).filelog path) ((history all).filelog path) (length front) (length all)
  pub manifest : Added (history front).manifest (history all).manifest (length front) (length all)
  pub changelog : Added (history front).changelog (history all).changelog (length front) (length all)

pub adds-links : (front all : List Changeset) → IsPrefixOf front all → AddsLinks front all
adds-links front all p =
    let on = subst (GoesOn (history front)) (sym (ap history p.1 ∙ history_from-append no_history front p.0)) (goes-on-from (history front) p.0) in record {
      filelogs = λ path. counted _ _ _ _ (length front) (length all) (length-placed front) (length-placed all) (on.filelogs path);
      manifest = counted _ _ _ _ (length front) (length all) (length-placed front) (length-placed all) on.manifest;
      changelog = counted _ _ _ _ (length front) (length all) (length-placed front) (length-placed all) on.changelog;
    }

pub record Climb (changesets : List Changeset) : Type 0 where
  pub filelogs : (path : List ℕ) → Climbs 0 ((history changesets).filelog path) (length changesets)
  pub manifest : Climbs 0 (history changesets).manifest (length changesets)
  pub changelog : Climbs 0 (history changesets).changelog (length changesets)

alone : (all : List Revision) (m : ℕ) → Added [] all 0 m → Climbs 0 all m
alone all m x = subst (λ l. Climbs 0 l m) (sym x.is) x.climbs

pub climb : (changesets : List Changeset) → Climb changesets
climb changesets =
    let on = adds-links [] changesets (changesets, refl) in record {
      filelogs = λ path. alone ((history changesets).filelog path) (length changesets) (on.filelogs path);
      manifest = alone (history changesets).manifest (length changesets) on.manifest;
      changelog = alone (history changesets).changelog (length changesets) on.changelog;
    }

-- as many links as there is room for are the numbers from n on
climbs-room : (n : ℕ) (revisions : List Revision) (m : ℕ) → Climbs n revisions m → n + length revisions ≤ m
climbs-room n [] m c = omega (arith, c)
climbs-room n (x ∷ revisions) m c = omega (arith, c.0, climbs-room (suc x.link) revisions m c.1)

own-from : (n : ℕ) (revisions : List Revision) (m rev : ℕ) (r : Revision) → m ≤ n + length revisions → Climbs n revisions m → slice_get revisions rev ≡ Some r → r.link ≡ n + rev
own-from n [] m rev r full c e = none-some r e
own-from n (x ∷ revisions) m zero r full c e = let same = ap (λ (y : Revision). y.link) (some-is x r e) in omega (arith, same, full, c.0, climbs-room (suc x.link) revisions m c.1)
own-from n (x ∷ revisions) m (suc rev) r full c e =
    let first = climbs-room (suc x.link) revisions m c.1 in
    omega (arith, first, full, c.0, own-from (suc x.link) revisions m rev r (omega (arith, first, full, c.0)) c.1 e)

pub own-link : (r : Repo) (rev : ℕ) (revision : Revision) → IsRepo r → slice_get (history r.changesets).changelog rev ≡ Some revision → revision.link ≡ rev
own-link r rev revision is e = let same = own-from 0 (history r.changesets).changelog (length r.changesets) rev revision (omega (arith, length-changelog r is)) (climb r.changesets).changelog e in omega (arith, same)

-- ---- fronts by links

not-below : (a b : ℕ) → b ≤ a → nat_lt a b ≡ false
not-below a b le = by (nat_lt a b) refl
  where
    by : (z : Bool) → nat_lt a b ≡ z → z ≡ false
    by true e = absurd (omega (arith, le, ltb-true a b e))
    by false e = refl

kept : (n : ℕ) (revisions more : List Revision) (m : ℕ) → Climbs n revisions m → filter (λ r. nat_lt r.link m) (revisions ++ more) ≡ revisions ++ filter (λ r. nat_lt r.link m) more
kept n [] more m c = refl
kept n (x ∷ revisions) more m c =
    ap (λ b. cond b (x ∷ filter (λ r. nat_lt r.link m) (revisions ++ more)) (filter (λ r. nat_lt r.link m) (revisions ++ more))) (lt-ltb x.link m (omega (arith, climbs-least (suc x.link) revisions m c.1)))
    ∙ ap (λ l. x ∷ l) (kept (suc x.link) revisions more m c.1)

left_out : (n : ℕ) (revisions : List Revision) (m k : ℕ) → k ≤ n → Climbs n revisions m → filter (λ r. nat_lt r.link k) revisions ≡ []
left_out n [] m k le c = refl
left_out n (x ∷ revisions) m k le c =
    ap (λ b. cond b (x ∷ filter (λ r. nat_lt r.link k) revisions) (filter (λ r. nat_lt r.link k) revisions)) (not-below x.link k (omega (arith, le, c.0)))
    ∙ left_out (suc x.link) revisions m k (omega (arith, le, c.0)) c.1

-- the old revisions are those with links below its count
pub front-is : (old all : List Revision) (n m k : ℕ) → n ≤ k → Climbs 0 old n → Added old all n m → (k ≡ n) ⊎ (all ≡ old) → linked_below k all ≡ old
front-is old all n m k le c x (inl e) =
    ap (linked_below k) x.is ∙ kept 0 old x.more k (climbs-to 0 old n k le c) ∙ ap (λ l. old ++ l) (left_out n x.more m k (omega (arith, e)) x.climbs) ∙ append-nil old
front-is old all n m k le c x (inr e) = ap (linked_below k) (e ∙ sym (append-nil old)) ∙ kept 0 old [] k (climbs-to 0 old n k le c) ∙ append-nil old

at-most : (a b : ℕ) → nat_le a b ≡ true → a ≤ b
at-most a b e = grind (arith, e)

above : (a b : ℕ) → nat_le a b ≡ false → b < a
above a b e = grind (arith, e)

-- the first changesets, and whether these are all
pub taken : (count : ℕ) (changesets : List Changeset) → (length (take count changesets) ≤ count) × ((count ≡ length (take count changesets)) ⊎ (take count changesets ≡ changesets))
taken count changesets = by (nat_le count (length changesets)) refl
  where
    by : (b : Bool) → nat_le count (length changesets) ≡ b → (length (take count changesets) ≤ count) × ((count ≡ length (take count changesets)) ⊎ (take count changesets ≡ changesets))
    by true e = let all = length-take-le count changesets (at-most count (length changesets) e) in (omega (arith, all), inl (sym all))
    by false e = let more = above count (length changesets) e in let all = take_all count changesets (omega (arith, more)) in (omega (arith, ap length all, more), inr all)

pub take-front : (count : ℕ) (changesets : List Changeset) → IsPrefixOf (take count changesets) changesets
take-front count changesets = (drop count changesets, sym (take-append-drop count changesets))

pub list-front : (of : List Changeset → List Revision) (count : ℕ) (changesets : List Changeset) → Climbs 0 (of (take count changesets)) (length (take count changesets))
    → Added (of (take count changesets)) (of changesets) (length (take count changesets)) (length changesets) → linked_below count (of changesets) ≡ of (take count changesets)
list-front of count changesets c x =
    let t = taken count changesets in
    front-is (of (take count changesets)) (of changesets) (length (take count changesets)) (length changesets) count t.0 c x (elim t.1 [ inl e ↦ inl e | inr e ↦ inr (ap of (sym e)) ])

-- ---- numbers by links

part : (n : ℕ) (old more : List Revision) (m k rev : ℕ) (r : Revision) → Climbs n old m → Climbs m more k → slice_get (old ++ more) rev ≡ Some r → ((r.link < m) × (rev < length old)) ⊎ ((m ≤ r.link) × (length old ≤ rev))
part n [] more m k rev r c d e = inr (climbs-at-least m more k rev r d e, omega arith)
part n (x ∷ old) more m k zero r c d e = let same = ap (λ (y : Revision). y.link) (some-is x r e) in inl (omega (arith, same, climbs-least (suc x.link) old m c.1), omega arith)
part n (x ∷ old) more m k (suc rev) r c d e = elim (part (suc x.link) old more m k rev r c.1 d e) [
  | inl (a, b) ↦ inl (a, omega (arith, b))
  | inr (a, b) ↦ inr (a, omega (arith, b))
]

pub parted : (old all : List Revision) (n m : ℕ) → Climbs 0 old n → Added old all n m → IsParted all n (length old)
parted old all n m c x = record {
  front = λ rev r e lt. elim (either rev r e) [ inl (a, b) ↦ a | inr (a, b) ↦ absurd (omega (arith, b, lt)) ];
  number = λ rev r e lt. elim (either rev r e) [ inl (a, b) ↦ b | inr (a, b) ↦ absurd (omega (arith, a, lt)) ];
}
  where
    either : (rev : ℕ) (r : Revision) → slice_get all rev ≡ Some r → ((r.link < n) × (rev < length old)) ⊎ ((n ≤ r.link) × (length old ≤ rev))
    either rev r e = part 0 old x.more n m rev r c x.climbs (subst (λ l. slice_get l rev ≡ Some r) x.is e)
