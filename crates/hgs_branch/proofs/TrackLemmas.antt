-- One more changeset, and what is known where nothing is left.
use Rattle.std.proofs.Common.{◌≡◌, ◌≢◌, ◌⊎◌, ◌<◌, ◌≤◌, ℕ, zero, suc, ◌+◌, ◌*◌, Bool, true, false, List, [], ◌∷◌, ◌++◌, length, map, Option, Some, None, refl, sym, ◌∙◌, ap, subst, inl, inr, arith}
use Rattle.std.specs.Prelude.{◌==◌, ◌↔◌, slice_get, slice_index_or}
use Rattle.hgs_index.specs.Ancestor.{IsAncestor, itself, of_parent, IsParent}
use Rattle.hgs_index.specs.Revision.{Parents, ParentsBefore}
use Rattle.hgs_branch.specs.Heads.{IsHead}
use Rattle.hgs_branch.specs.Reached.{bit_of, has_at, left_at, left_of, wide_at, words_of, Descends, IsFallen, IsHanded, IsLeftWithin, Reached}
use Rattle.hgs_branch.specs.Tracked.{numbers_in, parents_in}
use Rattle.hgs_branch.specs.declared.reach.Known.{Known}
use Rattle.hgs_branch.specs.declared.reach.Reach.{Reach}
use Rattle.hgs_branch.proofs.BitLemmas.{no_bit}
use Rattle.hgs_branch.proofs.HandLemmas.{none_left}
use Rattle.hgs_branch.proofs.HistoryLemmas.{ancestor_longer, ancestor_low, longer, parent_before, parent_shorter, Longer}
use Rattle.hgs_branch.proofs.ListLemmas.{false_is, get_front, get_last, get_low, get_there, length_map, length_more, low_or_last, mark_front, mark_last, none_is, not_number, number_same, past_none, place_of, same_number, some_is, true_or_false}

-- ---- one more changeset

pub reached_next : (known more : List Known) (heads : List Bool) (reaches further : List Reach) (k : Known) (reach : Reach) → more ≡ known ++ k ∷ [] → further ≡ reaches ++ reach ∷ [] → Reached known heads reaches → ((n : ℕ) → bit_of reach.words.items n ≡ (n == k.branch)) → reach.left ≡ true →
    ((c : ℕ) → wide_at reaches c ≤ length reach.words.items) → k.branch < 64 * length reach.words.items → Reached more (heads ++ true ∷ []) further
reached_next known more heads reaches further k reach more_is further_is r own left wide inside = record {
  heads_count = let a = length_more heads true in let b = r.heads_count in let c = l.size in omega (arith, a, b, c);
  reaches_count = ap length further_is ∙ (let a = length_more reaches reach in let b = r.reaches_count in let c = l.size in omega (arith, a, b, c));
  own = λ c number at. elim (place c number at) [
    | inl e ↦ ap (λ o. bit_of (words_of o) number) (was c e.0) ∙ r.own c number e.1
    | inr e ↦ ap (λ o. bit_of (words_of o) number) (is_last c e.0) ∙ own number ∙ ap (λ x. x == k.branch) e.1 ∙ same_number k.branch
  ];
  inside = λ c number at. elim (place c number at) [
    | inl e ↦ (let a = r.inside c number e.1 in let w = ap (λ o. length (words_of o)) (was c e.0) in omega (arith, a, w))
    | inr e ↦ (let w = ap (λ o. length (words_of o)) (is_last c e.0) in let x = e.1 in omega (arith, inside, w, x))
  ];
  wide = λ a b le lt. elim (low_or_last b (length known) (c_low b lt)) [
    | inl low ↦ (let a_low : a < length known = omega (arith, le, low) in let w = r.wide a b le low in let x = ap (λ o. length (words_of o)) (was a a_low) in let y = ap (λ o. length (words_of o)) (was b low) in omega (arith, w, x, y))
    | inr e ↦ (let y = ap (λ o. length (words_of o)) (is_last b e) in elim (place_of a (length known)) [
      | inl low ↦ (let x = ap (λ o. length (words_of o)) (was a low) in let w = wide a in omega (arith, w, x, y))
      | inr q ↦ elim q [ inl same ↦ (let x = ap (λ o. length (words_of o)) (is_last a same) in omega (arith, x, y)) | inr past ↦ absurd (let d = e in omega (arith, le, d, past)) ]
    ])
  ];
  bits = λ c number h. elim (place_of c (length known)) [
    | inl low ↦ descends c number (r.bits c number (ap (λ o. bit_of (words_of o) number) (sym (was c low)) ∙ h))
    | inr q ↦ elim q [
      | inl e ↦ (let n = number_same number k.branch (sym (own number) ∙ ap (λ o. bit_of (words_of o) number) (sym (is_last c e)) ∙ h) in record { other = c; behind = omega arith; branch = last_number c e ∙ ap (λ x. Some x) (sym n); above = itself })
      | inr past ↦ false_is (sym (ap (λ o. bit_of (words_of o) number) (past_none further c (let s = further_size in omega (arith, s, past))) ∙ no_bit number) ∙ h)
    ]
  ];
  fallen = λ c lt h. elim (low_or_last c (length known) (let s = l.size in omega (arith, lt, s))) [
    | inl low ↦ (let f = r.fallen c low (sym (mark_front heads (true ∷ []) c (let n = r.heads_count in omega (arith, n, low))) ∙ h) in
        record { other = f.other; behind = f.behind; same = same_longer c f.other low f.same; above = further_up c f.other f.above })
    | inr e ↦ false_is (sym h ∙ mark_last heads c (let n = r.heads_count in let d = e in omega (arith, n, d)))
  ];
  handed = λ c off. elim (place_of c (length known)) [
    | inl low ↦ (let i = r.handed c (ap left_of (sym (was c low)) ∙ off) in record {
      bits = λ parent number par lt fits h. let p_low : parent < length known = omega (arith, lt, low) in
          ap (λ o. bit_of (words_of o) number) (was parent p_low) ∙ i.bits parent number (shorter parent c low par) lt (let w = ap (λ o. length (words_of o)) (was parent p_low) in omega (arith, fits, w)) (ap (λ o. bit_of (words_of o) number) (sym (was c low)) ∙ h);
      head = λ parent number par lt at h. let p_low : parent < length known = omega (arith, lt, low) in
          mark_front heads (true ∷ []) parent (let n = r.heads_count in omega (arith, n, p_low)) ∙ i.head parent number (shorter parent c low par) lt (sym (number_longer parent p_low) ∙ at) (ap (λ o. bit_of (words_of o) number) (sym (was c low)) ∙ h);
    })
    | inr q ↦ elim q [
      | inl e ↦ false_is (sym off ∙ ap left_of (is_last c e) ∙ left)
      | inr past ↦ record {
        bits = λ parent number par lt fits h. absurd (no_child c parent past par);
        head = λ parent number par lt at h. absurd (no_child c parent past par);
      }
    ]
  ];
}
  where
    l : Longer known k more
    l = subst (λ x. Longer known k x) (sym more_is) (longer known k)

    further_size : length further ≡ length known + 1
    further_size = ap length further_is ∙ (let a = length_more reaches reach in let b = r.reaches_count in omega (arith, a, b))

    was : (c : ℕ) → c < length known → slice_get further c ≡ slice_get reaches c
    was c lt = ap (λ x. slice_get x c) further_is ∙ get_front reaches (reach ∷ []) c (let b = r.reaches_count in omega (arith, b, lt))

    is_last : (c : ℕ) → c ≡ length known → slice_get further c ≡ Some reach
    is_last c e = ap (λ x. slice_get x c) further_is ∙ get_last reaches reach c (let b = r.reaches_count in let d = e in omega (arith, b, d))

    c_low : (c : ℕ) → c < length more → c < length known + 1
    c_low c lt = let s = l.size in omega (arith, lt, s)

    number_longer : (c : ℕ) → c < length known → slice_get (numbers_in more) c ≡ slice_get (numbers_in known) c
    number_longer c lt = ap (λ x. slice_get x c) l.numbers ∙ get_front (numbers_in known) (k.branch ∷ []) c (let a = l.long in omega (arith, a, lt))

    last_number : (c : ℕ) → c ≡ length known → slice_get (numbers_in more) c ≡ Some k.branch
    last_number c e = ap (λ x. slice_get x c) l.numbers ∙ get_last (numbers_in known) k.branch c (let a = l.long in let d = e in omega (arith, a, d))

    place : (c number : ℕ) → slice_get (numbers_in more) c ≡ Some number → ((c < length known) × (slice_get (numbers_in known) c ≡ Some number)) ⊎ ((c ≡ length known) × (number ≡ k.branch))
    place c number at = elim (low_or_last c (length known) (number_low (get_low (numbers_in more) c number at))) [
      | inl lt ↦ inl (lt, sym (number_longer c lt) ∙ at)
      | inr e ↦ inr (e, some_is number k.branch (sym at ∙ last_number c e))
    ]
      where
        number_low : c < length (numbers_in more) → c < length known + 1
        number_low lt = let a = length_map (λ (x : Known). x.branch) more in let s = l.size in omega (arith, lt, a, s)

    shorter : (p c : ℕ) → c < length known → IsParent (parents_in more) p c → IsParent (parents_in known) p c
    shorter p c lt h = parent_shorter (parents_in known) ((k.p1, k.p2) ∷ []) p c (let n = l.long_parents in omega (arith, n, lt)) (subst (λ x. IsParent x p c) l.parents h)

    further_up : (a c : ℕ) → IsAncestor (parents_in known) a c → IsAncestor (parents_in more) a c
    further_up a c h = subst (λ x. IsAncestor x a c) (sym l.parents) (ancestor_longer (parents_in known) ((k.p1, k.p2) ∷ []) a c h)

    low_by : (c number : ℕ) → slice_get (numbers_in known) c ≡ Some number → c < length known
    low_by c number at = let a = get_low (numbers_in known) c number at in let b = l.long in omega (arith, a, b)

    descends : (c number : ℕ) → Descends known c number → Descends more c number
    descends c number d = record { other = d.other; behind = d.behind; branch = number_longer d.other (low_by d.other number d.branch) ∙ d.branch; above = further_up c d.other d.above }

    same_longer : (c other : ℕ) → c < length known → slice_get (numbers_in known) other ≡ slice_get (numbers_in known) c → slice_get (numbers_in more) other ≡ slice_get (numbers_in more) c
    same_longer c other lt e =
        let n = get_there (numbers_in known) c (let a = l.long in omega (arith, a, lt)) in
        number_longer other (low_by other n.0 (e ∙ n.1)) ∙ e ∙ sym (number_longer c lt)

    no_child : (c parent : ℕ) → length known + 1 ≤ c → IsParent (parents_in more) parent c → ⊥
    no_child c parent past par = let a = get_low (parents_in more) c par.0 par.1 in let b : length (parents_in more) ≡ length more = length_map (λ (x : Known). (x.p1, x.p2)) more in let s = l.size in omega (arith, a, b, s, past)

-- ---- where nothing is left

-- a changeset whose branch goes on is a head no more
falls_along : (known : List Known) (heads : List Bool) (reaches : List Reach) (rev number d : ℕ) → Reached known heads reaches → IsLeftWithin reaches 0 0 → ParentsBefore 0 (parents_in known) → slice_get (numbers_in known) rev ≡ Some number → IsAncestor (parents_in known) rev d → d ≢ rev → d < length known → has_at reaches d number ≡ true →
    slice_index_or heads rev false ≡ false
falls_along known heads reaches rev number d r none before at itself ne low h = absurd (ne refl)
falls_along known heads reaches rev number d r none before at (of_parent {p = p} par rest) ne low h =
    let lt = parent_before (parents_in known) p d before par in
    let handed = r.handed d (none_left reaches d none) in
    elim (true_or_false (p == rev)) [
      | inl e ↦ (let same = number_same p rev e in handed.head rev number (subst (λ x. IsParent (parents_in known) x d) same par) (subst (λ x. x < d) same lt) at h)
      | inr e ↦ (let p_low : p < length known = omega (arith, lt, low) in
          falls_along known heads reaches rev number p r none before at rest (not_number p rev e) p_low
          (handed.bits p number par lt (let a = r.inside rev number at in let b = ancestor_low (parents_in known) rev p before rest in let w = r.wide rev p b p_low in omega (arith, a, w)) h))
    ]

pub marks_are_exact : (known : List Known) (heads : List Bool) (reaches : List Reach) (rev : ℕ) → Reached known heads reaches → IsLeftWithin reaches 0 0 → ParentsBefore 0 (parents_in known) → rev < length known → (slice_index_or heads rev false ≡ true ↔ IsHead (parents_in known) (numbers_in known) rev)
marks_are_exact known heads reaches rev r none before low = (
  λ mark. record {
    there = (let a = long in omega (arith, a, low));
    last = λ other there same above. elim (true_or_false (other == rev)) [
      | inl e ↦ number_same other rev e
      | inr e ↦ false_is (sym (falls_along known heads reaches rev number other r none before at above (not_number other rev e) (let a = long in omega (arith, a, there)) (r.own other number (same ∙ at))) ∙ mark)
    ];
  },
  λ head. elim (true_or_false (slice_index_or heads rev false)) [
    | inl e ↦ e
    | inr e ↦ absurd (let f = r.fallen rev low e in let b = f.behind in
        let same = head.last f.other (let n = get_there (numbers_in known) rev (let a = long in omega (arith, a, low)) in get_low (numbers_in known) f.other n.0 (f.same ∙ n.1)) f.same f.above in omega (arith, same, b))
  ],
)
  where
    long : length (numbers_in known) ≡ length known
    long = length_map (λ (x : Known). x.branch) known

    number : ℕ
    number = (get_there (numbers_in known) rev (let a = long in omega (arith, a, low))).0

    at : slice_get (numbers_in known) rev ≡ Some number
    at = (get_there (numbers_in known) rev (let a = long in omega (arith, a, low))).1
