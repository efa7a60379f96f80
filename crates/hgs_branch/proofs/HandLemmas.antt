-- What changesets hand on to their parents.
use Rattle.std.proofs.Common.{◌≡◌, ◌≢◌, ◌⊎◌, ◌<◌, ◌≤◌, ℕ, zero, suc, ◌+◌, ◌*◌, Bool, true, false, ◌&&◌, ◌||◌, List, [], ◌∷◌, length, Option, Some, None, refl, sym, ◌∙◌, ap, subst, inl, inr, arith}
use Rattle.std.specs.Prelude.{◌==◌, nat_lt, slice_get, slice_index_or, slice_set, if◌then◌else◌}
use Rattle.std.proofs.lemmas.Bool.{cases_lt}
use Rattle.hgs_index.specs.Ancestor.{IsAncestor, itself, of_parent, IsParent}
use Rattle.hgs_index.specs.Revision.{Parents}
use Rattle.hgs_branch.specs.Reached.{bit_of, has_at, left_at, left_of, wide_at, words_of, AreMarked, Descends, Falls, Hands, IsFallen, IsHanded, IsLeftWithin, Reached, Receives}
use Rattle.hgs_branch.specs.Tracked.{numbers_in, parents_in}
use Rattle.hgs_branch.specs.declared.reach.Known.{Known}
use Rattle.hgs_branch.specs.declared.reach.Reach.{Reach}
use Rattle.hgs_branch.proofs.HistoryLemmas.{ancestor_further, parent_in, parent_of, HasParent}
use Rattle.hgs_branch.proofs.ListLemmas.{both, both_of, either, either_left, either_right, false_is, get_low, get_set_other, get_set_same, length_set, lt_is, is_lt, not_number, not_true, none_is, number_same, some_is, true_or_false}

-- ---- one parent

left_was : (a b : Bool) → (a || b) ≡ false → a ≡ false
left_was true b h = h
left_was false b h = refl

more_was : (a b : Bool) → (a || b) ≡ false → b ≡ false
more_was true b h = false_is (sym h)
more_was false b h = h

-- nothing is handed on
pub hands_nothing : (known : List Known) (heads : List Bool) (reaches : List Reach) (words : List ℕ) (rev : ℕ) (parent : Option ℕ) → ((c : ℕ) → parent ≡ Some c → c < rev → ⊥) → Hands known heads heads reaches reaches words rev parent None
hands_nothing known heads reaches words rev parent none = record {
  heads_count = refl;
  count = refl;
  behind = λ c le. refl;
  wide = λ c. refl;
  kept = λ c number h. h;
  from = λ c number h. inl h;
  handed = λ c number at lt. absurd (none c at lt);
  left_from = λ c h. inl h;
  still = λ c h. (h, refl);
  fell = λ c h. h;
  fell_from = λ c h. inl h;
  falls = λ c number at lt. absurd (none c at lt);
}

mark_set_same : (marks : List Bool) (n : ℕ) → slice_index_or (slice_set marks n false) n false ≡ false
mark_set_same [] n = refl
mark_set_same (x ∷ marks) zero = refl
mark_set_same (x ∷ marks) (suc n) = mark_set_same marks n

mark_set_other : (marks : List Bool) (n i : ℕ) → i ≢ n → slice_index_or (slice_set marks n false) i false ≡ slice_index_or marks i false
mark_set_other [] n i ne = refl
mark_set_other (x ∷ marks) zero zero ne = absurd (ne refl)
mark_set_other (x ∷ marks) zero (suc i) ne = refl
mark_set_other (x ∷ marks) (suc n) zero ne = refl
mark_set_other (x ∷ marks) (suc n) (suc i) ne = mark_set_other marks n i (λ e. ne (more i n e))
  where
    more : (a b : ℕ) → a ≡ b → suc a ≡ suc b
    more a b e = omega (arith, e)

pub falls_none : (known : List Known) (heads : List Bool) (words : List ℕ) (place : ℕ) → slice_get (numbers_in known) place ≡ None → Falls known heads heads words place
falls_none known heads words place none = record {
  count = refl;
  fell = λ c h. h;
  fell_from = λ c h. inl h;
  falls = λ number at. absurd (none_is number (sym none ∙ at));
}

pub falls_when : (known : List Known) (heads dropped : List Bool) (words : List ℕ) (place number : ℕ) (when : Bool) → slice_get (numbers_in known) place ≡ Some number → when ≡ bit_of words number → dropped ≡ (if when then slice_set heads place false else heads) → Falls known heads dropped words place
falls_when known heads dropped words place number true at is are = record {
  count = ap length are ∙ length_set heads place false;
  fell = λ c h. elim (true_or_false (c == place)) [
    | inl e ↦ here c (number_same c place e)
    | inr e ↦ ap (λ l. slice_index_or l c false) are ∙ mark_set_other heads place c (not_number c place e) ∙ h
  ];
  fell_from = λ c h. elim (true_or_false (c == place)) [
    | inl e ↦ (let same = number_same c place e in inr (sym same, number, ap (slice_get (numbers_in known)) same ∙ at, sym is))
    | inr e ↦ inl (sym (mark_set_other heads place c (not_number c place e)) ∙ ap (λ l. slice_index_or l c false) (sym are) ∙ h)
  ];
  falls = λ other at2 bit. here place refl;
}
  where
    here : (c : ℕ) → c ≡ place → slice_index_or dropped c false ≡ false
    here c e = ap (λ l. slice_index_or l c false) are ∙ ap (λ x. slice_index_or (slice_set heads place false) x false) e ∙ mark_set_same heads place
falls_when known heads dropped words place number false at is are = record {
  count = ap length are;
  fell = λ c h. ap (λ l. slice_index_or l c false) are ∙ h;
  fell_from = λ c h. inl (ap (λ l. slice_index_or l c false) (sym are) ∙ h);
  falls = λ other at2 bit. false_is (is ∙ ap (bit_of words) (some_is number other (sym at ∙ at2)) ∙ bit);
}

pub hands_to : (known : List Known) (heads dropped : List Bool) (reaches new : List Reach) (words : List ℕ) (rev place : ℕ) (parent : Option ℕ) (more : Bool) (next : Option ℕ) → parent ≡ Some place → place < rev → Falls known heads dropped words place → Receives reaches new place words more →
    next ≡ (if more then Some place else None) → Hands known heads dropped reaches new words rev parent next
hands_to known heads dropped reaches new words rev place parent more next is lt f r next_is = record {
  heads_count = f.count;
  count = r.count;
  behind = λ c le. r.others c (apart c le);
  wide = λ c. elim (true_or_false (c == place)) [
    | inl e ↦ (let same = number_same c place e in ap (wide_at new) same ∙ r.wide ∙ ap (wide_at reaches) (sym same))
    | inr e ↦ ap (λ o. length (words_of o)) (r.others c (not_number c place e))
  ];
  kept = λ c number h. elim (true_or_false (c == place)) [
    | inl e ↦ (let same = number_same c place e in ap (λ x. has_at new x number) same ∙ r.each number
        ∙ either_left (has_at reaches place number) (nat_lt number (64 * wide_at reaches place) && bit_of words number) (ap (λ x. has_at reaches x number) (sym same) ∙ h))
    | inr e ↦ ap (λ o. bit_of (words_of o) number) (r.others c (not_number c place e)) ∙ h
  ];
  from = λ c number h. elim (true_or_false (c == place)) [
    | inl e ↦ (let same = number_same c place e in
        elim (either (has_at reaches place number) (nat_lt number (64 * wide_at reaches place) && bit_of words number) (sym (r.each number) ∙ ap (λ x. has_at new x number) (sym same) ∙ h)) [
          | inl k ↦ inl (ap (λ x. has_at reaches x number) same ∙ k)
          | inr k ↦ inr (is ∙ ap (λ x. Some x) (sym same), lower c same, (both (nat_lt number (64 * wide_at reaches place)) (bit_of words number) k).1)
        ])
    | inr e ↦ inl (ap (λ o. bit_of (words_of o) number) (sym (r.others c (not_number c place e))) ∙ h)
  ];
  handed = λ c number at below inside bit. let same = some_is place c (sym is ∙ at) in
      ap (λ x. has_at new x number) (sym same) ∙ r.each number
      ∙ either_right (has_at reaches place number) (nat_lt number (64 * wide_at reaches place) && bit_of words number)
      (both_of (nat_lt number (64 * wide_at reaches place)) (bit_of words number) (is_lt number (64 * wide_at reaches place) (ap_inside c number same inside)) bit);
  left_from = λ c h. elim (true_or_false (c == place)) [
    | inl e ↦ (let same = number_same c place e in elim (either (left_at reaches place) more (sym r.left ∙ ap (left_at new) (sym same) ∙ h)) [
      | inl k ↦ inl (ap (left_at reaches) same ∙ k)
      | inr k ↦ inr (next_is ∙ ap (λ b. if b then Some place else None) k ∙ ap (λ x. Some x) (sym same), lower c same)
    ])
    | inr e ↦ inl (ap left_of (sym (r.others c (not_number c place e))) ∙ h)
  ];
  still = λ c h. elim (true_or_false (c == place)) [
    | inl e ↦ (let same = number_same c place e in let off = sym r.left ∙ ap (left_at new) (sym same) ∙ h in (
      ap (left_at reaches) same ∙ left_was (left_at reaches place) more off,
      ap (λ x. words_of (slice_get new x)) same ∙ r.none (more_was (left_at reaches place) more off) ∙ ap (λ x. words_of (slice_get reaches x)) (sym same),
    ))
    | inr e ↦ (let same = r.others c (not_number c place e) in (ap left_of (sym same) ∙ h, ap words_of same))
  ];
  fell = f.fell;
  fell_from = λ c h. elim (f.fell_from c h) [
    | inl k ↦ inl k
    | inr k ↦ inr (is ∙ ap (λ x. Some x) k.0, lower c (sym k.0), k.1, k.2, k.3)
  ];
  falls = λ c number at below there bit. let same = some_is place c (sym is ∙ at) in
      ap (λ x. slice_index_or dropped x false) (sym same) ∙ f.falls number (ap (slice_get (numbers_in known)) same ∙ there) bit;
}
  where
    apart : (c : ℕ) → rev ≤ c → c ≢ place
    apart c le e = omega (arith, le, e, lt)

    lower : (c : ℕ) → c ≡ place → c < rev
    lower c e = omega (arith, e, lt)

    ap_inside : (c number : ℕ) → place ≡ c → number < 64 * wide_at reaches c → number < 64 * wide_at reaches place
    ap_inside c number e h = subst (λ x. number < 64 * wide_at reaches x) (sym e) h

-- ---- both parents

-- what a changeset had was taken out, handed on to both parents, and put back
pub record Passes (known : List Known) (heads dropped last : List Bool) (reaches out next more new : List Reach) (words : List ℕ) (rev : ℕ) (changeset : Known) (reach back : Reach) (first second : Option ℕ) : Type 0 where
  pub there : slice_get known rev ≡ Some changeset
  pub has : slice_get reaches rev ≡ Some reach
  pub was : words ≡ reach.words.items
  pub taken : (c : ℕ) → c ≢ rev → slice_get out c ≡ slice_get reaches c
  pub out_count : length out ≡ length reaches
  pub one : Hands known heads dropped out next words rev changeset.p1 first
  pub two : Hands known dropped last next more words rev changeset.p2 second
  pub put : (c : ℕ) → c ≢ rev → slice_get new c ≡ slice_get more c
  pub new_count : length new ≡ length more
  pub back_there : slice_get new rev ≡ Some back
  pub back_words : back.words.items ≡ words
  pub back_left : back.left ≡ false

pub passed_wide : (known : List Known) (heads dropped last : List Bool) (reaches out next more new : List Reach) (words : List ℕ) (rev : ℕ) (changeset : Known) (reach back : Reach) (first second : Option ℕ) → Passes known heads dropped last reaches out next more new words rev changeset reach back first second → (c : ℕ) → wide_at new c ≡ wide_at reaches c
passed_wide known heads dropped last reaches out next more new words rev changeset reach back first second p c = elim (true_or_false (c == rev)) [
  | inl e ↦ (let same = number_same c rev e in ap (wide_at new) same ∙ ap length (ap words_of p.back_there ∙ p.back_words ∙ p.was ∙ sym (ap words_of p.has)) ∙ ap (wide_at reaches) (sym same))
  | inr e ↦ (let ne = not_number c rev e in ap (λ o. length (words_of o)) (p.put c ne) ∙ p.two.wide c ∙ p.one.wide c ∙ ap (λ o. length (words_of o)) (p.taken c ne))
]

pub passed_on : (known : List Known) (heads dropped last : List Bool) (reaches out next more new : List Reach) (words : List ℕ) (rev : ℕ) (changeset : Known) (reach back : Reach) (first second : Option ℕ) →
    Passes known heads dropped last reaches out next more new words rev changeset reach back first second → Reached known heads reaches → ((c : ℕ) → left_at reaches c ≡ true → c < rev + 1) → Reached known last new × ((c : ℕ) → left_at new c ≡ true → (c < rev) × ((left_at reaches c ≡ true) ⊎ ((first ≡ Some c) ⊎ (second ≡ Some c))))
passed_on known heads dropped last reaches out next more new words rev changeset reach back first second p r within = (
  record {
    heads_count = p.two.heads_count ∙ p.one.heads_count ∙ r.heads_count;
    reaches_count = p.new_count ∙ p.two.count ∙ p.one.count ∙ p.out_count ∙ r.reaches_count;
    own = λ c number at. kept c number (r.own c number at);
    inside = λ c number at. (let a = r.inside c number at in let b = width c in omega (arith, a, b));
    wide = λ a b le lt. (let w = r.wide a b le lt in let x = width a in let y = width b in omega (arith, w, x, y));
    bits = λ c number h. elim (from c number h) [ inl k ↦ r.bits c number k | inr k ↦ further c number k.0 k.1 (r.bits rev number (bit_was number k.2)) ];
    fallen = λ c lt h. elim (fell_from c h) [ inl k ↦ r.fallen c lt k | inr k ↦ falls_by c k.0 k.1 k.2 k.3 k.4 ];
    handed = λ c off. handed c off;
  },
  λ c h. left_within c h,
)
  where
    -- what stands at another changeset, in the end and before
    at_end : (c : ℕ) → c ≢ rev → slice_get new c ≡ slice_get more c
    at_end c ne = p.put c ne

    same_words : words_of (slice_get new rev) ≡ words_of (slice_get reaches rev)
    same_words = ap words_of p.back_there ∙ p.back_words ∙ p.was ∙ sym (ap words_of p.has)

    bit_was : (number : ℕ) → bit_of words number ≡ true → has_at reaches rev number ≡ true
    bit_was number bit = ap (λ o. bit_of (words_of o) number) p.has ∙ ap (λ w. bit_of w number) (sym p.was) ∙ bit

    width : (c : ℕ) → wide_at new c ≡ wide_at reaches c
    width c = passed_wide known heads dropped last reaches out next more new words rev changeset reach back first second p c

    kept : (c number : ℕ) → has_at reaches c number ≡ true → has_at new c number ≡ true
    kept c number h = elim (true_or_false (c == rev)) [
      | inl e ↦ (let same = number_same c rev e in ap (λ x. has_at new x number) same ∙ ap (λ w. bit_of w number) same_words ∙ ap (λ x. has_at reaches x number) (sym same) ∙ h)
      | inr e ↦ (let ne = not_number c rev e in ap (λ o. bit_of (words_of o) number) (at_end c ne) ∙ p.two.kept c number (p.one.kept c number (ap (λ o. bit_of (words_of o) number) (p.taken c ne) ∙ h)))
    ]

    from : (c number : ℕ) → has_at new c number ≡ true → (has_at reaches c number ≡ true) ⊎ (HasParent changeset c × (c < rev) × (bit_of words number ≡ true))
    from c number h = elim (true_or_false (c == rev)) [
      | inl e ↦ (let same = number_same c rev e in inl (ap (λ x. has_at reaches x number) same ∙ ap (λ w. bit_of w number) (sym same_words) ∙ ap (λ x. has_at new x number) (sym same) ∙ h))
      | inr e ↦ (let ne = not_number c rev e in elim (p.two.from c number (ap (λ o. bit_of (words_of o) number) (sym (at_end c ne)) ∙ h)) [
        | inr k ↦ inr (inr k.0, k.1, k.2)
        | inl k ↦ elim (p.one.from c number k) [
          | inr j ↦ inr (inl j.0, j.1, j.2)
          | inl j ↦ inl (ap (λ o. bit_of (words_of o) number) (sym (p.taken c ne)) ∙ j)
        ]
      ])
    ]

    further : (c number : ℕ) → HasParent changeset c → c < rev → Descends known rev number → Descends known c number
    further c number has lt d = record {
      other = d.other;
      behind = (let b = d.behind in omega (arith, b, lt));
      branch = d.branch;
      above = ancestor_further (parents_in known) c rev d.other (of_parent (parent_in known rev changeset c p.there has) itself) d.above;
    }

    fell_from : (c : ℕ) → slice_index_or last c false ≡ false → (slice_index_or heads c false ≡ false) ⊎ (HasParent changeset c × (c < rev) × (number : ℕ) × (slice_get (numbers_in known) c ≡ Some number) × (bit_of words number ≡ true))
    fell_from c h = elim (p.two.fell_from c h) [
      | inr k ↦ inr (inr k.0, k.1, k.2, k.3, k.4)
      | inl k ↦ elim (p.one.fell_from c k) [ inr j ↦ inr (inl j.0, j.1, j.2, j.3, j.4) | inl j ↦ inl j ]
    ]

    falls_by : (c : ℕ) → HasParent changeset c → c < rev → (number : ℕ) → slice_get (numbers_in known) c ≡ Some number → bit_of words number ≡ true → IsFallen known c
    falls_by c has lt number at bit =
        let d = r.bits rev number (bit_was number bit) in record {
          other = d.other;
          behind = (let b = d.behind in omega (arith, b, lt));
          same = d.branch ∙ sym at;
          above = ancestor_further (parents_in known) c rev d.other (of_parent (parent_in known rev changeset c p.there has) itself) d.above;
        }

    fell : (c : ℕ) → slice_index_or heads c false ≡ false → slice_index_or last c false ≡ false
    fell c h = p.two.fell c (p.one.fell c h)

    -- nothing is left at a changeset, and it has what it had
    still : (c : ℕ) → c ≢ rev → left_at new c ≡ false → (left_at reaches c ≡ false) × (words_of (slice_get new c) ≡ words_of (slice_get reaches c))
    still c ne off =
        let a = p.two.still c (ap left_of (sym (at_end c ne)) ∙ off) in
        let b = p.one.still c a.0 in
        (ap left_of (sym (p.taken c ne)) ∙ b.0, ap words_of (at_end c ne) ∙ a.1 ∙ b.1 ∙ ap words_of (p.taken c ne))

    -- a parent has all
    to_parent : (parent number : ℕ) → HasParent changeset parent → parent < rev → number < 64 * wide_at reaches parent → bit_of words number ≡ true → has_at new parent number ≡ true
    to_parent parent number has lt inside bit = ap (λ o. bit_of (words_of o) number) (at_end parent ne) ∙ elim has [
      | inl e ↦ p.two.kept parent number (p.one.handed parent number e lt (let w = taken_wide in omega (arith, inside, w)) bit)
      | inr e ↦ p.two.handed parent number e lt (let w = taken_wide in let x = p.one.wide parent in omega (arith, inside, w, x)) bit
    ]
      where
        ne : parent ≢ rev
        ne e = omega (arith, e, lt)

        taken_wide : wide_at out parent ≡ wide_at reaches parent
        taken_wide = ap (λ o. length (words_of o)) (p.taken parent ne)

    parent_falls : (parent number : ℕ) → HasParent changeset parent → parent < rev → slice_get (numbers_in known) parent ≡ Some number → bit_of words number ≡ true → slice_index_or last parent false ≡ false
    parent_falls parent number has lt at bit = elim has [
      | inl e ↦ p.two.fell parent (p.one.falls parent number e lt at bit)
      | inr e ↦ p.two.falls parent number e lt at bit
    ]

    handed_rev : IsHanded known last new rev
    handed_rev = record {
      bits = λ parent number par lt inside h. to_parent parent number (parent_of known rev changeset parent p.there par) lt (let w = width parent in omega (arith, inside, w)) (bit_in number h);
      head = λ parent number par lt at h. parent_falls parent number (parent_of known rev changeset parent p.there par) lt at (bit_in number h);
    }
      where
        bit_in : (number : ℕ) → has_at new rev number ≡ true → bit_of words number ≡ true
        bit_in number h = ap (λ w. bit_of w number) (sym p.back_words) ∙ ap (λ o. bit_of (words_of o) number) (sym p.back_there) ∙ h

    handed : (c : ℕ) → left_at new c ≡ false → IsHanded known last new c
    handed c off = elim (true_or_false (c == rev)) [
      | inl e ↦ subst (IsHanded known last new) (sym (number_same c rev e)) handed_rev
      | inr e ↦ (let s = still c (not_number c rev e) off in let k = r.handed c s.0 in record {
        bits = λ parent number par lt inside h. kept parent number (k.bits parent number par lt (let w = width parent in omega (arith, inside, w)) (ap (λ w. bit_of w number) (sym s.1) ∙ h));
        head = λ parent number par lt at h. fell parent (k.head parent number par lt at (ap (λ w. bit_of w number) (sym s.1) ∙ h));
      })
    ]

    left_within : (c : ℕ) → left_at new c ≡ true → (c < rev) × ((left_at reaches c ≡ true) ⊎ ((first ≡ Some c) ⊎ (second ≡ Some c)))
    left_within c h = elim (true_or_false (c == rev)) [
      | inl e ↦ false_is (sym (ap left_of p.back_there ∙ p.back_left) ∙ ap (left_at new) (sym (number_same c rev e)) ∙ h)
      | inr e ↦ (let ne = not_number c rev e in elim (p.two.left_from c (ap left_of (sym (at_end c ne)) ∙ h)) [
        | inr k ↦ (k.1, inr (inr k.0))
        | inl k ↦ elim (p.one.left_from c k) [
          | inr j ↦ (j.1, inr (inl j.0))
          | inl j ↦ (let was = ap left_of (sym (p.taken c ne)) ∙ j in (low_not c (within c was) ne, inl was))
        ]
      ])
    ]
      where
        low_not : (x : ℕ) → x < rev + 1 → x ≢ rev → x < rev
        low_not x l ne = omega (arith, l, ne)

-- where nothing is left at a changeset
pub nothing_left : (reaches : List Reach) (marks : List ℕ) (new rev : ℕ) → left_at reaches rev ≡ false → AreMarked reaches marks new (rev + 1) → AreMarked reaches marks new rev
nothing_left reaches marks new rev off are c h = let k = are c h in let lt = k.0 in (low_not c lt (λ e. false_is (sym off ∙ ap (left_at reaches) (sym e) ∙ h)), k.1)
  where
    low_not : (x : ℕ) → x < rev + 1 → x ≢ rev → x < rev
    low_not x l ne = omega (arith, l, ne)

-- the parents that have something to hand on are marked
pub parents_marked : (reaches new_reaches : List Reach) (marks more most : List ℕ) (new rev : ℕ) (first second : Option ℕ) → rev ≤ 64 * length marks → AreMarked reaches marks new (rev + 1) → ((c : ℕ) → left_at new_reaches c ≡ true → (c < rev) × ((left_at reaches c ≡ true) ⊎ ((first ≡ Some c) ⊎ (second ≡ Some c)))) →
    ((c : ℕ) → bit_of marks c ≡ true → bit_of more c ≡ true) → ((c : ℕ) → first ≡ Some c → c < 64 * length marks → bit_of more c ≡ true) → ((c : ℕ) → bit_of more c ≡ true → bit_of most c ≡ true) → ((c : ℕ) → second ≡ Some c → c < 64 * length marks → bit_of most c ≡ true) → AreMarked new_reaches most new rev
parents_marked reaches new_reaches marks more most new rev first second wide are left kept one kept2 two c h =
    let k = left c h in let lt = k.0 in (
      lt,
      elim k.1 [
        | inl was ↦ elim (are c was).1 [ inl le ↦ inl le | inr bit ↦ inr (kept2 c (kept c bit)) ]
        | inr e ↦ inr (elim e [ inl f ↦ kept2 c (one c f (omega (arith, lt, wide))) | inr s ↦ two c s (omega (arith, lt, wide)) ])
      ],
    )

-- nothing is left at those that are passed
pub passed_by : (reaches : List Reach) (marks : List ℕ) (new next rev : ℕ) → ((c : ℕ) → next < c → c < rev → (c < new) × (bit_of marks c ≡ false)) → AreMarked reaches marks new rev → AreMarked reaches marks new (next + 1)
passed_by reaches marks new next rev passed are c h = let k = are c h in (
  elim (cases_lt c (next + 1)) [
    | inl low ↦ low
    | inr past ↦ (let lt = k.0 in let p = passed c (omega (arith, past)) lt in elim k.1 [ inl le ↦ (let l = p.0 in absurd (omega (arith, le, l))) | inr bit ↦ false_is (sym p.1 ∙ bit) ])
  ],
  k.1,
)

pub none_passed : (reaches : List Reach) (marks : List ℕ) (new rev : ℕ) → ((c : ℕ) → c < rev → (c < new) × (bit_of marks c ≡ false)) → AreMarked reaches marks new rev → IsLeftWithin reaches 0 0
none_passed reaches marks new rev passed are c h = let k = are c h in let p = passed c k.0 in elim k.1 [ inl le ↦ (let l = p.0 in absurd (omega (arith, le, l))) | inr bit ↦ false_is (sym p.1 ∙ bit) ]

pub first_marked : (reaches : List Reach) (marks : List ℕ) (new high : ℕ) → IsLeftWithin reaches new high → AreMarked reaches marks new high
first_marked reaches marks new high w c h = let k = w c h in (k.1, inl k.0)

-- no changeset has this number
pub no_reach : (known : List Known) (heads : List Bool) (reaches : List Reach) (rev : ℕ) → length known ≤ rev → Reached known heads reaches → left_at reaches rev ≡ false
no_reach known heads reaches rev past r = by (slice_get reaches rev) refl
  where
    by : (o : Option Reach) → slice_get reaches rev ≡ o → left_of o ≡ false
    by None e = refl
    by (Some x) e = absurd (let lt = get_low reaches rev x e in let n = r.reaches_count in omega (arith, lt, n, past))

pub put_there : (reaches : List Reach) (rev : ℕ) (reach back : Reach) (new : List Reach) → slice_get reaches rev ≡ Some reach → length new ≡ length reaches → slice_get (slice_set new rev back) rev ≡ Some back
put_there reaches rev reach back new there count = get_set_same new rev back (let lt = get_low reaches rev reach there in omega (arith, lt, count))

pub put_others : (reaches : List Reach) (rev : ℕ) (back : Reach) (c : ℕ) → c ≢ rev → slice_get (slice_set reaches rev back) c ≡ slice_get reaches c
put_others reaches rev back c ne = get_set_other reaches rev c back ne

-- ---- all

pub within_less : (reaches : List Reach) (low from high : ℕ) → from ≤ low → IsLeftWithin reaches low high → IsLeftWithin reaches from high
within_less reaches low from high le w rev h = let k = w rev h in let a = k.0 in (omega (arith, a, le), k.1)

pub none_within : (reaches : List Reach) (low high : ℕ) → high ≤ low → IsLeftWithin reaches low high → IsLeftWithin reaches 0 0
none_within reaches low high le w rev h = absurd (let k = w rev h in let a = k.0 in let b = k.1 in omega (arith, a, b, le))

pub none_left : (reaches : List Reach) (rev : ℕ) → IsLeftWithin reaches 0 0 → left_at reaches rev ≡ false
none_left reaches rev w = not_true (left_at reaches rev) (λ h. let k = (w rev h).1 in omega (arith, k))
