-- Bits of words, and what is known of a changeset by them.
use Rattle.std.proofs.Common.{◌≡◌, ◌≢◌, ◌⊎◌, ℕ, zero, suc, max, min, ◌+◌, ◌*◌, ◌/◌, ◌%◌, ◌^◌, ◌<◌, ◌≤◌, Bool, true, false, not, ◌&&◌, ◌||◌, eqb, List, [], ◌∷◌, length, replicate, get_or, set, Some, None, refl, sym, ◌∙◌, ap, inl, inr, arith, length-set, get_or-set_same, get_or-set_other, eq-eqb, ne_eqb, w64, pow-suc}
use Rattle.std.proofs.lemmas.List.{length-replicate, get_or-replicate, get_or_past}
use Rattle.std.proofs.lemmas.Bool.{cases_eq, cases_lt}
use Rattle.std.proofs.lemmas.Nat.{one_shl, pow_pos}
use Rattle.std.proofs.lemmas.Nat.Bits.{bit_at-lt, bit_at-zero, bit_at_above, bit_at_and, bit_at_ones, bit_at_ones_above, bit_at_or, bit_at_set_same, bit_at_set_other, and_pow, ones_shr}
use Rattle.std.specs.Int.{bit_at}
use Rattle.std.specs.Prelude.{◌==◌, ◌-◌, bit_and, bit_or, nat_lt, slice_get, slice_set}
use Rattle.hgs_branch.specs.Reached.{bit_of, has_at, left_at, left_of, wide_at, words_of, Receives}
use Rattle.hgs_branch.specs.declared.reach.Reach.{Reach}
use Rattle.hgs_branch.proofs.ListLemmas.{both_of, either_right, false_is, get_set_other, get_set_same, get_low, is_lt, length_set, lt_is, none_is, not_true}

-- ---- one bit

and_false : (a : Bool) → (a && false) ≡ false
and_false true = refl
and_false false = refl

or_false : (a : Bool) → a ≡ (a || false)
or_false true = refl
or_false false = refl

-- the test `word & bit != 0`
pub bit_set : (word k : ℕ) → k < 64 → not (eqb (bit_and word (1 * 2 ^ k % 2 ^ 64)) 0) ≡ eqb (bit_at word k) 1
bit_set word k h =
    let e : bit_and word (1 * 2 ^ k % 2 ^ 64) ≡ bit_at word k * 2 ^ k = ap (bit_and word) (one_shl k 64 h) ∙ and_pow word k in
    let b : ℕ = bit_at word k in
    let small : b < 2 = bit_at-lt word k in
    elim (cases_eq b 1) [
      | inl one ↦
          let big : 0 < bit_and word (1 * 2 ^ k % 2 ^ 64) = rw (e, one) (omega (arith, pow_pos k)) in
          ap not (ne_eqb _ 0 (omega (arith, big))) ∙ sym (eq-eqb b 1 one)
      | inr other ↦
          let none : b ≡ 0 = omega (arith, small, other) in
          ap not (eq-eqb _ 0 (rw (e, none) (omega arith))) ∙ sym (ne_eqb b 1 other)
    ]

pub bit_past : (words : List ℕ) (n : ℕ) → length words ≤ n / 64 → bit_of words n ≡ false
bit_past words n le = ap (λ x. eqb (bit_at x (n % 64)) 1) (get_or_past words (n / 64) 0 le) ∙ ap (λ x. eqb x 1) (bit_at-zero (n % 64))

pub no_bit : (n : ℕ) → bit_of [] n ≡ false
no_bit n = bit_past [] n (omega arith)

zero_word : (n i : ℕ) → get_or (replicate {A = ℕ} n 0) i 0 ≡ 0
zero_word n i = elim (cases_lt i n) [
  | inl low ↦ get_or-replicate n i 0 0 low
  | inr high ↦ get_or_past (replicate {A = ℕ} n 0) i 0 (let m = length-replicate {A = ℕ} n 0 in omega (arith, m, high))
]

pub zero_bit : (n k : ℕ) → bit_of (replicate n 0) k ≡ false
zero_bit n k = ap (λ x. eqb (bit_at x (k % 64)) 1) (zero_word n (k / 64)) ∙ ap (λ x. eqb x 1) (bit_at-zero (k % 64))

-- another bit of a word, or a bit of another word
other_stays : (words : List ℕ) (n k v : ℕ) → n / 64 < length words → k ≢ n → ((i : ℕ) → i < 64 → i ≢ n % 64 → bit_at v i ≡ bit_at (get_or words (n / 64) 0) i) → bit_of (set words (n / 64) v) k ≡ bit_of words k
other_stays words n k v within other same =
    elim (cases_eq (k / 64) (n / 64)) as (λ _. bit_of (set words (n / 64) v) k ≡ bit_of words k) [
      | inl row ↦
          ap (λ x. eqb (bit_at (get_or (set words (n / 64) v) x 0) (k % 64)) 1) row
          ∙ ap (λ x. eqb (bit_at x (k % 64)) 1) (get_or-set_same words (n / 64) v 0 within)
          ∙ ap (λ x. eqb x 1) (same (k % 64) (omega arith) (λ e. other (omega (arith, e, row))))
          ∙ ap (λ x. eqb (bit_at (get_or words x 0) (k % 64)) 1) (sym row)
      | inr apart ↦ ap (λ x. eqb (bit_at x (k % 64)) 1) (get_or-set_other words (n / 64) (k / 64) v 0 apart)
    ]

-- the one that is set
pub set_bit : (words : List ℕ) (n word k : ℕ) → n / 64 < length words → word ≡ get_or words (n / 64) 0 → bit_of (set words (n / 64) (bit_or word (1 * 2 ^ (n % 64) % 2 ^ 64))) k ≡ (bit_of words k || (nat_lt n (64 * length words) && k == n))
set_bit words n word k within read =
    let low : n % 64 < 64 = omega arith in
    let there = is_lt n (64 * length words) (omega (arith, within)) in
    elim (cases_eq k n) as (λ _. bit_of (set words (n / 64) (bit_or word (1 * 2 ^ (n % 64) % 2 ^ 64))) k ≡ (bit_of words k || (nat_lt n (64 * length words) && k == n))) [
      | inl e ↦
          ap (λ x. bit_of (set words (n / 64) (bit_or word (1 * 2 ^ (n % 64) % 2 ^ 64))) x) e
          ∙ ap (λ x. eqb (bit_at x (n % 64)) 1) (get_or-set_same words (n / 64) (bit_or word (1 * 2 ^ (n % 64) % 2 ^ 64)) 0 within)
          ∙ eq-eqb _ 1 (bit_at_set_same w64 word (n % 64) low)
          ∙ sym (either_right (bit_of words k) (nat_lt n (64 * length words) && k == n) (both_of (nat_lt n (64 * length words)) (k == n) there (eq-eqb k n e)))
      | inr other ↦
          other_stays words n k (bit_or word (1 * 2 ^ (n % 64) % 2 ^ 64)) within other (λ i inside apart. bit_at_set_other w64 word (n % 64) low i apart ∙ ap (λ x. bit_at x i) read)
          ∙ or_false (bit_of words k) ∙ ap (λ x. bit_of words k || x) (sym (ap (λ x. nat_lt n (64 * length words) && x) (ne_eqb k n other) ∙ and_false (nat_lt n (64 * length words))))
    ]

-- there is no word for it
pub set_none : (words : List ℕ) (n k : ℕ) → length words ≤ n / 64 → bit_of words k ≡ (bit_of words k || (nat_lt n (64 * length words) && k == n))
set_none words n k past = or_false (bit_of words k) ∙ ap (λ x. bit_of words k || (x && k == n)) (sym (not_true (nat_lt n (64 * length words)) (λ e. let lt = lt_is n (64 * length words) e in omega (arith, lt, past))))

-- ---- the lowest bits, and the highest

min_one : (b : ℕ) → b < 2 → min b 1 ≡ b
min_one b lt = omega (arith, lt)

low_mask : (count : ℕ) → count ≤ 64 → 18446744073709551615 / 2 ^ (64 - count) ≡ 2 ^ count - 1
low_mask count most = ones_shr 64 (64 - count) (omega arith) ∙ ap (λ k. 2 ^ k - 1) (back count most)
  where
    back : (n : ℕ) → n ≤ 64 → 64 - (64 - n) ≡ n
    back n le = omega (arith, le)

pub low_bit : (word count k : ℕ) → count ≤ 64 → k < count → bit_at (bit_and word (18446744073709551615 / 2 ^ (64 - count))) k ≡ bit_at word k
low_bit word count k most lt =
    ap (λ x. bit_at (bit_and word x) k) (low_mask count most) ∙ bit_at_and word (2 ^ count - 1) k ∙ ap (min (bit_at word k)) (bit_at_ones count k lt) ∙ min_one (bit_at word k) (bit_at-lt word k)

pub low_above : (word count k : ℕ) → count ≤ 64 → count ≤ k → bit_at (bit_and word (18446744073709551615 / 2 ^ (64 - count))) k ≡ 0
low_above word count k most le =
    ap (λ x. bit_at (bit_and word x) k) (low_mask count most) ∙ bit_at_and word (2 ^ count - 1) k ∙ ap (min (bit_at word k)) (bit_at_ones_above count k le) ∙ (omega arith)

pub high_above : (word top k : ℕ) → word < 2 * 2 ^ top → top < k → bit_at word k ≡ 0
high_above word top k lt le = bit_at_above word (suc top) k (omega (arith, lt, pow-suc 2 top)) (omega (arith, le))

-- no bit stands from one number on below another
abbrev pub HasNone : List ℕ → ℕ → ℕ → Type 0
HasNone words from below = (c : ℕ) → from ≤ c → c < below → bit_of words c ≡ false

-- the lowest bits of a word, before those below which no bit stands
pub record Part (words : List ℕ) (end place part : ℕ) : Type 0 where
  pub some : 0 < end
  pub place_is : place ≡ (end - 1) / 64
  pub below : (k : ℕ) → k < end - 64 * place → bit_at part k ≡ bit_at (get_or words place 0) k
  pub above : (k : ℕ) → end - 64 * place ≤ k → bit_at part k ≡ 0

pub part_none : (words : List ℕ) (end place below : ℕ) → Part words end place 0 → HasNone words end below → HasNone words (64 * place) below
part_none words end place below p none c le lt = elim (cases_lt c end) [
  | inr past ↦ none c past lt
  | inl low ↦ ap (λ x. eqb x 1) (ap (λ i. bit_at (get_or words i 0) (c % 64)) (at low) ∙ sym (p.below (c % 64) (fits low)) ∙ bit_at-zero (c % 64))
]
  where
    at : c < end → c / 64 ≡ place
    at low = let i = p.place_is in let s = p.some in omega (arith, i, s, low, le)

    fits : c < end → c % 64 < end - 64 * place
    fits low = let i = p.place_is in let s = p.some in omega (arith, i, s, low, le)

pub record Top (words : List ℕ) (end place low top : ℕ) : Type 0 where
  pub part : Part words end place low
  pub set : bit_at low top ≡ 1
  pub top_above : (k : ℕ) → top < k → bit_at low k ≡ 0
  pub bound : top < 64

pub top_low : (words : List ℕ) (end place part top : ℕ) → Top words end place part top → top < end - 64 * place
top_low words end place part top t = elim (cases_lt top (end - 64 * place)) [
  | inl low ↦ low
  | inr past ↦ absurd (let z = sym t.set ∙ t.part.above top past in omega (arith, z))
]

pub top_set : (words : List ℕ) (end place part top : ℕ) → Top words end place part top → bit_of words (64 * place + top) ≡ true
top_set words end place part top t =
    ap (λ i. eqb (bit_at (get_or words i 0) ((64 * place + top) % 64)) 1) (row t.bound) ∙ ap (λ i. eqb (bit_at (get_or words place 0) i) 1) (column t.bound)
    ∙ eq-eqb _ 1 (sym (t.part.below top (top_low words end place part top t)) ∙ t.set)
  where
    row : top < 64 → (64 * place + top) / 64 ≡ place
    row b = omega (arith, b)

    column : top < 64 → (64 * place + top) % 64 ≡ top
    column b = omega (arith, b)

pub top_last : (words : List ℕ) (end place below part top : ℕ) → Top words end place part top → HasNone words end below → (c : ℕ) → 64 * place + top < c → c < below → bit_of words c ≡ false
top_last words end place below part top t none c gt lt = elim (cases_lt c end) [
  | inr past ↦ none c past lt
  | inl low ↦ ap (λ x. eqb x 1) (ap (λ i. bit_at (get_or words i 0) (c % 64)) (at low) ∙ sym (t.part.below (c % 64) (fits low)) ∙ t.top_above (c % 64) (higher low))
]
  where
    at : c < end → c / 64 ≡ place
    at low = let i = t.part.place_is in let s = t.part.some in omega (arith, i, s, low, gt)

    fits : c < end → c % 64 < end - 64 * place
    fits low = let i = t.part.place_is in let s = t.part.some in omega (arith, i, s, low, gt)

    higher : c < end → top < c % 64
    higher low = let i = t.part.place_is in let s = t.part.some in omega (arith, i, s, low, gt)

-- ---- the bits of others

-- the first n words have the bits of others too, the rest still stands
pub record Joined (n : ℕ) (old others new : List ℕ) : Type 0 where
  pub count : length new ≡ length old
  pub below : (i : ℕ) → i < n → get_or new i 0 ≡ bit_or (get_or old i 0) (get_or others i 0)
  pub behind : (i : ℕ) → n ≤ i → get_or new i 0 ≡ get_or old i 0

pub joined_first : (old others : List ℕ) → Joined 0 old others old
joined_first old others = record { count = refl; below = λ i lt. absurd (omega (arith, lt)); behind = λ i le. refl }

or_below : (n i : ℕ) → i < n + 1 → (i < n) ⊎ (i ≡ n)
or_below n i l = elim (cases_eq i n) [ inl e ↦ inr e | inr ne ↦ inl (omega (arith, l, ne)) ]

joined_by : (n : ℕ) (old others new more : List ℕ) → length more ≡ length new → get_or more n 0 ≡ bit_or (get_or new n 0) (get_or others n 0) → ((i : ℕ) → i ≢ n → get_or more i 0 ≡ get_or new i 0) → Joined n old others new → Joined (n + 1) old others more
joined_by n old others new more count here others_stay j = record {
  count = count ∙ j.count;
  below = λ i l. elim (or_below n i l) [
    | inl b ↦ others_stay i (λ k. absurd (omega (arith, b, k))) ∙ j.below i b
    | inr b ↦ ap (λ k. get_or more k 0) b ∙ here ∙ ap (λ x. bit_or x (get_or others n 0)) (j.behind n (omega arith)) ∙ ap (λ k. bit_or (get_or old k 0) (get_or others k 0)) (sym b)
  ];
  behind = λ i l. others_stay i (λ k. absurd (omega (arith, l, k))) ∙ j.behind i (omega (arith, l));
}

pub joined_set : (n other word : ℕ) (old others new more : List ℕ) → n < length new → other ≡ get_or others n 0 → word ≡ get_or new n 0 → more ≡ set new n (bit_or word other) → Joined n old others new → Joined (n + 1) old others more
joined_set n other word old others new more lt of_others read is j =
    joined_by n old others new more (ap length is ∙ length-set new n (bit_or word other)) (ap (λ l. get_or l n 0) is ∙ get_or-set_same new n (bit_or word other) 0 lt ∙ ap (λ x. bit_or x other) read ∙ ap (bit_or (get_or new n 0)) of_others)
    (λ i ne. ap (λ l. get_or l i 0) is ∙ get_or-set_other new n i (bit_or word other) 0 ne) j

pub joined_same : (n other word : ℕ) (old others new : List ℕ) → other ≡ get_or others n 0 → word ≡ get_or new n 0 → bit_or word other ≡ word → Joined n old others new → Joined (n + 1) old others new
joined_same n other word old others new of_others read same j = joined_by n old others new new refl (sym read ∙ sym same ∙ ap (λ x. bit_or x other) read ∙ ap (bit_or (get_or new n 0)) of_others) (λ i ne. refl) j

or_bit : (a b : ℕ) → a < 2 → b < 2 → eqb (max a b) 1 ≡ (eqb a 1 || eqb b 1)
or_bit zero zero h k = refl
or_bit zero (suc zero) h k = refl
or_bit (suc zero) zero h k = refl
or_bit (suc zero) (suc zero) h k = refl
or_bit a (suc (suc b)) h k = absurd (omega (arith, k))
or_bit (suc (suc a)) b h k = absurd (omega (arith, h))

-- all that both have
pub joined_bits : (n : ℕ) (old others new : List ℕ) → n ≤ length old → (length old ≤ n) ⊎ (length others ≤ n) → Joined n old others new → (k : ℕ) → bit_of new k ≡ (bit_of old k || (nat_lt k (64 * length old) && bit_of others k))
joined_bits n old others new le done j k = elim (cases_lt (k / 64) n) [
  | inl low ↦
      (let a = get_or old (k / 64) 0 in let b = get_or others (k / 64) 0 in
      ap (λ x. eqb (bit_at x (k % 64)) 1) (j.below (k / 64) low) ∙ ap (λ x. eqb x 1) (bit_at_or a b (k % 64)) ∙ or_bit (bit_at a (k % 64)) (bit_at b (k % 64)) (bit_at-lt a (k % 64)) (bit_at-lt b (k % 64))
      ∙ ap (λ x. bit_of old k || (x && bit_of others k)) (sym (is_lt k (64 * length old) (omega (arith, low, le)))))
  | inr high ↦ ap (λ x. eqb (bit_at x (k % 64)) 1) (j.behind (k / 64) high) ∙ or_false (bit_of old k) ∙ ap (λ x. bit_of old k || x) (sym (elim done [
    | inl all ↦ ap (λ x. x && bit_of others k) (not_true (nat_lt k (64 * length old)) (λ e. past (lt_is k (64 * length old) e) high all))
    | inr short ↦ ap (λ x. nat_lt k (64 * length old) && x) (bit_past others k (omega (arith, high, short))) ∙ and_false (nat_lt k (64 * length old))
  ]))
]
  where
    past : k < 64 * length old → n ≤ k / 64 → length old ≤ n → ⊥
    past a b c = omega (arith, a, b, c)

-- ---- what a changeset was given

pub receives_none : (reaches : List Reach) (place : ℕ) (words : List ℕ) → slice_get reaches place ≡ None → Receives reaches reaches place words false
receives_none reaches place words none = record {
  count = refl;
  others = λ c ne. refl;
  wide = refl;
  each = λ number. or_false (has_at reaches place number) ∙ ap (λ x. has_at reaches place number || (x && bit_of words number)) (sym (not_true (nat_lt number (64 * wide_at reaches place)) (λ e. nothing number (lt_is number (64 * wide_at reaches place) e))));
  left = or_false (left_at reaches place);
  none = λ e. refl;
}
  where
    nothing : (number : ℕ) → number < 64 * wide_at reaches place → ⊥
    nothing number lt = let w = ap (λ o. length (words_of o)) none in omega (arith, lt, w)

pub receives_at : (reaches new : List Reach) (place : ℕ) (words : List ℕ) (reach later : Reach) (more : Bool) → slice_get reaches place ≡ Some reach → new ≡ slice_set reaches place later → length later.words.items ≡ length reach.words.items →
    ((number : ℕ) → bit_of later.words.items number ≡ (bit_of reach.words.items number || (nat_lt number (64 * length reach.words.items) && bit_of words number))) → later.left ≡ (reach.left || more) → (more ≡ false → later.words.items ≡ reach.words.items) → Receives reaches new place words more
receives_at reaches new place words reach later more there is wide each left none = record {
  count = ap length is ∙ length_set reaches place later;
  others = λ c ne. ap (λ l. slice_get l c) is ∙ get_set_other reaches place c later ne;
  wide = ap (λ o. length (words_of o)) at ∙ wide ∙ sym (ap (λ o. length (words_of o)) there);
  each = λ number. ap (λ o. bit_of (words_of o) number) at ∙ each number ∙ ap (λ o. bit_of (words_of o) number || (nat_lt number (64 * length (words_of o)) && bit_of words number)) (sym there);
  left = ap left_of at ∙ left ∙ ap (λ o. left_of o || more) (sym there);
  none = λ e. ap words_of at ∙ none e ∙ sym (ap words_of there);
}
  where
    at : slice_get new place ≡ Some later
    at = ap (λ l. slice_get l place) is ∙ get_set_same reaches place later (get_low reaches place reach there)
