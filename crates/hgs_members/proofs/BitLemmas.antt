-- Marks as the bits of words.
use Rattle.std.proofs.Common.{◌≡◌, ◌≢◌, ℕ, zero, suc, min, max, ◌+◌, ◌-◌, ◌*◌, ◌/◌, ◌%◌, ◌^◌, ◌<◌, ◌≤◌, Bool, true, false, not, ◌&&◌, eqb, List, length, replicate, get_or, set, refl, sym, ◌∙◌, ap, inl, inr, arith, ext_get_or, length-set, get_or-set_same, get_or-set_other, eq-eqb, ne_eqb, w64}
use Rattle.std.proofs.lemmas.List.{length-replicate, get_or-replicate, get_or_past, set_past}
use Rattle.std.proofs.lemmas.List.FromFn.{length-map-range_with_len, get_or-map-range_with_len}
use Rattle.std.proofs.lemmas.Bool.{cases_eq, cases_lt}
use Rattle.std.proofs.lemmas.Nat.{one_shl, pow_pos}
use Rattle.std.proofs.lemmas.Nat.Bits.{bit_at-lt, bit_at-zero, bit_at_ones, bit_at_and, bit_at_or, bit_at_set_same, bit_at_set_other, bit_at_clear_same, bit_at_clear_other, and_pow}
use Rattle.std.specs.Prelude.{bit_and, bit_or, ◌||◌}
use Rattle.std.specs.Int.{bit_at, bit_not}
use Rattle.hgs_members.specs.Bits.{bit_of, bits_of, words_for}

pub length-bits_of : (words : List ℕ) (count : ℕ) → length (bits_of words count) ≡ count
unfolding bits_of
length-bits_of words count = length-map-range_with_len (bit_of words) 0 count

pub get_or-bits_of : (words : List ℕ) (count k : ℕ) → k < count → get_or (bits_of words count) k false ≡ bit_of words k
unfolding bits_of
get_or-bits_of words count k h = get_or-map-range_with_len (bit_of words) 0 count k k false h (omega arith)

pub bits_past : (words : List ℕ) (count k : ℕ) → count ≤ k → get_or (bits_of words count) k false ≡ false
bits_past words count k le = get_or_past (bits_of words count) k false (let n = length-bits_of words count in omega (arith, n, le))

-- lists of so many bits that are the same one by one
pub bits_same : (words : List ℕ) (count : ℕ) (marks : List Bool) → length marks ≡ count → ((k : ℕ) → k < count → bit_of words k ≡ get_or marks k false) → bits_of words count ≡ marks
bits_same words count marks counted same =
    ext_get_or false _ _ (length-bits_of words count ∙ sym counted) (λ k h. let lt : k < count = (let n = length-bits_of words count in omega (arith, h, n)) in get_or-bits_of words count k lt ∙ same k lt)

-- the place of a bit among the words
pub word_in : (count n : ℕ) → n < count → n / 64 < words_for count
word_in count n lt = omega (arith, lt)

-- the test `word & bit != 0`
pub bit_set : (word k : ℕ) → k < 64 → not (eqb (bit_and word (1 * 2 ^ k % 2 ^ 64)) 0) ≡ eqb (bit_at word k) 1
bit_set word k h =
    let e : bit_and word (1 * 2 ^ k % 2 ^ 64) ≡ bit_at word k * 2 ^ k = ap (bit_and word) (one_shl k 64 h) ∙ and_pow word k in
    let b : ℕ = bit_at word k in
    let small : b < 2 = bit_at-lt word k in
    elim (cases_eq b 1) [
      | inl one ↦
          let big : 0 < bit_and word (1 * 2 ^ k % 2 ^ 64) = rw (e, one) (omega (arith, pow_pos k)) in
          ap not (ne_eqb _ 0 (omega (arith, big))) ∙ sym (eq-eqb b 1 one)
      | inr other ↦
          let none : b ≡ 0 = omega (arith, small, other) in
          ap not (eq-eqb _ 0 (rw (e, none) (omega arith))) ∙ sym (ne_eqb b 1 other)
    ]

-- ---- one bit

-- another bit of a word, or a bit of another word
other-stays : (words : List ℕ) (n k v : ℕ) → n / 64 < length words → k ≢ n → ((i : ℕ) → i < 64 → i ≢ n % 64 → bit_at v i ≡ bit_at (get_or words (n / 64) 0) i) → bit_of (set words (n / 64) v) k ≡ bit_of words k
other-stays words n k v within other same =
    elim (cases_eq (k / 64) (n / 64)) as (λ _. bit_of (set words (n / 64) v) k ≡ bit_of words k) [
      | inl row ↦
          ap (λ x. eqb (bit_at (get_or (set words (n / 64) v) x 0) (k % 64)) 1) row
          ∙ ap (λ x. eqb (bit_at x (k % 64)) 1) (get_or-set_same words (n / 64) v 0 within)
          ∙ ap (λ x. eqb x 1) (same (k % 64) (omega arith) (λ e. other (omega (arith, e, row))))
          ∙ ap (λ x. eqb (bit_at (get_or words x 0) (k % 64)) 1) (sym row)
      | inr apart ↦ ap (λ x. eqb (bit_at x (k % 64)) 1) (get_or-set_other words (n / 64) (k / 64) v 0 apart)
    ]

put-bit : (words : List ℕ) (count n v : ℕ) (b : Bool) → n < count → length words ≡ words_for count → eqb (bit_at v (n % 64)) 1 ≡ b → ((i : ℕ) → i < 64 → i ≢ n % 64 → bit_at v i ≡ bit_at (get_or words (n / 64) 0) i) →
    bits_of (set words (n / 64) v) count ≡ set (bits_of words count) n b
put-bit words count n v b lt room here same =
    let within : n / 64 < length words = omega (arith, lt, room) in
    let inside : n < length (bits_of words count) = (let m = length-bits_of words count in omega (arith, m, lt)) in
    bits_same (set words (n / 64) v) count (set (bits_of words count) n b) (length-set (bits_of words count) n b ∙ length-bits_of words count) (λ k low.
    elim (cases_eq k n) as (λ _. bit_of (set words (n / 64) v) k ≡ get_or (set (bits_of words count) n b) k false) [
      | inl e ↦
          rw e
          (ap (λ x. eqb (bit_at x (n % 64)) 1) (get_or-set_same words (n / 64) v 0 within) ∙ here ∙ sym (get_or-set_same (bits_of words count) n b false inside))
      | inr other ↦ other-stays words n k v within other same ∙ sym (get_or-bits_of words count k low) ∙ sym (get_or-set_other (bits_of words count) n k b false other)
    ])

pub bit_added : (words : List ℕ) (count n word : ℕ) → n < count → length words ≡ words_for count → word ≡ get_or words (n / 64) 0 → bits_of (set words (n / 64) (bit_or word (1 * 2 ^ (n % 64) % 2 ^ 64))) count ≡ set (bits_of words count) n true
bit_added words count n word lt room read =
    let low : n % 64 < 64 = omega arith in
    put-bit words count n (bit_or word (1 * 2 ^ (n % 64) % 2 ^ 64)) true lt room (eq-eqb _ 1 (bit_at_set_same w64 word (n % 64) low))
    (λ i within other. bit_at_set_other w64 word (n % 64) low i other ∙ ap (λ x. bit_at x i) read)

pub bit_removed : (words : List ℕ) (count n word : ℕ) → n < count → length words ≡ words_for count → word ≡ get_or words (n / 64) 0 →
    bits_of (set words (n / 64) (bit_and word (bit_not w64 (1 * 2 ^ (n % 64) % 2 ^ 64)))) count ≡ set (bits_of words count) n false
bit_removed words count n word lt room read =
    let low : n % 64 < 64 = omega arith in
    put-bit words count n (bit_and word (bit_not w64 (1 * 2 ^ (n % 64) % 2 ^ 64))) false lt room (ne_eqb _ 1 (let e = bit_at_clear_same w64 word (n % 64) low in omega (arith, e)))
    (λ i within other. bit_at_clear_other w64 word (n % 64) low i within other ∙ ap (λ x. bit_at x i) read)

-- a bit that is not there
pub bit_past : (words : List ℕ) (count n : ℕ) (b : Bool) → count ≤ n → set (bits_of words count) n b ≡ bits_of words count
bit_past words count n b le = set_past (bits_of words count) n b (let m = length-bits_of words count in omega (arith, m, le))

-- ---- all bits

pub bits_of_zeros : (n count : ℕ) → bits_of (replicate n 0) count ≡ replicate count false
bits_of_zeros n count =
    bits_same (replicate n 0) count (replicate count false) (length-replicate count false) (λ k lt.
    zero-word k ∙ sym (get_or-replicate count k false false lt))
  where
    word : (k : ℕ) → get_or (replicate {A = ℕ} n 0) (k / 64) 0 ≡ 0
    word k = elim (cases_lt (k / 64) n) [
      | inl low ↦ get_or-replicate n (k / 64) 0 0 low
      | inr high ↦ get_or_past (replicate {A = ℕ} n 0) (k / 64) 0 (let m = length-replicate {A = ℕ} n 0 in omega (arith, m, high))
    ]

    zero-word : (k : ℕ) → bit_of (replicate n 0) k ≡ false
    zero-word k = ap (λ x. eqb (bit_at x (k % 64)) 1) (word k) ∙ ap (λ x. eqb x 1) (bit_at-zero (k % 64))

pub bits_of_ones : (count : ℕ) → bits_of (replicate (words_for count) (2 ^ 64 - 1)) count ≡ replicate count true
bits_of_ones count =
    bits_same (replicate (words_for count) (2 ^ 64 - 1)) count (replicate count true) (length-replicate count true) (λ k lt.
    ap (λ x. eqb (bit_at x (k % 64)) 1) (get_or-replicate (words_for count) (k / 64) (2 ^ 64 - 1) 0 (omega (arith, lt)))
    ∙ eq-eqb _ 1 (bit_at_ones 64 (k % 64) (omega arith)) ∙ sym (get_or-replicate count k true false lt))

-- ---- two lists of words

-- the same of each bit, where it is the same of each word
pub record Each (f : Bool → Bool → Bool) (left right new : List ℕ) : Type 0 where
  pub count : length new ≡ length left
  pub bits : (i k : ℕ) → i < length left → k < 64 → eqb (bit_at (get_or new i 0) k) 1 ≡ f (eqb (bit_at (get_or left i 0) k) 1) (eqb (bit_at (get_or right i 0) k) 1)

pub bits_by : (f : Bool → Bool → Bool) (left right new : List ℕ) (count k : ℕ) → length left ≡ words_for count → k < count → Each f left right new → get_or (bits_of new count) k false ≡ f (get_or (bits_of left count) k false) (get_or (bits_of right count) k false)
bits_by f left right new count k room lt each =
    get_or-bits_of new count k lt
    ∙ each.bits (k / 64) (k % 64) (omega (arith, lt, room)) (omega arith)
    ∙ ap (λ b. f b (bit_of right k)) (sym (get_or-bits_of left count k lt))
    ∙ ap (λ b. f (get_or (bits_of left count) k false) b) (sym (get_or-bits_of right count k lt))

and-bit : (a b : ℕ) → a < 2 → b < 2 → eqb (min a b) 1 ≡ (eqb a 1 && eqb b 1)
and-bit zero zero h k = refl
and-bit zero (suc zero) h k = refl
and-bit (suc zero) zero h k = refl
and-bit (suc zero) (suc zero) h k = refl
and-bit a (suc (suc b)) h k = absurd (omega (arith, k))
and-bit (suc (suc a)) b h k = absurd (omega (arith, h))

or-bit : (a b : ℕ) → a < 2 → b < 2 → eqb (max a b) 1 ≡ (eqb a 1 || eqb b 1)
or-bit zero zero h k = refl
or-bit zero (suc zero) h k = refl
or-bit (suc zero) zero h k = refl
or-bit (suc zero) (suc zero) h k = refl
or-bit a (suc (suc b)) h k = absurd (omega (arith, k))
or-bit (suc (suc a)) b h k = absurd (omega (arith, h))

pub and_each : (left right new : List ℕ) → length new ≡ length left → ((i : ℕ) → i < length left → get_or new i 0 ≡ bit_and (get_or left i 0) (get_or right i 0)) → Each (λ a b. a && b) left right new
and_each left right new counted is = record {
  count = counted;
  bits = λ i k lt low. (let a = get_or left i 0 in let b = get_or right i 0 in ap (λ x. eqb (bit_at x k) 1) (is i lt) ∙ ap (λ x. eqb x 1) (bit_at_and a b k) ∙ and-bit (bit_at a k) (bit_at b k) (bit_at-lt a k) (bit_at-lt b k));
}

pub or_each : (left right new : List ℕ) → length new ≡ length left → ((i : ℕ) → i < length left → get_or new i 0 ≡ bit_or (get_or left i 0) (get_or right i 0)) → Each (λ a b. a || b) left right new
or_each left right new counted is = record {
  count = counted;
  bits = λ i k lt low. (let a = get_or left i 0 in let b = get_or right i 0 in ap (λ x. eqb (bit_at x k) 1) (is i lt) ∙ ap (λ x. eqb x 1) (bit_at_or a b k) ∙ or-bit (bit_at a k) (bit_at b k) (bit_at-lt a k) (bit_at-lt b k));
}

not-bit : (a : ℕ) → a < 2 → eqb (1 - a) 1 ≡ not (eqb a 1)
not-bit zero h = refl
not-bit (suc zero) h = refl
not-bit (suc (suc a)) h = absurd (omega (arith, h))

pub not_each : (old new : List ℕ) → length new ≡ length old → ((i k : ℕ) → i < length old → k < 64 → bit_at (get_or new i 0) k ≡ 1 - bit_at (get_or old i 0) k) → Each (λ a b. not a) old old new
not_each old new counted is = record {
  count = counted;
  bits = λ i k lt less. (let a = get_or old i 0 in ap (λ x. eqb x 1) (is i k lt less) ∙ not-bit (bit_at a k) (bit_at-lt a k));
}

-- the bits of the first n words are turned, the other words still stand
pub record Turned (n : ℕ) (old new : List ℕ) : Type 0 where
  pub count : length new ≡ length old
  pub below : (i k : ℕ) → i < n → k < 64 → bit_at (get_or new i 0) k ≡ 1 - bit_at (get_or old i 0) k
  pub behind : (i : ℕ) → n ≤ i → get_or new i 0 ≡ get_or old i 0

pub turned_first : (old : List ℕ) → Turned 0 old old
turned_first old = record { count = refl; below = λ i k lt less. absurd (omega (arith, lt)); behind = λ i le. refl }

pub turned_next : (n word is : ℕ) (old new more : List ℕ) → n < length new → word ≡ get_or new n 0 → ((k : ℕ) → k < 64 → bit_at is k ≡ 1 - bit_at word k) → more ≡ set new n is → Turned n old new → Turned (n + 1) old more
turned_next n word is old new more lt read bits made t = record {
  count = ap (λ ws. length ws) made ∙ length-set new n is ∙ t.count;
  below = λ i k l less. ap (λ ws. bit_at (get_or ws i 0) k) made ∙ elim (cases_eq i n) as (λ _. bit_at (get_or (set new n is) i 0) k ≡ 1 - bit_at (get_or old i 0) k) [
    | inr other ↦ ap (λ x. bit_at x k) (get_or-set_other new n i is 0 other) ∙ t.below i k (omega (arith, l, other)) less
    | inl same ↦
        ap (λ j. bit_at (get_or (set new n is) j 0) k) same
        ∙ ap (λ x. bit_at x k) (get_or-set_same new n is 0 lt)
        ∙ bits k less
        ∙ ap (λ x. 1 - bit_at x k) (read ∙ t.behind n (omega arith))
        ∙ ap (λ j. 1 - bit_at (get_or old j 0) k) (sym same)
  ];
  behind = λ i l. ap (λ ws. get_or ws i 0) made ∙ get_or-set_other new n i is 0 (λ e. absurd (omega (arith, l, e))) ∙ t.behind i (omega (arith, l));
}
